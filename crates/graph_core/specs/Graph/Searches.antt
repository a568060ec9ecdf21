-- The tests of the searches for faults of a graph's lists. No public clause cites them.
use Rattle.std.specs.Prelude.{◌≡◌, ℕ, ◌%◌, not, ◌&&◌, ◌||◌, Bool, List, [], ◌∷◌, map, ◌==◌, nat_lt, None}
use Rattle.std.specs.List.{list_any}
use Rattle.graph_core.specs.declared.literal.Lit.{Lit}
use Rattle.graph_core.specs.Graph.Literals.{variable_of}
use Rattle.graph_core.specs.Graph.Assignments.{listed}
use Rattle.graph_core.specs.Aiger.{Listing}
use Rattle.graph_core.specs.Aiger.Refusal.{first_above, first_no_left, first_repeated, first_undefined, left_sides}

abbrev pub is_above : ℕ → Lit → Bool
is_above limit l = nat_lt limit l.0

abbrev pub is_no_left : Lit → Bool
is_no_left l = l.0 == 0 || l.0 % 2 == 1

-- the variable is neither the constant's nor marked in a table
abbrev pub is_unmarked : List Bool → Lit → Bool
is_unmarked marks l = not (variable_of l == 0) && not (listed marks (variable_of l))

abbrev pub gate_operands : Lit × Lit × Lit → List Lit
gate_operands t = t.1 ∷ t.2 ∷ []

-- The table marks these variables, and no others.
abbrev pub AreMarks : List ℕ → List Bool → Type 0
AreMarks vs marks = (v : ℕ) → listed marks v ≡ list_any (λ w. w == v) vs

-- The lists have no fault but maybe one of levels.
pub record AreSound (g : Listing) : Type 0 where
  pub above : first_above g ≡ None
  pub no_left : first_no_left g ≡ None
  pub repeated : first_repeated [] (map variable_of (left_sides g)) ≡ None
  pub undefined : first_undefined g ≡ None
