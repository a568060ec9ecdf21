-- Where unit propagation over the clauses of gates rests, as marks on literals show it. Private clauses alone cite this file.
use Rattle.std.specs.Prelude.{◌≡◌, ◌≢◌, ℕ, ◌+◌, ◌*◌, ◌^◌, ◌<◌, ◌⊎◌, Bool, true, false, List, [], ◌∷◌, ℤ, pos, negsuc, neg_ℤ, slice_index_or}
use Rattle.std.specs.List.{Any}
use Rattle.graph_core.specs.declared.literal.Lit.{Lit}
use Rattle.graph_core.specs.declared.gate.Gate.{Gate}
use Rattle.graph_core.specs.Graph.Literals.{inverted, negation_of, plain}

-- the mark of the literal with this number
abbrev pub mark_at : List Bool → ℕ → Bool
mark_at marks n = slice_index_or marks n false

abbrev pub is_marked : List Bool → Lit → Bool
is_marked marks l = mark_at marks l.0

-- a literal whose negation isn't marked
abbrev pub IsPossible : List Bool → Lit → Type 0
IsPossible marks l = is_marked marks (negation_of l) ≡ false

-- another possible literal
abbrev pub IsOther : List Bool → Lit → Lit → Type 0
IsOther marks l m = (m ≢ l) × IsPossible marks m

-- a possible literal that is marked, or isn't the only possible one
abbrev pub RestsAt : List Bool → List Lit → Lit → Type 0
RestsAt marks lits l = IsPossible marks l × ((is_marked marks l ≡ true) ⊎ Any (IsOther marks l) lits)

-- A clause of these literals isn't false, and forces no literal that isn't marked.
abbrev pub IsAtRest : List Bool → List Lit → Type 0
IsAtRest marks lits = Any (RestsAt marks lits) lits

-- the three clauses of a gate
pub record IsGateAtRest (marks : List Bool) (g : Gate) : Type 0 where
  pub small : g.v < 2 ^ 31
  pub left : IsAtRest marks (inverted g.v ∷ g.left ∷ [])
  pub right : IsAtRest marks (inverted g.v ∷ g.right ∷ [])
  pub both : IsAtRest marks (plain g.v ∷ negation_of g.left ∷ negation_of g.right ∷ [])

-- the number of a signed variable's literal
abbrev pub literal_number : ℤ → ℕ
literal_number (pos v) = 2 * v
literal_number (negsuc v) = 2 * v + 3

-- a signed variable whose negation is marked, and itself not
abbrev pub IsOpposed : List Bool → ℤ → Type 0
IsOpposed marks k = (mark_at marks (literal_number (neg_ℤ k)) ≡ true) × (mark_at marks (literal_number k) ≡ false)
