-- Clauses with the sets of the clauses of an extended graph's gates are in range.
use Rattle.std.specs.Prelude.{◌≢◌, ◌≤◌, ℕ, List, [], ◌∷◌, ℤ, pos, nat_abs}
use Rattle.std.specs.declared.result.Result.{Result}
use Rattle.std.specs.declared.result.Result.TheVariants.{Ok, Err}
use Rattle.std.specs.Result.{IfOk}
use Rattle.std.specs.List.{All, AllByRecursion, Contains}
use Rattle.std.proofs.lemmas.List.Elements.{All-contains, All-contains_itself, All-from_recursion, All-weaker, recursion_from_All}
use Rattle.graph_core.specs.declared.gate.Gate.{Gate}
use Rattle.graph_core.specs.Graph.Extended.{Extended}
use Rattle.graph_core.specs.Graph.Literals.{variable_of}
use Rattle.ripple_graft.specs.Extension.{IsExtension, IsReadable}
use Rattle.clause_core.specs.Clause.{Clause, IsClauseInRange, IsSubset}
use Rattle.clause_core.specs.GateClauses.{AreGatesWithin, gate_clauses}
use Rattle.clause_core.specs.Likeness.{AreSameSets}
use Rattle.clause_core.proofs.GateClauseLaws.{gate_clauses_are_in_range}

abbrev InRange : ℕ → ℤ → Type 0
InRange max l = (l ≢ pos 0) × (nat_abs l ≤ max)

pub range_subset : (max : ℕ) (c d : Clause) → IsSubset d c → IsClauseInRange max c → IsClauseInRange max d
range_subset max c d sub h = All-weaker (Contains d) (InRange max) (λ l k. All-contains (InRange max) c l h (sub l k)) d (All-contains_itself d)

sets_range : (max : ℕ) (cs ds : List Clause) → AreSameSets cs ds → AllByRecursion (IsClauseInRange max) ds → AllByRecursion (IsClauseInRange max) cs
sets_range max [] [] same h = tt
sets_range max [] (d ∷ ds) same h = absurd same
sets_range max (c ∷ cs) [] same h = absurd same
sets_range max (c ∷ cs) (d ∷ ds) same h = (range_subset max d c same.0.0 h.0, sets_range max cs ds same.1 h.1)

both_all : {X : Type 0} (P Q : X → Type 0) (xs : List X) → AllByRecursion P xs → AllByRecursion Q xs → AllByRecursion (λ x. P x × Q x) xs
both_all P Q [] h k = tt
both_all P Q (x ∷ xs) h k = ((h.0, k.0), both_all P Q xs h.1 k.1)

gates_within : (e : Extended) → IsExtension e → AreGatesWithin e.max e.gates
gates_within e x = record {
  own = All-from_recursion (λ g. (1 ≤ g.v) × (g.v ≤ e.max)) e.gates
      (both_all (λ g. 1 ≤ g.v) (λ g. g.v ≤ e.max) e.gates (recursion_from_All (λ g. 1 ≤ g.v) e.gates x.defined_once.gates) (recursion_from_All (λ g. g.v ≤ e.max) e.gates x.gates_in_range));
  operands = All-weaker (λ g. IsReadable e g.left × IsReadable e g.right) (λ g. (variable_of g.left ≤ e.max) × (variable_of g.right ≤ e.max)) (λ g h. (h.0.0, h.1.0)) e.gates x.operands;
}

-- clauses of these sets are in range
pub within_range : (max : ℕ) (gates : List Gate) (cs : List Clause) → AreGatesWithin max gates → AreSameSets cs (gate_clauses gates) → All (IsClauseInRange max) cs
within_range max gates cs within same = All-from_recursion (IsClauseInRange max) cs
    (sets_range max cs (gate_clauses gates) same (recursion_from_All (IsClauseInRange max) (gate_clauses gates) (gate_clauses_are_in_range max gates within)))

clauses_in_range : (e : Extended) (cs : List Clause) → IsExtension e → AreSameSets cs (gate_clauses e.gates) → All (IsClauseInRange e.max) cs
clauses_in_range e cs x same = within_range e.max e.gates cs (gates_within e x) same

pub in_range_ok : {E : Type 0} (e : Extended) (r : Result (List Clause) E) → IsExtension e → IfOk r (λ clauses. AreSameSets clauses (gate_clauses e.gates)) →
    IfOk r (λ clauses. All (IsClauseInRange e.max) clauses)
in_range_ok e (Ok clauses) made same = clauses_in_range e clauses made same
in_range_ok e (Err fail) made same = same
