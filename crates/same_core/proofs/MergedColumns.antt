-- The columns of merged gates: how many there are, which variables they name, and their goals.
use Rattle.std.specs.Prelude.{◌≡◌, ℕ, ◌+◌, ◌≤◌, List, [], ◌∷◌, length}
use Rattle.std.specs.List.{All, AllByRecursion, flat_map}
use Rattle.std.proofs.Common.{refl, sym, subst, arith}
use Rattle.std.proofs.lemmas.List.Elements.{All-from_recursion, recursion_from_All}
use Rattle.graph_core.specs.declared.gate.Gate.{Gate}
use Rattle.graph_core.specs.declared.literal.Lit.{Lit}
use Rattle.graph_core.specs.Graph.Literals.{variable_of}
use Rattle.clause_core.specs.Clause.{Clause, IsClauseInRange}
use Rattle.clause_core.specs.GateClauses.{gate_clauses}
use Rattle.clause_core.specs.Likeness.{AreSameSets}
use Rattle.goal_refuter.specs.Refutations.{unmet_goals, unmet_of}
use Rattle.goal_refuter.specs.Refuting.{AreOver}
use Rattle.goal_refuter.proofs.GoalClauses.{unmet_range}
use Rattle.miter_encoder.specs.ColumnGoals.{columns_from}
use Rattle.same_core.specs.Merged.{Both, over}
use Rattle.same_core.specs.Places.{IsMerged}

pub length-columns_from : (k : ℕ) (pairs : List (Lit × Lit)) → length (columns_from k pairs) ≡ length pairs
length-columns_from k [] = refl
length-columns_from k (p ∷ pairs) = let rest = length-columns_from (k + 1) pairs in omega (arith, rest)

columns_low : (max k : ℕ) (pairs : List (Lit × Lit)) → AllByRecursion (λ p. (variable_of p.0 ≤ max) × (variable_of p.1 ≤ max)) pairs →
    AllByRecursion (λ c. (variable_of c.old ≤ max) × (variable_of c.new ≤ max)) (columns_from k pairs)
columns_low max k [] h = tt
columns_low max k (p ∷ pairs) h = (h.0, columns_low max (k + 1) pairs h.1)

pub goals_range : (b : Both) → IsMerged b → All (IsClauseInRange b.max) (unmet_goals (over b))
goals_range b merged =
    unmet_range (over b) (All-from_recursion (λ c. (variable_of c.old ≤ b.max) × (variable_of c.new ≤ b.max)) (columns_from 0 b.pairs)
    (columns_low b.max 0 b.pairs (recursion_from_All (λ p. (variable_of p.0 ≤ b.max) × (variable_of p.1 ≤ b.max)) b.pairs merged.outputs)))

-- the clauses and the goals are those of the merged gates
pub are_over : (b : Both) (max : ℕ) (gates : List Gate) (pairs : List (Lit × Lit)) (clauses goals : List Clause) → max ≡ b.max → gates ≡ b.gates → pairs ≡ b.pairs →
    AreSameSets clauses (gate_clauses gates) → AreSameSets goals (flat_map unmet_of (columns_from 0 pairs)) → AreOver (over b) max clauses goals
are_over b max gates pairs clauses goals max_is gates_are pairs_are clauses_are goals_are = record {
  max_is = sym max_is;
  clauses_are = subst (λ (gs : List Gate). AreSameSets clauses (gate_clauses gs)) gates_are clauses_are;
  goals_are = subst (λ (ps : List (Lit × Lit)). AreSameSets goals (flat_map unmet_of (columns_from 0 ps))) pairs_are goals_are;
}
