-- The values of clauses, as what the lines of an algebra certificate may import.
use Rattle.std.specs.Prelude.{◌≡◌, ℕ, List, [], ◌∷◌, map, slice_index_or}
use Rattle.std.specs.List.{All}
use Rattle.std.proofs.lemmas.List.Elements.{All-map}
use Rattle.clause_core.specs.Clause.{Clause, Satisfies}
use Rattle.clause_core.specs.Likeness.{AreSameSets}
use Rattle.graph_core.specs.Graph.Assignments.{Assignment, HasBound}
use Rattle.algebra_core.specs.Agreement.{AreSameImports}
use Rattle.gate_axioms.specs.ClauseValues.{clause_value}
use Rattle.gate_axioms.proofs.ClauseProducts.{clause_values}

-- each depends on finitely many variables
pub imports_bounded : (cs : List Clause) → All HasBound (map clause_value cs)
imports_bounded cs = All-map HasBound clause_value cs (λ k d below. clause_values.bounded (slice_index_or cs k d))

-- clauses that are the same sets have the same values
pub same_imports : (cs ds : List Clause) → AreSameSets cs ds → AreSameImports (map clause_value cs) (map clause_value ds)
same_imports [] [] h = tt
same_imports [] (d ∷ ds) h = absurd h
same_imports (c ∷ cs) [] h = absurd h
same_imports (c ∷ cs) (d ∷ ds) h = ((λ σ. clause_values.by_set c d σ h.0), same_imports cs ds h.1)

-- where the clauses hold, each value is 0
pub imports_vanish : (cs : List Clause) (σ : Assignment) → Satisfies σ cs → All (λ (f : Assignment → ℕ). f σ ≡ 0) (map clause_value cs)
imports_vanish cs σ h = All-map (λ (f : Assignment → ℕ). f σ ≡ 0) clause_value cs (λ k d below. clause_values.vanish (slice_index_or cs k d) σ (h k d below))
