-- What a solver answers.
use Rattle.std.specs.Prelude.{◌≡◌, ℕ, ◌+◌, ◌-◌, Bool, true, false, List, ◌++◌, length, map, ℤ, neg_ℤ, slice_index_or}
use Rattle.std.specs.List.{All}
use Rattle.graph_core.specs.Graph.Assignments.{Assignment}
use Rattle.clause_core.specs.Clause.{Clause, Satisfies, signed}
use Rattle.clause_core.specs.UnitPropagation.{IsRup}
use Rattle.cdcl_solver.specs.Logs.{LogView, lemmas}
use Rattle.cdcl_solver.specs.declared.solved.Solved.{Solved}
use Rattle.cdcl_solver.specs.declared.solved.Solved.TheVariants.{Refuted, Model, Spent}

-- the assignment of a list that gives the value of variable v, from 1 on, at place v - 1
abbrev pub assignment_of : List Bool → Assignment
assignment_of values v = slice_index_or values (v - 1) false

-- the answer over the clauses given, under assumptions: refuted by propagation over what the log left, a model, or the budget is spent
abbrev pub IsAnswer : ℕ → List Clause → List ℤ → ℕ → LogView → LogView → Solved → Type 0
IsAnswer max given assumptions conflicts old new Refuted = IsRup (new.left ++ given) (map neg_ℤ assumptions)
IsAnswer max given assumptions conflicts old new (Model values) =
    (length values.items ≡ max) × Satisfies (assignment_of values.items) given × All (λ l. signed (assignment_of values.items) l ≡ true) assumptions
IsAnswer max given assumptions conflicts old new Spent = (lemmas new ≡ lemmas old + conflicts) × (IsRup (new.left ++ given) (map neg_ℤ assumptions) → ⊥)
