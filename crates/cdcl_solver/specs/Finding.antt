-- What one search finds.
use Rattle.std.specs.Prelude.{◌≡◌, ℕ, Bool, true, List, ℤ}
use Rattle.clause_core.specs.Clause.{IsClauseInRange}
use Rattle.clause_core.specs.Log.{IsLemma}
use Rattle.unit_prop.specs.Standing.{Standing, live_of}
use Rattle.cdcl_solver.specs.Solvers.{SolverView, IsSolverEnd}
use Rattle.cdcl_solver.specs.declared.search.Found.{Found}
use Rattle.cdcl_solver.specs.declared.search.Found.TheVariants.{Answer, Lemma, GivenUp}
use Rattle.cdcl_solver.specs.declared.solved.Solved.TheVariants.{Refuted, Model, Spent}

-- a solver's view of a propagator
abbrev pub solver_of : ℕ → Standing → SolverView
solver_of max s = record { max = max; live = live_of s.clauses }

-- The assumptions are refuted or a model is found, or there is a lemma; or nothing, where a few decisions are enough.
abbrev pub Finds : ℕ → Standing → List ℤ → Bool → Found → Type 0
Finds max s assumptions few (Answer Spent) = ⊥
Finds max s assumptions few (Answer Refuted) = IsSolverEnd (solver_of max s) assumptions Refuted
Finds max s assumptions few (Answer (Model values)) = IsSolverEnd (solver_of max s) assumptions (Model values)
Finds max s assumptions few (Lemma c) = IsLemma (live_of s.clauses) c × IsClauseInRange max c
Finds max s assumptions few GivenUp = few ≡ true
