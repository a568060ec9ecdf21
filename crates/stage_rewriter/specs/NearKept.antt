-- A solver over the clauses near an adder.
use Rattle.std.specs.Prelude.{Bool, List}
use Rattle.graph_core.specs.Graph.Extended.{Extended}
use Rattle.clause_core.specs.Clause.{Clause}
use Rattle.clause_core.specs.GateClauses.{gate_clauses}
use Rattle.clause_core.specs.Likeness.{AreSameSets}
use Rattle.cdcl_solver.specs.Logs.{LogView}
use Rattle.cdcl_solver.specs.Solvers.{SolverView}
use Rattle.goal_refuter.specs.Refuting.{IsKeptOver}
use Rattle.stage_rewriter.specs.NearClauses.{AreNearOf}

-- The solver's clauses are near ones of the gates' clauses, and those that the log left.
pub record IsKeptNear (e : Extended) (marks : List Bool) (solver : SolverView) (log : LogView) : Type 0 where
  pub clauses : List Clause
  pub sets : AreSameSets clauses (gate_clauses e.gates)
  pub near : List Clause
  pub is_near : AreNearOf marks clauses near
  pub over : IsKeptOver e.max near solver log
