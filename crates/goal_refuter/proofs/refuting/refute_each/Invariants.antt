use Rattle.std.proofs.Common.{◌+◌, ◌≤◌, List}
use Rattle.graph_core.specs.Graph.Extended.{Extended}
use Rattle.clause_core.specs.Clause.{Clause}
use Rattle.cdcl_solver.specs.Logs.{lemmas}
use Rattle.goal_refuter.specs.Beginnings.{IsBegunFor, KeepsCount}
use Rattle.goal_refuter.specs.Refuting.{AreOver, IsKeptOver, IsSoFar}
use Rattle.goal_refuter.proofs.refuting.refute_each.Given as goal

abbrev pub invariant-loop-goal : goal.invariant-loop-goal
invariant-loop-goal l = record {
  so_far : (e : Extended) (given : List Clause) → AreOver e l.initial.solver.max given l.goals → IsBegunFor l.forgets l.initial.solver.max given l.conflicts l.initial.solver l.fn.begun → IsSoFar e l.conflicts l.goal l.log;
  goals_added : l.goal ≤ lemmas l.log;
  few : lemmas l.log ≤ l.conflicts + l.goal;
  kept : (given : List Clause) → IsBegunFor l.forgets l.initial.solver.max given l.conflicts l.initial.solver l.fn.begun → IsKeptOver l.initial.solver.max given l.solver l.log × KeepsCount l.forgets l.solver.live l.log.left given;
}
