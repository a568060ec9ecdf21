use Rattle.std.proofs.Common.{◌≡◌, ◌≤◌, ◌-◌, ◌++◌, List}
use Rattle.std.specs.List.{All}
use Rattle.clause_core.specs.Clause.{Clause, IsClauseInRange}
use Rattle.cdcl_solver.specs.Deletions.{ChangeAlike}
use Rattle.cdcl_solver.specs.Loading.{SameLive}
use Rattle.goal_refuter.specs.Beginnings.{KeepsCount}
use Rattle.goal_refuter.proofs.AsMany.{IsPartly}
use Rattle.goal_refuter.proofs.refuting.refute_one.Given as goal

abbrev pub decreases-loop-left : goal.decreases-loop-left
decreases-loop-left l = l.left

abbrev pub invariant-loop-left : goal.invariant-loop-left
invariant-loop-left l = record {
  less : l.left ≤ l.conflicts;
  max : l.solver.max ≡ l.initial.solver.max;
  in_range : All (IsClauseInRange l.initial.solver.max) l.log.left;
  alike : ChangeAlike l.initial.solver.live l.initial.log l.solver.live l.log;
  goes : (given : List Clause) → SameLive l.initial.solver.live (l.initial.log.left ++ given) → KeepsCount l.forgets l.initial.solver.live l.initial.log.left given →
      IsPartly l.initial.solver.max given (l.conflicts - l.left) l.initial.log l.solver.live l.log;
}
