use Rattle.std.proofs.Common.{◌≡◌, List}
use Rattle.std.specs.List.{All}
use Rattle.clause_core.specs.Clause.{Clause, IsClauseInRange}
use Rattle.cdcl_solver.specs.Deletions.{ChangeAlike}
use Rattle.cdcl_solver.specs.Logs.{Continues}
use Rattle.cdcl_solver.proofs.solver.Solver.forget.Given as goal

abbrev pub invariant-loop-lemma : goal.invariant-loop-lemma
invariant-loop-lemma l = record {
  max : l.self.max ≡ l.fn.self.max;
  goes : (given : List Clause) → Continues l.fn.self.max given 0 l.fn.log l.log;
  in_range : All (IsClauseInRange l.fn.self.max) l.log.left;
  alike : ChangeAlike l.fn.self.live l.fn.log l.self.live l.log;
}
