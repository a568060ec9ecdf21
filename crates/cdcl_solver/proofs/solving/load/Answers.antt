use Rattle.std.proofs.Common.{sym, subst}
use Rattle.std.specs.List.{All}
use Rattle.clause_core.specs.Clause.{IsClauseInRange}
use Rattle.cdcl_solver.specs.Solvers.{SolverView}
use Rattle.cdcl_solver.proofs.SolverLemmas.{loaded, left_range}
use Rattle.cdcl_solver.proofs.solving.load.Goals as goal

pub add_all-requires : goal.add_all-requires
add_all-requires c = subst (λ (s : SolverView). All (IsClauseInRange s.max) c.args.clauses.now) (sym c.in_ok-solver.ensures) c.requires.clauses

pub add_all-requires-2 : goal.add_all-requires-2
add_all-requires-2 c = left_range c.args.max c.in_ok-solver.solver c.add_all.new.solver c.args.clauses.now c.in_ok-left.left c.args.log.now.left c.in_ok-solver.ensures c.in_ok-add_all.ensures c.in_ok-left.ensures c.requires.log

pub returns : goal.returns
returns c = loaded c.args.max c.in_ok-solver.solver c.add_all.new.solver c.add_all-2.new.solver c.args.clauses.now c.in_ok-left.left c.args.log.now.left c.in_ok-solver.ensures c.in_ok-add_all.ensures c.in_ok-add_all-2.ensures c.in_ok-left.ensures
