use Rattle.std.proofs.Common.{arith}
use Rattle.cdcl_solver.proofs.SolverLemmas.{all_more, all_begun, all_range, all_done}
use Rattle.cdcl_solver.proofs.solving.add_all.Goals as goal

pub loop-i-init : goal.loop-i-init
loop-i-init c = all_begun c.args.solver.now c.args.clauses.now

pub add-requires : goal.add-requires
add-requires c = all_range c.args.solver.now c.loop-i.solver c.loop-i.i c.get.result.now c.args.clauses.now c.loop-i.invariant (omega arith) c.get.ensures c.requires

pub loop-i-preserved : goal.loop-i-preserved
loop-i-preserved c = all_more c.args.solver.now c.loop-i.solver c.add.new.self c.loop-i.i c.get.result.now c.args.clauses.now c.loop-i.invariant (omega arith) c.get.ensures c.in_ok-add.ensures.ok

pub returns : goal.returns
returns c = all_done c.args.solver.now c.loop-i.solver c.loop-i.i c.args.clauses.now (omega arith) c.loop-i.invariant
