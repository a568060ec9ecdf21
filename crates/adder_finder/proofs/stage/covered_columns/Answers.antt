use Rattle.adder_finder.proofs.Stages.{count_step, count_stop}
use Rattle.adder_finder.proofs.stage.covered_columns.Goals as goal

pub loop-i-preserved : goal.loop-i-preserved
loop-i-preserved c = count_step c.args.needs.now c.args.nexts.now c.loop-i.i (record { pair = (record { 0 = 0 }, record { 0 = 0 }); side = 0 }) c.loop-i-test.true c.loop-i.invariant c.if-needs-next.false

pub returns-then-needs-next : goal.returns-then-needs-next
returns-then-needs-next c = count_stop c.args.needs.now c.args.nexts.now c.loop-i.i (record { pair = (record { 0 = 0 }, record { 0 = 0 }); side = 0 }) c.loop-i-test.true c.loop-i.invariant c.if-needs-next.true
