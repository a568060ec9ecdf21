use Rattle.std.proofs.Common.{arith, refl}
use Rattle.adder_finder.proofs.Stages.{shapes_end, shapes_more, shapes_stop}
use Rattle.adder_finder.proofs.stage.next_shapes.Goals as goal

pub loop-output-preserved : goal.loop-output-preserved
loop-output-preserved c = record {
  size = grind arith;
  each = shapes_more c.args.graph.now c.args.outputs.now c.loop-output.nexts.items c.push.new.self.items c.in-Some.next c.loop-output.output-index (record { 0 = 0 }) c.loop-output.invariant.each c.loop-output.invariant.size
      c.loop-output-test.true c.in-Some.ensures.some c.in_ok-push-in-Some.ensures.items;
}

pub returns-in-None : goal.returns-in-None
returns-in-None c =
    shapes_stop c.args.graph.now c.args.outputs.now c.loop-output.nexts.items c.loop-output.output-index (record { 0 = 0 }) c.loop-output.invariant.each c.loop-output.invariant.size c.loop-output-test.true (c.in-None.ensures.none refl)

pub returns : goal.returns
returns c = shapes_end c.args.graph.now c.args.outputs.now c.loop-output.nexts.items c.loop-output.output-index c.loop-output.invariant.each c.loop-output.invariant.size c.loop-output.auto.output-index-end c.loop-output-test.false
