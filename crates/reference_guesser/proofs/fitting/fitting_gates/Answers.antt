use Rattle.std.proofs.Common.{◌<◌, arith, length, refl}
use Rattle.graph_core.specs.declared.bounds.TheConstants.{MOST_VARIABLES}
use Rattle.graph_core.specs.Graph.Extended.{without_cut}
use Rattle.reference_guesser.proofs.Fits.{few_more, gate_room, gates_step, many_more}
use Rattle.reference_guesser.proofs.fitting.fitting_gates.Goals as goal

pub append_gate-requires-clause-room : goal.append_gate-requires-clause-room
append_gate-requires-clause-room c =
    let few : length c.loop-pair.fitting.items < MOST_VARIABLES = omega (arith, c.loop-pair.invariant.many, c.loop-pair-test.true, c.requires) in
    gate_room c.args.graph.now c.loop-pair.extended c.loop-pair.fitting.items c.loop-pair.invariant.made few

pub loop-pair-preserved : goal.loop-pair-preserved
loop-pair-preserved c =
    let few : length c.loop-pair.fitting.items < MOST_VARIABLES = omega (arith, c.loop-pair.invariant.many, c.loop-pair-test.true, c.requires) in
    let more = c.in_ok-extended.ensures.more in
    let step = gates_step (without_cut c.args.graph.now) c.loop-pair.extended _ c.loop-pair.fitting.items _ _ c.loop-pair.invariant.made c.loop-pair.invariant.fit (c.if-not-is_known_pair.ensures.0 refl) c.in_ok-extended.ensures.ok more in
    record {
      few = few_more c.loop-pair.fitting.items _ _ few more;
      many = many_more c.loop-pair.fitting.items _ _ c.loop-pair.pair-index c.loop-pair.invariant.many more;
      made = step.0;
      fit = step.1;
    }
