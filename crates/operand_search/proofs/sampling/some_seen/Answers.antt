use Rattle.std.proofs.Common.{length, arith, ap}
use Rattle.graph_core.proofs.OfGraphs.CallerLemmas.{length-literals}
use Rattle.operand_search.proofs.sampling.some_seen.Goals as goal

pub seen_on_draws-requires-clause-bits : goal.seen_on_draws-requires-clause-bits
seen_on_draws-requires-clause-bits c =
    let all = length-literals c.args.graph.now c.args.operands.now c.requires.shape c.requires.operands in
    let value = c.inputs-count.ensures.value in
    let len = c.in_ok-bits.ensures.len in
    let same = ap length c.deref_mut.ensures.value in
    omega arith
