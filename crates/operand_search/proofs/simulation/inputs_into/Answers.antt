use Rattle.std.proofs.Common.{length, get_or, slice_set, arith, sym, ap, ap₂, ◌∙◌}
use Rattle.std.proofs.lemmas.List.{length-map}
use Rattle.graph_core.specs.Graph.Assignments.{listed}
use Rattle.graph_core.proofs.OfGraphs.CallerLemmas.{input_written}
use Rattle.operand_search.specs.Lanes.{lane, truth}
use Rattle.operand_search.proofs.Bits.{lane_at, lane_set, lane_zeros}
use Rattle.operand_search.proofs.simulation.inputs_into.Goals as goal

pub loop-k-init : goal.loop-k-init
loop-k-init c i v = lane_zeros i (length c.args.words.now) c.fill.new.self v (c.fill.ensures.after (λ y h. h))

pub loop-k-preserved : goal.loop-k-preserved
loop-k-preserved c i v =
    let words = c.loop-k.words in
    let inputs = c.args.inputs.now in
    let k = c.loop-k.k in
    let kept = c.loop-k.auto.words in
    ap (λ xs. listed xs v) (lane_set i words c.var.result (get_or inputs k 0) ∙ ap₂ (slice_set (lane i words)) c.var.ensures (sym (lane_at i inputs k))) ∙
    input_written c.args.lits.now (lane i inputs) (lane i words) k (length-map inputs (truth i) ∙ c.requires.as_many)
    (λ j d h. omega (arith, c.requires.in_range j d h, length-map words (truth i))) c.requires.apart c.loop-k-test.true (c.loop-k.invariant i) v
