use Rattle.std.proofs.Common.{arith, sym, ◌∙◌}
use Rattle.std.proofs.lemmas.List.{length-map, take_all}
use Rattle.operand_search.specs.Lanes.{lane, truth}
use Rattle.operand_search.proofs.Bits.{lane_kept, lane_more}
use Rattle.operand_search.proofs.lanes.set_lane.Goals as goal

pub loop-k-preserved : goal.loop-k-preserved
loop-k-preserved c =
    let size = c.loop-k.auto.words in
    let test = c.loop-k-test.true in
    let many = c.requires.as_many in
    record {
      here = lane_more c.args.place c.loop-k.words c.args.bits.now c.loop-k.k c.with_bit.result (omega arith) (omega arith) c.loop-k.invariant.here c.with_bit.ensures.here;
      others = λ i h ne. lane_kept i c.loop-k.words c.loop-k.k c.with_bit.result (c.with_bit.ensures.others i h ne) ∙ c.loop-k.invariant.others i h ne;
    }

pub returns-clause-here : goal.returns-clause-here
returns-clause-here c =
    let size = c.loop-k.auto.words in
    let test = c.loop-k-test.false in
    let many = c.requires.as_many in
    sym (take_all c.loop-k.k (lane c.args.place c.loop-k.words) (omega (arith, length-map c.loop-k.words (truth c.args.place)))) ∙ c.loop-k.invariant.here ∙
    take_all c.loop-k.k c.args.bits.now (omega arith)
