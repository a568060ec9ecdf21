use Rattle.std.proofs.Common.{◌∙◌, ◌∷◌, [], ◌++◌, ap, arith}
use Rattle.graph_maker.proofs.AdderSteps.{sum_step, sums_end}
use Rattle.graph_maker.proofs.building.Building.prefix_sums.Goals as goal

pub loop-k-preserved : goal.loop-k-preserved
loop-k-preserved c =
    let before = c.loop-k.invariant in
    record {
      whole = before.whole ∙ sum_step c.loop-k.sums c.push.new.self c.loop-k.self c.cell.new.self c.loop-k.carry c.in_ok-sum.field-0-1 c.args.single.now c.args.whole.now c.loop-k.k (record { 0 = 0 }, record { 0 = 0 }) c.in_ok-sum.sum
          c.loop-k-test.true c.requires.same c.in_ok-sum.ensures.value c.in_ok-push.ensures;
      few = omega (arith, before.few, c.in_ok-sum.ensures.few);
    }

pub returns-clause-value : goal.returns-clause-value
returns-clause-value c = c.loop-k.invariant.whole ∙ sums_end c.loop-k.sums c.push-2.new.self c.loop-k.self c.loop-k.carry c.args.single.now c.args.whole.now c.loop-k.k (omega (arith, c.loop-k-test.false)) c.requires.same
    (c.in_ok-push-2.ensures ∙ ap (λ l. c.loop-k.sums ++ l ∷ []) c.unwrap_or.ensures)
