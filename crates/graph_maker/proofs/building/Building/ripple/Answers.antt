use Rattle.std.proofs.Common.{None, ◌≡◌, ◌∷◌, [], ◌++◌, drop, sym, ap, ◌∙◌, arith}
use Rattle.graph_maker.specs.Ripple.{first}
use Rattle.graph_maker.proofs.AdderSteps.{first_left, no_first, ripple_end, ripple_step}
use Rattle.graph_maker.proofs.building.Building.ripple.Goals.{then-k-xs, else-k-xs}
use Rattle.graph_maker.proofs.building.Building.ripple.Goals as goal

pub loop-k-preserved : goal.loop-k-preserved
loop-k-preserved c =
    let k = c.loop-k.k in
    let xs = c.args.xs.now in
    let before = c.loop-k.invariant in
    let x_is : first (drop k xs) ≡ c.if-k-xs.x = elim c.if-k-xs.branch [
      | then-k-xs w ↦ first_left xs k None w.if-k-xs.true ∙ sym w.x-is
      | else-k-xs w ↦ no_first xs k (omega (arith, w.if-k-xs.false)) ∙ sym w.x-is
    ] in
    record {
      whole = before.whole ∙ ripple_step c.loop-k.sums c.push.new.self c.loop-k.self c.cell.new.self xs c.args.ys.now c.loop-k.carry c.in_ok-sum.next c.if-k-xs.x k (record { 0 = 0 }) c.in_ok-sum.sum
          c.loop-k-test.true x_is c.in_ok-sum.ensures.value c.in_ok-push.ensures;
      few = omega (arith, before.few, c.in_ok-sum.ensures.few);
    }

pub returns-clause-value : goal.returns-clause-value
returns-clause-value c = c.loop-k.invariant.whole ∙ ripple_end c.loop-k.sums c.push-2.new.self c.loop-k.self (drop c.loop-k.k c.args.xs.now) c.args.ys.now c.loop-k.carry c.loop-k.k (omega (arith, c.loop-k-test.false))
    (c.in_ok-push-2.ensures ∙ ap (λ l. c.loop-k.sums ++ l ∷ []) c.unwrap_or.ensures)
