use Rattle.std.proofs.Common.{None, ◌≡◌, ◌∷◌, [], drop, length, ap, ◌∙◌, arith, length-append}
use Rattle.graph_maker.specs.Builder.{or_false}
use Rattle.graph_maker.specs.Ripple.{first}
use Rattle.graph_maker.proofs.AdderSteps.{no_x, single_end, single_step, x_left}
use Rattle.graph_maker.proofs.building.Building.single_spans.Goals.{then-k-xs, else-k-xs}
use Rattle.graph_maker.proofs.building.Building.single_spans.Goals as goal

pub loop-k-preserved : goal.loop-k-preserved
loop-k-preserved c =
    let k = c.loop-k.k in
    let xs = c.args.xs.now in
    let done = c.loop-k.spans.items in
    let made = c.in_ok-sum.ensures in
    let pushed = c.in_ok-push.ensures.items in
    let before = c.loop-k.invariant in
    let x_is : or_false (first (drop k xs)) ≡ c.if-k-xs.x = elim c.if-k-xs.branch [
      | then-k-xs w ↦ x_left xs k None c.if-k-xs.x w.if-k-xs.true (w.x-is ∙ w.unwrap_or-x.ensures)
      | else-k-xs w ↦ no_x xs k c.if-k-xs.x (omega (arith, w.if-k-xs.false)) w.x-is
    ] in
    record {
      whole = before.whole ∙ single_step done c.push.new.self.items c.loop-k.self c.half_adder.new.self xs c.args.ys.now k c.if-k-xs.x c.in_ok-sum.sum c.in_ok-sum.carry (record { 0 = 0 }) c.loop-k-test.true x_is made pushed;
      few = omega (arith, before.few, ap (λ a. a.builder.last) made);
      all = omega (arith, before.all, ap length pushed, length-append done ((c.in_ok-sum.carry, c.in_ok-sum.sum) ∷ []));
    }

pub returns-clause-value : goal.returns-clause-value
returns-clause-value c = c.loop-k.invariant.whole ∙ single_end c.loop-k.spans.items c.loop-k.self (drop c.loop-k.k c.args.xs.now) c.args.ys.now c.loop-k.k (omega (arith, c.loop-k-test.false))
