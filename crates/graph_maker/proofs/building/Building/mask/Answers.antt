use Rattle.std.proofs.Common.{◌+◌, drop, get_or, sym, ap, ◌∙◌, arith}
use Rattle.graph_maker.specs.Builder.{with_gates}
use Rattle.graph_maker.specs.Corrected.{masked_gates}
use Rattle.graph_maker.proofs.MakingSteps.{next_left}
use Rattle.graph_maker.proofs.Inverted.{masked_step}
use Rattle.graph_maker.proofs.building.Building.mask.Goals as goal

pub loop-y-preserved : goal.loop-y-preserved
loop-y-preserved c =
    let i = c.loop-y.y-index in
    let b = c.loop-y.self in
    let ys = c.args.ys.now in
    let x = c.args.x in
    let rest = drop (i + 1) ys in
    let y = get_or ys i (record { 0 = 0 }) in
    let made = c.in_ok-and.ensures.gates in
    let last = ap (λ d. d.last) made in
    record {
      gates = c.loop-y.invariant.gates ∙ ap (λ ls. with_gates b (masked_gates b.last x ls)) (next_left ys i (record { 0 = 0 }) c.loop-y-test.true) ∙
          masked_step b x y rest ∙ ap (λ d. with_gates d (masked_gates d.last x rest)) (sym made);
      last = omega (arith, last, c.loop-y.invariant.last);
    }
