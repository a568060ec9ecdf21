use Rattle.std.proofs.Common.{◌≢◌, [], ◌∷◌, sym, subst, arith}
use Rattle.adder_finder.specs.FinalStage.{IsCovered}
use Rattle.adder_finder.proofs.XorSearch.{operands_low}
use Rattle.adder_finder.proofs.Walks.{walk_down}
use Rattle.adder_finder.proofs.walk.misses.Goals as goal

pub loop-step-preserved : goal.loop-step-preserved
loop-step-preserved c =
    let g = c.args.graph.now in
    let well = c.max-max.ensures.built.well_formed in
    let x = c.var-x.result in
    let y = c.var-y.result in
    let here = c.loop-step.here in
    let gate = c.in-Some.gate in
    let some : here ≢ 0 = λ e. absurd (omega (arith, c.if-here-eq0.false, e)) in
    let one : here ≢ x = λ e. absurd (omega (arith, c.if-here-x.false, e)) in
    let other : here ≢ y = λ e. absurd (omega (arith, c.if-here-y.false, e)) in
    let low = operands_low g well here gate c.in-Some.ensures.some in
    let first = low.0 in
    (omega (arith, c.var-here.ensures, first), λ h. subst (IsCovered g.gates (x ∷ y ∷ [])) (sym c.var-here.ensures) (walk_down g well x y here gate c.in-Some.ensures.some some one other (c.loop-step.invariant.1 h)))
