use Rattle.poly_terms.specs.Laws.{extends_on}
use Rattle.frontier_core.specs.Plan.{nothing, taken}
use Rattle.column_reducer.proofs.Ends.{is_ended}
use Rattle.column_reducer.proofs.walk.take_steps.Goals as goal

pub follow-requires-clause-walked : goal.follow-requires-clause-walked
follow-requires-clause-walked c = c.in_ok-walk.ensures.walked c.args.plan.now.extended c.args.operands.now c.requires.same_modulus

pub end-requires : goal.end-requires
end-requires c =
    let p = c.args.plan.now in
    record { walked = (p.extended, c.args.operands.now, taken nothing p.steps, c.in_ok-passed.ensures.walked c.in-None.is) }

pub returns-in_ok-ended-in-None-clause-extends : goal.returns-in_ok-ended-in-None-clause-extends
returns-in_ok-ended-in-None-clause-extends c =
    let t0 = c.args.terms.now in
    let t1 = c.start.new.terms in
    let t2 = c.follow.new.terms in
    let t3 = c.end.new.terms in
    extends_on t0 t1 t3 c.in_ok-walk.ensures.extends (extends_on t1 t2 t3 c.in_ok-passed.ensures.extends c.in_ok-ended-in-None.ensures.extends)

pub returns-in_ok-ended-in-None-clause-outcome : goal.returns-in_ok-ended-in-None-clause-outcome
returns-in_ok-ended-in-None-clause-outcome c =
    let p = c.args.plan.now in
    let s = c.args.operands.now in
    let walked = c.in_ok-passed.ensures.walked c.in-None.is in
    is_ended p s c.follow.new.terms c.end.new.terms c.args.budget c.follow.new.self c.in_ok-ended-in-None.ended c.steps-steps.ensures.plan c.in_ok-ended-in-None.ensures.extends walked c.in_ok-ended-in-None.ensures.rest
    (c.in_ok-passed.ensures.within c.in-None.is) (c.in_ok-ended-in-None.ensures.ended p.extended s (taken nothing p.steps) walked)
