use Rattle.std.proofs.Common.{ℕ, ◌≡◌, ◌+◌, ◌<◌, ◌≤◌, length, refl, arith, ap, sym, subst}
use Rattle.std.specs.Prelude.{IfSome}
use Rattle.graph_core.specs.Graph.Operands.{ReadInputs}
use Rattle.frontier_core.specs.declared.step.Step.TheVariants.{Add}
use Rattle.column_reducer.specs.Gathering.{IsRest}
use Rattle.column_reducer.specs.Reducing.{HasSizeAt}
use Rattle.column_reducer.proofs.Ends.{is_passed, may_be_passed, taken_after, within_more}
use Rattle.column_reducer.proofs.Following.{follows_at, follows_in, step_on}
use Rattle.column_reducer.proofs.frontier_walk.passed_from.Goals as goal

pub loop-count-init : goal.loop-count-init
loop-count-init c = record {
  rest = c.requires.rest;
  within = c.requires.before;
}

pub returns-in-Some-clause-passed : goal.returns-in-Some-clause-passed
returns-in-Some-clause-passed c =
    let p = c.args.plan.now in
    let low : c.loop-count.count ≤ length p.steps = omega (arith, c.loop-count-test.true, ap length c.steps-steps.ensures.steps) in
    is_passed p c.args.operands.now c.loop-count.terms c.args.budget c.loop-count.count c.in-Some.at.0 c.in-Some.at.1 c.loop-count.rest c.loop-count.invariant.rest
    c.in-Some.ensures.step low c.in-Some.ensures.size c.in-Some.ensures.above c.loop-count.invariant.within

pub take_step-requires-clause-inputs : goal.take_step-requires-clause-inputs
take_step-requires-clause-inputs c = subst (λ e. ReadInputs e.graph c.args.operands.now) (sym c.extended-extended.ensures) c.requires.inputs

pub take_step-requires-clause-follows : goal.take_step-requires-clause-follows
take_step-requires-clause-follows c =
    let p = c.args.plan.now in
    let i = c.loop-count.count in
    let low : i < length p.steps = omega (arith, c.loop-count-test.true, ap length c.steps-steps.ensures.steps) in (
      taken_after p i,
      subst (λ e. IsRest e c.args.operands.now c.loop-count.terms (taken_after p i) c.loop-count.rest) (sym c.extended-extended.ensures) c.loop-count.invariant.rest,
      follows_in p.extended c.extended-extended.result.now (taken_after p i) p.steps c.steps-steps.result.now i (Add 0) c.extended-extended.ensures c.steps-steps.ensures.steps
          (follows_at p.extended p.steps i (Add 0) c.steps-steps.ensures.plan.plan.follow low),
    )

pub loop-count-preserved : goal.loop-count-preserved
loop-count-preserved c =
    let p = c.args.plan.now in
    let s = c.args.operands.now in
    let i = c.loop-count.count in
    let low : i < length p.steps = omega (arith, c.loop-count-test.true, ap length c.steps-steps.ensures.steps) in
    record {
      rest = c.in_ok-renew.ensures p.extended s (taken_after p (i + 1))
          (step_on p.extended c.extended-extended.result.now p.steps c.steps-steps.result.now i (Add 0) (λ e f. IsRest e s c.loop-count.terms f c.loop-count.rest) (λ e f. IsRest e s c.take_step.new.terms f c.take_step.new.rest)
          c.extended-extended.ensures c.steps-steps.ensures.steps c.steps-steps.ensures.plan.plan.follow low c.in_ok-take_step.ensures.rest c.loop-count.invariant.rest);
      within = within_more p s c.loop-count.terms c.args.budget i c.loop-count.rest c.loop-count.invariant.rest (c.in_default.ensures.within refl) c.loop-count.invariant.within;
    }

pub returns-clause-passed : goal.returns-clause-passed
returns-clause-passed c =
    let p = c.args.plan.now in
    let all = ap length c.steps-steps.ensures.steps in
    let finish = c.loop-count.auto.count-end in
    let past = c.loop-count-test.false in
    let begun = c.requires.low in
    let is : c.loop-count.count ≡ length p.steps = omega arith in
    let end : length c.steps-steps.result.now ≡ length p.steps = all in
    let low : length p.steps ≤ length p.steps = omega arith in
    let rest = subst (λ i. IsRest p.extended c.args.operands.now c.loop-count.terms (taken_after p i) c.loop-count.rest) is c.loop-count.invariant.rest in
    let within = subst (λ j. (i n : ℕ) → p.uncounted + i < j → HasSizeAt p c.args.operands.now i n → n ≤ c.args.budget) is c.loop-count.invariant.within in
    may_be_passed p c.args.operands.now c.loop-count.terms c.args.budget (length p.steps) c.passed-2.result c.loop-count.rest rest low
    (subst (λ n. IfSome c.passed-2.result (λ r. p.uncounted + r.0 ≡ n)) end c.passed-2.ensures.step) c.passed-2.ensures.above c.passed-2.ensures.size within

pub returns-clause-within : goal.returns-clause-within
returns-clause-within c none i n low has =
    let p = c.args.plan.now in
    let s = c.args.operands.now in
    let all = ap length c.steps-steps.ensures.steps in
    let finish = c.loop-count.auto.count-end in
    let past = c.loop-count-test.false in
    let begun = c.requires.low in
    let is : c.loop-count.count ≡ length p.steps = omega arith in
    within_more p s c.loop-count.terms c.args.budget c.loop-count.count c.loop-count.rest c.loop-count.invariant.rest
    (λ counts. c.passed-2.ensures.within none (omega arith)) c.loop-count.invariant.within i n (omega arith) has
