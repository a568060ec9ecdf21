use Rattle.std.proofs.Common.{rules, subst}
use Rattle.std.proofs.lemmas.Result.{IfOk-weaker}
use Rattle.std.specs.Prelude.{IsNone}
use Rattle.joint_prover.specs.Decisions.{IsDecision}
use Rattle.joint_prover.specs.Endings.{DecidesAtLast, IsPlainEnd, replacement_named}
use Rattle.joint_prover.proofs.Telling.{plain_decides}
use Rattle.joint_prover.proofs.plans.decide_at_last.Goals as goal

pub returns-in-Decided : goal.returns-in-Decided
returns-in-Decided c =
    let job = c.args.job.now in
    let none : IsNone c.in_ok-decision.field-0 = search rules in
    let plain = subst (IsPlainEnd job.graph.now job.task) c.in-Decided.is c.in_ok-decision-2.ensures in
    plain_decides job.graph.now job.task (replacement_named c.args.used) c.try_slices.new.tried.items c.in-Decided.decision (c.in_ok-decision.ensures.none none) plain.0 plain.1

pub undecided-requires-clause-first : goal.undecided-requires-clause-first
undecided-requires-clause-first c = subst (IsPlainEnd c.args.job.now.graph.now c.args.job.now.task) c.in-Passed.is c.in_ok-decision-2.ensures

pub undecided-requires-clause-many : goal.undecided-requires-clause-many
undecided-requires-clause-many c =
    let none : IsNone c.in_ok-wrong.field-0 = search rules in
    c.in_ok-wrong.ensures.none none

pub returns-in-Passed : goal.returns-in-Passed
returns-in-Passed c =
    let job = c.args.job.now in
    let g = job.graph.now in
    let used = replacement_named c.args.used in
    let none : IsNone c.in_ok-decision.field-0 = search rules in
    IfOk-weaker c.undecided.result (DecidesAtLast g job.task c.try_slices.new.tried.items) (IsDecision g job.task used)
    (λ d h. h used (c.in_ok-decision.ensures.none none)) c.undecided.ensures
