use Rattle.std.proofs.Common.{◌≡◌, ◌++◌, ◌∷◌, [], rules, sym, ap, subst, ◌∙◌}
use Rattle.std.proofs.lemmas.Result.{IfOk-weaker}
use Rattle.std.specs.Prelude.{IfSome, IsNone}
use Rattle.joint_prover.specs.Decisions.{IsDecision}
use Rattle.joint_prover.specs.Endings.{IsEnd, replacement_named}
use Rattle.joint_prover.specs.Tries.{AreTried, IsTried}
use Rattle.joint_prover.specs.declared.verdict.Tried.{Tried}
use Rattle.joint_prover.proofs.Telling.{both_tried, end_decides, names_some, one_tried, some_later_decides}
use Rattle.joint_prover.proofs.plans.try_slices.Goals as goal

pub returns-in-Some-clause-some : goal.returns-in-Some-clause-some
returns-in-Some-clause-some c =
    let job = c.args.job.now in
    let used = replacement_named c.args.used in
    end_decides job.graph.now job.task used c.in-Some.decision (subst (λ o. IfSome o (IsEnd job.graph.now job.task used)) c.in-Some.is c.in_ok-decision.ensures.some)

pub returns-clause-none : goal.returns-clause-none
returns-clause-none c = λ is.
    let job = c.args.job.now in
    let s = c.args.used in
    let none : IsNone c.in_ok-decision.field-0 = search rules in
    let first = c.in_ok-decision.ensures.none none in
    one_tried job.graph.now job.task.claim job.task.budget (replacement_named s) first.0 _ (sym (names_some s) ∙ sym c.is_some.ensures ∙ c.if-is_some.false)
    (first.1 ∙ ap (λ ts. ts ++ first.0 ∷ []) c.requires.empty) first.2

pub returns-then-is_some-clause-some : goal.returns-then-is_some-clause-some
returns-then-is_some-clause-some c =
    let job = c.args.job.now in
    let g = job.graph.now in
    let used = replacement_named c.args.used in
    let alone = replacement_named c.args.alone in
    let none : IsNone c.in_ok-decision.field-0 = search rules in
    let first = c.in_ok-decision.ensures.none none in
    IfOk-weaker c.try_whole-then-is_some.result (λ d. IfSome d (IsEnd g job.task alone)) (λ d. IfSome d (IsDecision g job.task used))
    (λ d h. some_later_decides g job.task used alone first.0 d c.requires.lone first.2 h) c.try_whole-then-is_some.ensures.some

pub returns-then-is_some-clause-none : goal.returns-then-is_some-clause-none
returns-then-is_some-clause-none c =
    let job = c.args.job.now in
    let g = job.graph.now in
    let s = c.args.used in
    let used = replacement_named s in
    let alone = replacement_named c.args.alone in
    let none : IsNone c.in_ok-decision.field-0 = search rules in
    let first = c.in_ok-decision.ensures.none none in
    let before = c.try_whole.new.tried.items in
    let after = c.try_whole-then-is_some.new.tried.items in
    IfOk-weaker c.try_whole-then-is_some.result (λ d. IsNone d → (last : Tried) × (after ≡ before ++ last ∷ []) × IsTried g job.task.claim job.task.budget alone last)
    (λ d. IsNone d → AreTried g job.task.claim job.task.budget used after)
    (λ d h is.
    let last = h is in
    both_tried g job.task.claim job.task.budget used first.0 last.0 after (sym (names_some s) ∙ sym c.is_some.ensures ∙ c.if-is_some.true)
    (last.1 ∙ ap (λ ts. ts ++ last.0 ∷ []) (first.1 ∙ ap (λ ts. ts ++ first.0 ∷ []) c.requires.empty)) first.2
    (subst (λ r. IsTried g job.task.claim job.task.budget r last.0) c.requires.lone last.2)) c.try_whole-then-is_some.ensures.none
