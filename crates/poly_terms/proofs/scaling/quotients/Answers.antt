use Rattle.std.proofs.Common.{◌≡◌, ◌≢◌, ◌%◌, ◌^◌, ◌+◌, ◌<◌, ◌++◌, ◌∷◌, [], take, refl, sym, ap, subst, ◌∙◌, true≢false}
use Rattle.std.specs.List.{All}
use Rattle.std.proofs.lemmas.List.Elements.{All-more, All-nil}
use Rattle.poly_terms.specs.Entries.{Entry, IsQuotient}
use Rattle.poly_terms.proofs.Scaled.{none_between, quotient_none, quotient_on}
use Rattle.poly_terms.proofs.Ends.{not_given}
use Rattle.std.proofs.lemmas.List.{take_all}
use Rattle.poly_terms.proofs.scaling.quotients.Goals as goal

pub loop-entry-preserved : goal.loop-entry-preserved
loop-entry-preserved c =
    let m = 2 ^ c.args.exponent in
    let by = 2 ^ c.args.k in
    let es = c.args.entries.now in
    let i = c.loop-entry.entry-index in
    let e = c.entry-item.result in
    let out = c.loop-entry.out.items in
    record {
      quotient =
          subst (IsQuotient m by (take (i + 1) es)) (sym (c.in_ok-push.ensures.items ∙ ap (λ x. out ++ x ∷ []) c.with_coefficient.ensures))
          (quotient_on m by es out i e c.shifted-quotient.result c.loop-entry-test.true c.entry-item.is c.shifted-quotient.ensures.below
          (sym c.coefficient-in-loop-entry.ensures ∙ sym c.shifted-quotient.ensures.quotient) c.loop-entry.invariant.quotient);
      multiples =
          All-more (λ x. x.1 % by ≡ 0) es i e c.loop-entry-test.true c.loop-entry.invariant.multiples
          (subst (λ x. x.1 % by ≡ 0) c.entry-item.is (subst (λ n. n % by ≡ 0) c.coefficient.ensures (c.is_multiple.ensures.0 c.if-not-is_multiple.false)));
    }

pub returns-in_err-out-clause-quotient : goal.returns-in_err-out-clause-quotient
returns-in_err-out-clause-quotient c = not_given _ _ c.from_residual.result c.from_residual.ensures.1

pub returns-in_err-out-clause-none : goal.returns-in_err-out-clause-none
returns-in_err-out-clause-none c = not_given _ _ c.from_residual.result c.from_residual.ensures.1

pub returns-in_err-push-clause-quotient : goal.returns-in_err-push-clause-quotient
returns-in_err-push-clause-quotient c = not_given _ _ c.from_residual-in_err-push.result c.from_residual-in_err-push.ensures.1

pub returns-in_err-push-clause-none : goal.returns-in_err-push-clause-none
returns-in_err-push-clause-none c = not_given _ _ c.from_residual-in_err-push.result c.from_residual-in_err-push.ensures.1

pub returns-clause-quotient : goal.returns-clause-quotient
returns-clause-quotient c =
    subst (λ es. IsQuotient (2 ^ c.args.exponent) (2 ^ c.args.k) es c.loop-entry.out.items)
    (take_all c.loop-entry.entry-index c.args.entries.now c.loop-entry-test.false) c.loop-entry.invariant.quotient

pub returns-clause-none : goal.returns-clause-none
returns-clause-none c =
    let by = 2 ^ c.args.k in
    let es = c.args.entries.now in
    let all = subst (All (λ x. x.1 % by ≡ 0)) (take_all c.loop-entry.entry-index es c.loop-entry-test.false) c.loop-entry.invariant.multiples in
    (λ none. absurd (true≢false none), λ other. absurd (none_between by es all other))

pub returns-then-not-is_multiple-clause-none : goal.returns-then-not-is_multiple-clause-none
returns-then-not-is_multiple-clause-none c =
    let e = c.entry-item.result in
    let other : e.1 % 2 ^ c.args.k ≢ 0 =
    λ is. true≢false (sym (c.is_multiple.ensures.1 (subst (λ n. n % 2 ^ c.args.k ≡ 0) (sym c.coefficient.ensures) is)) ∙ c.if-not-is_multiple.true) in
    (λ none. (c.loop-entry.entry-index, e, c.loop-entry-test.true, sym c.entry-item.is, other), λ some. refl)

pub loop-entry-init : goal.loop-entry-init
loop-entry-init c =
    let m = 2 ^ c.args.exponent in
    let by = 2 ^ c.args.k in
    record { quotient = subst (IsQuotient m by []) (sym c.in_ok-out.ensures.items) (quotient_none m by); multiples = All-nil (λ x. x.1 % by ≡ 0) }

pub shifted-quotient-requires-clause-below : goal.shifted-quotient-requires-clause-below
shifted-quotient-requires-clause-below c =
    let m = 2 ^ c.args.exponent in
    let e = c.entry-item.result in
    let low : e.1 < m = subst (λ (x : Entry). x.1 < m) (sym c.entry-item.is) (c.requires.below c.loop-entry.entry-index e c.loop-entry-test.true) in
    subst (λ n. n < m) (sym c.coefficient-in-loop-entry.ensures) low

pub shifted-quotient-requires-clause-multiple : goal.shifted-quotient-requires-clause-multiple
shifted-quotient-requires-clause-multiple c =
    subst (λ n. n % 2 ^ c.args.k ≡ 0) (c.coefficient.ensures ∙ sym c.coefficient-in-loop-entry.ensures) (c.is_multiple.ensures.0 c.if-not-is_multiple.false)
