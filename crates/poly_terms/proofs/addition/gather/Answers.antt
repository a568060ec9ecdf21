use Rattle.std.proofs.Common.{◌≡◌, ◌^◌, ◌∷◌, [], length, refl, sym, ap, subst, ◌∙◌, append_assoc, append-nil, rules, arith}
use Rattle.std.proofs.lemmas.Cmp.{nat_cmp_total}
use Rattle.std.proofs.lemmas.List.Sorted.{answers_always, ranks_by}
use Rattle.std.proofs.lemmas.Nat.{pow_pos}
use Rattle.std.specs.List.{AllByRecursion}
use Rattle.std.specs.List.Sorted.{IsSortedBy}
use Rattle.std.specs.Vec.Iter.{into_iter_items}
use Rattle.poly_terms.specs.Entries.{IsSortedSum, IsOrderly, Entry}
use Rattle.poly_terms.proofs.Gathering.{Ascend, NoneBefore, before, ascend_sorted, gathered_none, gathered_more, gathered_permuted}
use Rattle.poly_terms.proofs.Merging.{nothing}
use Rattle.poly_terms.proofs.Placed.{gathered_itself}
use Rattle.poly_terms.proofs.addition.gather.Goals as goal

pub loop-entry-init : goal.loop-entry-init
loop-entry-init c =
    let m = 2 ^ c.args.exponent in
    let sorted = c.sort_unstable_by.new.self in
    let left = c.into_iter-entry-iterator.ensures.into_iter_gives in
    let up : IsSortedBy before sorted.items =
    c.sort_unstable_by.ensures.sorted before (ranks_by nat_cmp_total (λ (e : Entry). e.0)) (answers_always _ _ _ (λ f a r f' k. search rules)) in
    record {
      rest = refl;
      len = left.1 ∙ sorted.ok.0 ∙ sym (ap length left.0);
      gathered = subst (IsSortedSum m []) (sym c.in_ok-out.ensures.items) (gathered_none m);
      ascend = subst Ascend (sym left.0) (ascend_sorted sorted.items up);
      before = subst (AllByRecursion (λ o. NoneBefore o (into_iter_items c.into_iter-entry-iterator.result))) (sym c.in_ok-out.ensures.items) tt;
    }

pub loop-entry-preserved : goal.loop-entry-preserved
loop-entry-preserved c =
    let m = 2 ^ c.args.exponent in
    let at = c.loop-entry in
    let e = c.in-Some.entry in
    let rest = into_iter_items c.next.new.self in
    let steps : into_iter_items at.entry-iterator ≡ e ∷ rest = c.in-Some.ensures.steps.0 in
    let gone = c.in-Some.ensures.steps.1 in
    let was = at.invariant.len in
    let short = ap length steps in
    let ascend : Ascend (e ∷ rest) = subst Ascend steps at.invariant.ascend in
    let more =
    gathered_more m at.yielded at.out.items c.put_behind.new.out.items rest e (pow_pos c.args.exponent) at.invariant.gathered
    (subst (λ xs. AllByRecursion (λ o. NoneBefore o xs) at.out.items) steps at.invariant.before) ascend.0 c.in_ok-put_behind.ensures in
    record {
      rest = append_assoc at.yielded (e ∷ []) _ ∙ rw (← steps) at.invariant.rest;
      len = omega arith;
      gathered = more.0;
      ascend = ascend.1;
      before = more.1;
    }

pub returns : goal.returns
returns c =
    let m = 2 ^ c.args.exponent in
    let at = c.loop-entry in
    let none = c.in-None.ensures.steps in
    let empty : into_iter_items at.entry-iterator ≡ [] = nothing _ (sym at.invariant.len ∙ none.0) in
    let all = sym (append-nil at.yielded) ∙ rw empty at at.invariant.rest ∙ c.into_iter-entry-iterator.ensures.into_iter_gives.0 in
    subst (IsSortedSum m c.args.raw.items) (sym c.shrink_to_fit.ensures.items)
    (gathered_permuted m c.args.raw.items c.sort_unstable_by.new.self.items at.out.items c.sort_unstable_by.ensures.permutation
    (subst (λ xs. IsSortedSum m xs at.out.items) all at.invariant.gathered))

pub returns-then-is_orderly-2 : goal.returns-then-is_orderly-2
returns-then-is_orderly-2 c =
    let m = 2 ^ c.args.exponent in
    let sorted = c.sort_unstable_by.new.self.items in
    let orderly : IsOrderly m sorted = subst (IsOrderly m) c.deref-2.ensures.value (c.is_orderly-2.ensures c.if-is_orderly-2.true) in
    gathered_permuted m c.args.raw.items sorted sorted c.sort_unstable_by.ensures.permutation (gathered_itself m sorted orderly)
