use Rattle.std.proofs.Common.{◌≡◌, ◌∙◌, ℕ, ℤ, List, IsPermutation, ap, arith, drop, length, subst}
use Rattle.std.specs.List.{refill}
use Rattle.std.proofs.Math.Seq.{take-append_seam}
use Rattle.std.proofs.lemmas.Int.{ints}
use Rattle.std.proofs.lemmas.Bool.Decides.{nat_tests}
use Rattle.std.proofs.lemmas.Cmp.{int_cmp_total, int_eq_equiv}
use Rattle.std.proofs.lemmas.List.Kept.{Contains-dedup, Contains-from_dedup, IsStrictlySortedBy-dedup}
use Rattle.std.proofs.lemmas.List.Sorted.{Contains-permutation, IsPermutation-sym}
use Rattle.clause_core.proofs.Places.{rising_from_sorted}
use Rattle.clause_core.proofs.clause.put_in_order.Goals as goal

-- what is as long as the places fills them
filled : (n : ℕ) (xs ws : List ℤ) → length ws ≡ n → refill n xs ws ≡ ws
filled n xs ws e = subst (λ k. refill k xs ws ≡ ws) e (take-append_seam ws (drop (length ws) xs))

pub returns-clause-rising : goal.returns-clause-rising
returns-clause-rising c =
    let whole = filled (length c.args.lits.now.items) c.args.lits.now.items c.sort_unstable.new.self (c.sort_unstable.ensures.len ∙ ap length c.as_mut_slice.ensures.value) in
    rw (c.dedup.ensures.items, whole) (rising_from_sorted _ (IsStrictlySortedBy-dedup int_cmp_total (λ x y. grind (arith, ints, nat_tests)) _ c.sort_unstable.ensures.sorted))

pub returns-clause-same : goal.returns-clause-same
returns-clause-same c =
    let whole = filled (length c.args.lits.now.items) c.args.lits.now.items c.sort_unstable.new.self (c.sort_unstable.ensures.len ∙ ap length c.as_mut_slice.ensures.value) in
    let moved = subst (λ (xs : List ℤ). IsPermutation xs c.sort_unstable.new.self) c.as_mut_slice.ensures.value c.sort_unstable.ensures.permutation in (
      (λ l h. Contains-permutation _ _ l (IsPermutation-sym _ _ moved) (Contains-from_dedup _ _ l (rw (c.dedup.ensures.items, whole) at h))),
      λ l h. rw (c.dedup.ensures.items, whole) (Contains-dedup int_eq_equiv (λ x y e. grind (arith, ints, nat_tests)) _ l (Contains-permutation _ _ l moved h)),
    )
