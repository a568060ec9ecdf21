use Rattle.std.proofs.Common.{◌≡◌, ◌%◌, ◌+◌, ◌^◌, ◌<◌, sym, subst, ◌∙◌}
use Rattle.std.proofs.Math.Nat.{mod-eq_of_lt}
use Rattle.poly_text.proofs.WrittenTerms.{opposite_is, opposite_lesser}
use Rattle.pair_limits.proofs.polynomials.signed.Goals as goal

pub returns-then-opposite-coefficient-clause-lesser :
    goal.returns-then-opposite-coefficient-clause-lesser
returns-then-opposite-coefficient-clause-lesser c =
    let m = 2 ^ c.args.exponent in
    let k = c.value-opposite.result in
    let n = c.args.coefficient in
    let width : c.neg.result.width ≡ c.args.exponent = c.neg.ensures.width ∙ c.new.ensures.width in
    let class : c.new.result.value ≡ n = c.new.ensures.value ∙ mod-eq_of_lt c.requires.below in
    let zero : (k + n) % m ≡ 0 = rw (c.value-opposite.ensures.value, ← class, ← c.new.ensures.width) c.neg.ensures.value in
    let below : k < m = subst (λ w. k < 2 ^ w) width c.value-opposite.ensures.below in
    sym (opposite_lesser m n k (opposite_is m n k c.requires.some c.requires.below below zero) c.requires.below c.if-opposite-coefficient.true)
