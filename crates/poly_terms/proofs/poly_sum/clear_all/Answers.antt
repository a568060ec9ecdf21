use Rattle.std.proofs.Common.{◌≡◌, get_or, subst, ⊎_elim, arith}
use Rattle.std.proofs.lemmas.Bool.{cases_lt}
use Rattle.poly_terms.proofs.PolySums.{less_then, zero_still}
use Rattle.poly_terms.proofs.poly_sum.clear_all.Goals as goal

pub loop-number-preserved : goal.loop-number-preserved
loop-number-preserved c =
    let old = c.args.coefficients.now in
    let mid = c.loop-number.coefficients in
    let new = c.clear_one.new.coefficients in
    let i = c.loop-number.number-index in
    let less = c.clear_one.ensures.less in
    record {
      less = less_then old mid new c.loop-number.invariant.less less;
      gone = λ k low.
          ⊎_elim
          (λ before. zero_still mid new (get_or c.args.numbers.now k 0) less (c.loop-number.invariant.gone k before))
          (λ here. let same : i ≡ k = omega arith in subst (λ j. get_or new (get_or c.args.numbers.now j 0) 0 ≡ 0) same c.clear_one.ensures.gone)
          (cases_lt k i);
    }
