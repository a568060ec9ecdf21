use Rattle.std.proofs.Common.{◌≡◌, [], get_or, subst, ⊎_elim, arith}
use Rattle.std.proofs.lemmas.Bool.{cases_lt}
use Rattle.poly_terms.proofs.PolySums.{less_then, taken_then, zero_still}
use Rattle.poly_terms.proofs.Ends.{not_done, not_given}
use Rattle.poly_terms.proofs.poly_sum.take_out.Goals as goal

pub loop-number-preserved : goal.loop-number-preserved
loop-number-preserved c =
    let old = c.args.coefficients.now in
    let mid = c.loop-number.coefficients in
    let new = c.take_one.new.coefficients in
    let i = c.loop-number.number-index in
    let less = c.in_ok-take_one.ensures.less in
    record {
      less = less_then old mid new c.loop-number.invariant.less less;
      taken = taken_then old mid new [] c.loop-number.out.items c.take_one.new.out.items c.loop-number.invariant.less c.loop-number.invariant.taken c.in_ok-take_one.ensures.taken;
      gone = λ k low.
          ⊎_elim
          (λ before. zero_still mid new (get_or c.args.numbers.now k 0) less (c.loop-number.invariant.gone k before))
          (λ here. let same : i ≡ k = omega arith in subst (λ j. get_or new (get_or c.args.numbers.now j 0) 0 ≡ 0) same c.in_ok-take_one.ensures.gone)
          (cases_lt k i);
    }

pub returns-in_err-take_one-clause-less : goal.returns-in_err-take_one-clause-less
returns-in_err-take_one-clause-less c =
    less_then c.args.coefficients.now c.loop-number.coefficients c.take_one.new.coefficients c.loop-number.invariant.less c.take_one.ensures.less

pub returns-in_err-take_one-clause-taken : goal.returns-in_err-take_one-clause-taken
returns-in_err-take_one-clause-taken c = not_given _ _ c.from_residual.result c.from_residual.ensures.1

pub returns-in_err-take_one-clause-gone : goal.returns-in_err-take_one-clause-gone
returns-in_err-take_one-clause-gone c = not_done _ _ c.from_residual.result c.from_residual.ensures.1

pub returns-clause-less : goal.returns-clause-less
returns-clause-less c = c.loop-number.invariant.less

pub returns-clause-taken : goal.returns-clause-taken
returns-clause-taken c = c.loop-number.invariant.taken

pub returns-clause-gone : goal.returns-clause-gone
returns-clause-gone c k h = c.loop-number.invariant.gone k (omega (arith, h, c.loop-number-test.false))
