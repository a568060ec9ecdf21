use Rattle.std.proofs.Common.{◌*◌, ◌^◌, ◌<◌, ◌+◌, [], get_or, length, take, mul-zero, subst}
use Rattle.algebra_core.specs.Polynomials.{product}
use Rattle.poly_terms.specs.Monomials.{total_in, Adds}
use Rattle.poly_terms.specs.Laws.{all_in_grown, grows_on, in_grown, grows_itself}
use Rattle.poly_terms.proofs.Adding.{adds_on, all_at, one_more_row, adds_none}
use Rattle.poly_terms.proofs.Ends.{not_given}
use Rattle.std.proofs.lemmas.List.{take_all}
use Rattle.poly_terms.specs.Entries.{Sum}
use Rattle.poly_terms.proofs.multiplication.products_of.Goals as goal

pub multiply_by-requires-clause-entries : goal.multiply_by-requires-clause-entries
multiply_by-requires-clause-entries c = all_in_grown c.args.table.now c.loop-by.table c.args.left.now c.loop-by.invariant.grows c.requires.left

pub multiply_by-requires-clause-by : goal.multiply_by-requires-clause-by
multiply_by-requires-clause-by c =
    let old = c.args.table.now in
    let e = c.by-item.result in
    in_grown old c.loop-by.table e.0 c.loop-by.invariant.grows
    (all_at (λ x. x.0 < length old) c.args.right.now c.loop-by.by-index e c.loop-by-test.true c.by-item.is c.requires.right)

pub loop-by-preserved : goal.loop-by-preserved
loop-by-preserved c =
    let old = c.args.table.now in
    let mid = c.loop-by.table in
    let new = c.multiply_by.new.table in
    let e = c.by-item.result in
    let left = c.args.left.now in
    let right = c.args.right.now in
    let i = c.loop-by.by-index in
    let at = c.loop-by.invariant in
    record {
      grows = grows_on old mid new at.grows c.multiply_by.ensures.grows;
      adds = adds_on (2 ^ c.args.exponent) old mid new [] c.loop-by.out.items c.multiply_by.new.out.items
          (λ σ. total_in old σ left * total_in old σ (take i right)) (λ σ. e.1 * product σ (get_or mid e.0 []) * total_in mid σ left) (λ σ. total_in old σ left * total_in old σ (take (i + 1) right))
          at.adds c.in_ok-multiply_by.ensures.adds
          (λ σ. one_more_row old mid σ left right i e at.grows c.requires.left c.requires.right c.loop-by-test.true c.by-item.is);
    }

pub returns-in_err-out-clause-grows : goal.returns-in_err-out-clause-grows
returns-in_err-out-clause-grows c = grows_itself c.args.table.now

pub returns-in_err-out-clause-adds : goal.returns-in_err-out-clause-adds
returns-in_err-out-clause-adds c = not_given _ _ c.from_residual.result c.from_residual.ensures.1

pub loop-by-init : goal.loop-by-init
loop-by-init c =
    let old = c.args.table.now in
    let left = c.args.left.now in
    record {
      grows = grows_itself old;
      adds = adds_none (2 ^ c.args.exponent) old old [] _ (λ σ. total_in old σ left * total_in old σ (take 0 c.args.right.now)) (grows_itself old) c.in_ok-out.ensures.items (λ σ. mul-zero (total_in old σ left));
    }

pub returns-in_err-multiply_by-clause-grows : goal.returns-in_err-multiply_by-clause-grows
returns-in_err-multiply_by-clause-grows c = grows_on c.args.table.now c.loop-by.table c.multiply_by.new.table c.loop-by.invariant.grows c.multiply_by.ensures.grows

pub returns-in_err-multiply_by-clause-adds : goal.returns-in_err-multiply_by-clause-adds
returns-in_err-multiply_by-clause-adds c = not_given _ _ c.from_residual-in_err-multiply_by.result c.from_residual-in_err-multiply_by.ensures.1

pub returns-clause-grows : goal.returns-clause-grows
returns-clause-grows c = c.loop-by.invariant.grows

pub returns-clause-adds : goal.returns-clause-adds
returns-clause-adds c =
    let old = c.args.table.now in
    let P : Sum → Type 0 = λ es. Adds (2 ^ c.args.exponent) old c.loop-by.table [] c.loop-by.out.items (λ σ. total_in old σ c.args.left.now * total_in old σ es) in
    subst P (take_all c.loop-by.by-index c.args.right.now c.loop-by-test.false) c.loop-by.invariant.adds
