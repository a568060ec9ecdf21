use Rattle.std.proofs.Common.{◌*◌, ◌^◌, ◌<◌, ◌+◌, [], get_or, length, take, mul-zero, subst}
use Rattle.algebra_core.specs.Polynomials.{product}
use Rattle.poly_terms.specs.Monomials.{total_in}
use Rattle.poly_terms.specs.Laws.{all_in_grown, grows_itself, grows_on, in_grown}
use Rattle.poly_terms.proofs.Adding.{all_at, one_more_row}
use Rattle.poly_terms.proofs.Summing.{gains_none, gains_on}
use Rattle.poly_terms.proofs.Ends.{not_done}
use Rattle.std.proofs.lemmas.List.{take_all}
use Rattle.poly_terms.specs.PolySums.{Gains}
use Rattle.poly_terms.proofs.product_sum.add_products.Goals as goal

pub add_multiple-requires-clause-entries : goal.add_multiple-requires-clause-entries
add_multiple-requires-clause-entries c = all_in_grown c.args.table.now c.loop-by.table c.args.left.now c.loop-by.invariant.grows c.requires.left

pub add_multiple-requires-clause-by : goal.add_multiple-requires-clause-by
add_multiple-requires-clause-by c =
    let old = c.args.table.now in
    let e = c.by-item.result in
    in_grown old c.loop-by.table e.0 c.loop-by.invariant.grows
    (all_at (λ x. x.0 < length old) c.args.right.now c.loop-by.by-index e c.loop-by-test.true c.by-item.is c.requires.right)

pub loop-by-init : goal.loop-by-init
loop-by-init c =
    let old = c.args.table.now in
    record {
      listed = c.requires.listed;
      grows = grows_itself old;
      gains = gains_none (2 ^ c.args.width) old c.args.coefficients.now (λ σ. total_in old σ c.args.left.now * total_in old σ (take 0 c.args.right.now)) (λ σ. mul-zero (total_in old σ c.args.left.now));
    }

pub loop-by-preserved : goal.loop-by-preserved
loop-by-preserved c =
    let old = c.args.table.now in
    let mid = c.loop-by.table in
    let new = c.add_multiple.new.table in
    let e = c.by-item.result in
    let left = c.args.left.now in
    let right = c.args.right.now in
    let i = c.loop-by.by-index in
    let at = c.loop-by.invariant in
    record {
      listed = c.in_ok-add_multiple.ensures.listed;
      grows = grows_on old mid new at.grows c.in_ok-add_multiple.ensures.grows;
      gains = gains_on (2 ^ c.args.width) old mid new c.args.coefficients.now c.loop-by.coefficients c.add_multiple.new.coefficients
          (λ σ. total_in old σ left * total_in old σ (take i right)) (λ σ. e.1 * product σ (get_or mid e.0 []) * total_in mid σ left) (λ σ. total_in old σ left * total_in old σ (take (i + 1) right))
          at.gains c.in_ok-add_multiple.ensures.gains
          (λ σ. one_more_row old mid σ left right i e at.grows c.requires.left c.requires.right c.loop-by-test.true c.by-item.is);
    }

pub returns-in_err-add_multiple-clause-listed : goal.returns-in_err-add_multiple-clause-listed
returns-in_err-add_multiple-clause-listed c = c.add_multiple.ensures.listed

pub returns-in_err-add_multiple-clause-grows : goal.returns-in_err-add_multiple-clause-grows
returns-in_err-add_multiple-clause-grows c = grows_on c.args.table.now c.loop-by.table c.add_multiple.new.table c.loop-by.invariant.grows c.add_multiple.ensures.grows

pub returns-in_err-add_multiple-clause-gains : goal.returns-in_err-add_multiple-clause-gains
returns-in_err-add_multiple-clause-gains c = not_done _ _ c.from_residual.result c.from_residual.ensures.1

pub returns-clause-listed : goal.returns-clause-listed
returns-clause-listed c = c.loop-by.invariant.listed

pub returns-clause-grows : goal.returns-clause-grows
returns-clause-grows c = c.loop-by.invariant.grows

pub returns-clause-gains : goal.returns-clause-gains
returns-clause-gains c =
    let old = c.args.table.now in
    subst (λ es. Gains (2 ^ c.args.width) old c.loop-by.table c.args.coefficients.now c.loop-by.coefficients (λ σ. total_in old σ c.args.left.now * total_in old σ es))
    (take_all c.loop-by.by-index c.args.right.now c.loop-by-test.false) c.loop-by.invariant.gains
