use Rattle.std.proofs.Common.{◌*◌, ◌^◌, ◌+◌, subst, take, mul-zero, arith}
use Rattle.std.proofs.lemmas.List.{take_all}
use Rattle.algebra_core.specs.Polynomials.{product, sum_of}
use Rattle.poly_terms.specs.Monomials.{total_in}
use Rattle.poly_terms.specs.PolySums.{Gains}
use Rattle.poly_terms.specs.Tables.{said}
use Rattle.poly_terms.specs.Laws.{all_in_grown, grows_on, grows_itself}
use Rattle.poly_terms.proofs.Given.{one_more_multiple}
use Rattle.poly_terms.proofs.Summing.{gains_none, gains_on}
use Rattle.poly_terms.proofs.Ends.{not_done}
use Rattle.poly_terms.proofs.multiple_sum.add_multiples.Goals as goal

pub add_part-requires-clause-entries : goal.add_part-requires-clause-entries
add_part-requires-clause-entries c = all_in_grown c.args.table.now c.loop-number.table c.args.entries.now c.loop-number.invariant.grows c.requires.entries

pub loop-number-init : goal.loop-number-init
loop-number-init c =
    let old = c.args.table.now in
    record {
      listed = c.requires.listed;
      grows = grows_itself old;
      gains = gains_none (2 ^ c.args.width) old c.args.coefficients.now (λ σ. total_in old σ c.args.entries.now * sum_of (2 ^ c.args.width) (said (take 0 c.args.parts.now)) σ) (λ σ. mul-zero (total_in old σ c.args.entries.now));
    }

pub loop-number-preserved : goal.loop-number-preserved
loop-number-preserved c =
    let m = 2 ^ c.args.width in
    let old = c.args.table.now in
    let mid = c.loop-number.table in
    let new = c.add_part.new.table in
    let es = c.args.entries.now in
    let parts = c.args.parts.now in
    let part = c.loop-number-item.result in
    let vs = c.as_slice.result.now in
    let i = c.loop-number.number-index in
    let at = c.loop-number.invariant in
    record {
      listed = c.in_ok-add_part.ensures.listed;
      grows = grows_on old mid new at.grows c.in_ok-add_part.ensures.grows;
      gains = gains_on m old mid new c.args.coefficients.now c.loop-number.coefficients c.add_part.new.coefficients
          (λ σ. total_in old σ es * sum_of m (said (take i parts)) σ) (λ σ. part.0 * product σ vs * total_in mid σ es) (λ σ. total_in old σ es * sum_of m (said (take (i + 1) parts)) σ)
          at.gains c.in_ok-add_part.ensures.gains
          (λ σ. one_more_multiple m old mid σ es parts i part vs at.grows c.requires.entries c.loop-number-test.true c.loop-number-item.is c.as_slice.ensures);
    }

pub returns-in_err-add_part-clause-listed : goal.returns-in_err-add_part-clause-listed
returns-in_err-add_part-clause-listed c = c.add_part.ensures.listed

pub returns-in_err-add_part-clause-grows : goal.returns-in_err-add_part-clause-grows
returns-in_err-add_part-clause-grows c = grows_on c.args.table.now c.loop-number.table c.add_part.new.table c.loop-number.invariant.grows c.add_part.ensures.grows

pub returns-in_err-add_part-clause-gains : goal.returns-in_err-add_part-clause-gains
returns-in_err-add_part-clause-gains c = not_done _ _ c.from_residual.result c.from_residual.ensures.1

pub returns-clause-listed : goal.returns-clause-listed
returns-clause-listed c = c.loop-number.invariant.listed

pub returns-clause-grows : goal.returns-clause-grows
returns-clause-grows c = c.loop-number.invariant.grows

pub returns-clause-gains : goal.returns-clause-gains
returns-clause-gains c =
    let m = 2 ^ c.args.width in
    let old = c.args.table.now in
    subst (λ ps. Gains m old c.loop-number.table c.args.coefficients.now c.loop-number.coefficients (λ σ. total_in old σ c.args.entries.now * sum_of m (said ps) σ))
    (take_all c.loop-number.number-index c.args.parts.now (omega arith)) c.loop-number.invariant.gains
