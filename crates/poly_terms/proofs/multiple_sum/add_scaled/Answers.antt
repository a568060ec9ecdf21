use Rattle.std.proofs.Common.{ℕ, ◌*◌, ◌^◌, ◌<◌, ◌+◌, [], get_or, length, take, mul-zero, subst}
use Rattle.graph_core.specs.Graph.Assignments.{Assignment}
use Rattle.algebra_core.specs.Polynomials.{product}
use Rattle.poly_terms.specs.Monomials.{total_in}
use Rattle.poly_terms.specs.Laws.{grows_itself, grows_on, in_grown}
use Rattle.poly_terms.proofs.Adding.{all_at, one_more_product}
use Rattle.poly_terms.proofs.Summing.{gains_none, gains_on}
use Rattle.poly_terms.proofs.Ends.{not_done}
use Rattle.std.proofs.lemmas.List.{take_all}
use Rattle.poly_terms.specs.PolySums.{Gains}
use Rattle.poly_terms.proofs.multiple_sum.add_scaled.Goals as goal

pub add_one-requires-clause-entry : goal.add_one-requires-clause-entry
add_one-requires-clause-entry c =
    let old = c.args.table.now in
    let e = c.entry-item.result in
    in_grown old c.loop-entry.table e.0 c.loop-entry.invariant.grows
    (all_at (λ x. x.0 < length old) c.args.entries.now c.loop-entry.entry-index e c.loop-entry-test.true c.entry-item.is c.requires.entries)

pub loop-entry-init : goal.loop-entry-init
loop-entry-init c =
    let old = c.args.table.now in
    let a : Assignment → ℕ = λ σ. c.args.number * product σ c.args.monomial.now in
    record {
      listed = c.requires.listed;
      grows = grows_itself old;
      gains = gains_none (2 ^ c.args.width) old c.args.coefficients.now (λ σ. a σ * total_in old σ (take 0 c.args.entries.now)) (λ σ. mul-zero (a σ));
    }

pub loop-entry-preserved : goal.loop-entry-preserved
loop-entry-preserved c =
    let old = c.args.table.now in
    let mid = c.loop-entry.table in
    let new = c.add_one.new.table in
    let e = c.entry-item.result in
    let es = c.args.entries.now in
    let i = c.loop-entry.entry-index in
    let at = c.loop-entry.invariant in
    let a : Assignment → ℕ = λ σ. c.args.number * product σ c.args.monomial.now in
    record {
      listed = c.in_ok-add_one.ensures.listed;
      grows = grows_on old mid new at.grows c.in_ok-add_one.ensures.grows;
      gains = gains_on (2 ^ c.args.width) old mid new c.args.coefficients.now c.loop-entry.coefficients c.add_one.new.coefficients
          (λ σ. a σ * total_in old σ (take i es)) (λ σ. a σ * (e.1 * product σ (get_or mid e.0 []))) (λ σ. a σ * total_in old σ (take (i + 1) es))
          at.gains c.in_ok-add_one.ensures.gains
          (λ σ. one_more_product old mid (a σ) σ es i e at.grows c.requires.entries c.loop-entry-test.true c.entry-item.is);
    }

pub returns-in_err-add_one-clause-listed : goal.returns-in_err-add_one-clause-listed
returns-in_err-add_one-clause-listed c = c.add_one.ensures.listed

pub returns-in_err-add_one-clause-grows : goal.returns-in_err-add_one-clause-grows
returns-in_err-add_one-clause-grows c = grows_on c.args.table.now c.loop-entry.table c.add_one.new.table c.loop-entry.invariant.grows c.add_one.ensures.grows

pub returns-in_err-add_one-clause-gains : goal.returns-in_err-add_one-clause-gains
returns-in_err-add_one-clause-gains c = not_done _ _ c.from_residual.result c.from_residual.ensures.1

pub returns-clause-listed : goal.returns-clause-listed
returns-clause-listed c = c.loop-entry.invariant.listed

pub returns-clause-grows : goal.returns-clause-grows
returns-clause-grows c = c.loop-entry.invariant.grows

pub returns-clause-gains : goal.returns-clause-gains
returns-clause-gains c =
    let old = c.args.table.now in
    subst (λ es. Gains (2 ^ c.args.width) old c.loop-entry.table c.args.coefficients.now c.loop-entry.coefficients (λ σ. c.args.number * product σ c.args.monomial.now * total_in old σ es))
    (take_all c.loop-entry.entry-index c.args.entries.now c.loop-entry-test.false) c.loop-entry.invariant.gains
