use Rattle.std.proofs.Common.{ℕ, ◌*◌, ◌^◌, ◌<◌, ◌+◌, [], get_or, length, take, ap, ◌∙◌, mul-zero, subst}
use Rattle.graph_core.specs.Graph.Assignments.{Assignment}
use Rattle.algebra_core.specs.Polynomials.{product}
use Rattle.poly_terms.specs.Monomials.{total_in}
use Rattle.poly_terms.specs.Laws.{grows_itself, grows_on, in_grown, stands_in_grown}
use Rattle.poly_terms.proofs.Adding.{all_at, one_more_product}
use Rattle.poly_terms.proofs.Summing.{gains_none, gains_on}
use Rattle.poly_terms.proofs.Ends.{not_done}
use Rattle.std.proofs.lemmas.List.{take_all}
use Rattle.poly_terms.specs.PolySums.{Gains}
use Rattle.poly_terms.proofs.product_sum.add_multiple.Goals as goal

pub add_product-requires-clause-by : goal.add_product-requires-clause-by
add_product-requires-clause-by c = in_grown c.args.table.now c.loop-entry.table c.args.by.now.0 c.loop-entry.invariant.grows c.requires.by

pub add_product-requires-clause-entry : goal.add_product-requires-clause-entry
add_product-requires-clause-entry c =
    let old = c.args.table.now in
    let e = c.entry-item.result in
    in_grown old c.loop-entry.table e.0 c.loop-entry.invariant.grows
    (all_at (λ x. x.0 < length old) c.args.entries.now c.loop-entry.entry-index e c.loop-entry-test.true c.entry-item.is c.requires.entries)

pub loop-entry-init : goal.loop-entry-init
loop-entry-init c =
    let old = c.args.table.now in
    let by = c.args.by.now in
    let a : Assignment → ℕ = λ σ. by.1 * product σ (get_or old by.0 []) in
    record {
      listed = c.requires.listed;
      grows = grows_itself old;
      gains = gains_none (2 ^ c.args.width) old c.args.coefficients.now (λ σ. a σ * total_in old σ (take 0 c.args.entries.now)) (λ σ. mul-zero (a σ));
    }

pub loop-entry-preserved : goal.loop-entry-preserved
loop-entry-preserved c =
    let old = c.args.table.now in
    let mid = c.loop-entry.table in
    let new = c.add_product.new.table in
    let by = c.args.by.now in
    let e = c.entry-item.result in
    let es = c.args.entries.now in
    let i = c.loop-entry.entry-index in
    let at = c.loop-entry.invariant in
    let a : Assignment → ℕ = λ σ. by.1 * product σ (get_or old by.0 []) in
    record {
      listed = c.in_ok-add_product.ensures.listed;
      grows = grows_on old mid new at.grows c.in_ok-add_product.ensures.grows;
      gains = gains_on (2 ^ c.args.width) old mid new c.args.coefficients.now c.loop-entry.coefficients c.add_product.new.coefficients
          (λ σ. a σ * total_in old σ (take i es)) (λ σ. by.1 * product σ (get_or mid by.0 []) * (e.1 * product σ (get_or mid e.0 []))) (λ σ. a σ * total_in old σ (take (i + 1) es))
          at.gains c.in_ok-add_product.ensures.gains
          (λ σ.
          ap (λ ks. a σ * total_in old σ (take i es) + by.1 * product σ ks * (e.1 * product σ (get_or mid e.0 []))) (stands_in_grown old mid by.0 at.grows c.requires.by) ∙
          one_more_product old mid (a σ) σ es i e at.grows c.requires.entries c.loop-entry-test.true c.entry-item.is);
    }

pub returns-in_err-add_product-clause-listed : goal.returns-in_err-add_product-clause-listed
returns-in_err-add_product-clause-listed c = c.add_product.ensures.listed

pub returns-in_err-add_product-clause-grows : goal.returns-in_err-add_product-clause-grows
returns-in_err-add_product-clause-grows c = grows_on c.args.table.now c.loop-entry.table c.add_product.new.table c.loop-entry.invariant.grows c.add_product.ensures.grows

pub returns-in_err-add_product-clause-gains : goal.returns-in_err-add_product-clause-gains
returns-in_err-add_product-clause-gains c = not_done _ _ c.from_residual.result c.from_residual.ensures.1

pub returns-clause-listed : goal.returns-clause-listed
returns-clause-listed c = c.loop-entry.invariant.listed

pub returns-clause-grows : goal.returns-clause-grows
returns-clause-grows c = c.loop-entry.invariant.grows

pub returns-clause-gains : goal.returns-clause-gains
returns-clause-gains c =
    let old = c.args.table.now in
    let by = c.args.by.now in
    subst (λ es. Gains (2 ^ c.args.width) old c.loop-entry.table c.args.coefficients.now c.loop-entry.coefficients (λ σ. by.1 * product σ (get_or old by.0 []) * total_in old σ es))
    (take_all c.loop-entry.entry-index c.args.entries.now c.loop-entry-test.false) c.loop-entry.invariant.gains
