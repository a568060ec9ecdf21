use Rattle.std.specs.Prelude.{◌≡◌, ◌*◌, ◌%◌, ℤ, pos, not, slice_index_or}
use Rattle.std.proofs.Common.{ap, rules, subst, w32, SFits, ◌∙◌}
use Rattle.std.proofs.lemmas.Int.{to_z-of_z}
use Rattle.clause_core.specs.Clause.{signed}
use Rattle.graph_core.specs.Graph.Assignments.{bit}
use Rattle.poly_terms.specs.Laws.{extends_on}
use Rattle.poly_terms.specs.Tables.{modulus_in, value_in}
use Rattle.gate_axioms.proofs.ClauseProducts.{product_ends, product_goes_on, product_starts}
use Rattle.gate_axioms.proofs.clauses.clause_poly.Goals as goal

pub loop-lit-init : goal.loop-lit-init
loop-lit-init c = product_starts c.args.terms.now c.literal_poly.new.terms c.in_ok-product.product c.args.clause.now c.in_ok-product.ensures.extends c.in_ok-product.ensures.of c.in_ok-product.ensures.value

pub loop-lit-preserved : goal.loop-lit-preserved
loop-lit-preserved c =
    let t = c.loop-lit.terms in
    let u = c.with_literal.new.terms in
    let p = c.loop-lit.product in
    let r = c.in_ok-product-2.product in
    let fits : SFits w32 (slice_index_or c.lits-lit-items.result.now c.loop-lit.lit-index (pos 0)) = search rules in
    let same = to_z-of_z w32 (slice_index_or c.lits-lit-items.result.now c.loop-lit.lit-index (pos 0)) fits ∙ ap (λ ls. slice_index_or ls c.loop-lit.lit-index (pos 0)) c.lits-lit-items.ensures.value in
    let on = c.in_ok-product-2.ensures.extends in
    product_goes_on c.args.terms.now t u p r c.args.clause.now c.loop-lit.lit-index (pos 0) (rw c.lits-lit-items.ensures.value at c.loop-lit-test.true)
    (extends_on c.args.terms.now t u c.loop-lit.invariant.grown on) on c.in_ok-product-2.ensures.of
    (λ σ. subst (λ (l : ℤ). value_in u r σ ≡ (value_in t p σ * bit (not (signed σ l))) % modulus_in t) same (c.in_ok-product-2.ensures.value σ)) c.loop-lit.invariant

pub returns-clause-value : goal.returns-clause-value
returns-clause-value c =
    product_ends c.args.terms.now c.loop-lit.terms c.loop-lit.product c.args.clause.now c.loop-lit.lit-index (rw c.lits-lit-items.ensures.value at c.loop-lit-test.false) c.loop-lit.invariant
