use Rattle.std.proofs.Common.{◌≡◌, ◌*◌, ◌%◌, ◌^◌, [], ◌∷◌, get_or, ap, ap₂, subst, ◌∙◌, arith}
use Rattle.std.proofs.lemmas.Result.{on_ok_weaker}
use Rattle.algebra_core.specs.Polynomials.{product}
use Rattle.poly_terms.specs.Monomials.{Stands, joined}
use Rattle.poly_terms.specs.PolySums.{IsAdded}
use Rattle.poly_terms.proofs.Keys.{product-joined}
use Rattle.poly_terms.proofs.Residues.{factor_reduced}
use Rattle.poly_terms.proofs.Summing.{gains_one, gains_same}
use Rattle.poly_terms.proofs.product_sum.add_product.Goals as goal

pub returns-clause-gains : goal.returns-clause-gains
returns-clause-gains c =
    let m = 2 ^ c.args.width in
    let old = c.args.table.now in
    let new = c.product.new.self in
    let a = c.args.by.now in
    let e = c.args.entry.now in
    let us = get_or old a.0 [] in
    let vs = get_or old e.0 [] in
    let n = c.in_ok-number.number in
    let k = c.product-coefficient.result in
    let stands : Stands new n (joined us vs) =
    subst (λ i. Stands new n (joined us (get_or old i []))) c.number-2.ensures (subst (λ i. Stands new n (joined (get_or old i []) (get_or old c.number-2.result []))) c.number.ensures c.in_ok-number.ensures.number) in
    let reduced : k ≡ (a.1 * e.1) % m = c.product-coefficient.ensures ∙ ap₂ (λ x y. (x * y) % m) c.coefficient.ensures c.coefficient-2.ensures in
    on_ok_weaker c.add_term.result
    (λ added.
    gains_same m old new c.args.coefficients.now c.add_term.new.coefficients (λ σ. k * product σ (joined us vs)) (λ σ. a.1 * product σ us * (e.1 * product σ vs))
    (gains_one m old new c.args.coefficients.now c.add_term.new.coefficients n k (joined us vs) c.in_ok-number.ensures.grows stands
    (subst (λ x. IsAdded m c.args.coefficients.now c.add_term.new.coefficients (x ∷ [])) c.new.ensures added))
    (λ σ.
    ap₂ (λ x y. (x * y) % m) reduced (product-joined σ us vs) ∙ ap (λ x. x % m) (omega arith) ∙
    factor_reduced m (a.1 * e.1) (product σ us * product σ vs) 0 ∙ ap (λ x. x % m) (omega arith)))
    c.add_term.ensures.added
