use Rattle.std.proofs.Common.{◌≡◌, ◌*◌, ◌%◌, ◌^◌, [], ◌∷◌, get_or, ap, ap₂, subst, ◌∙◌, arith}
use Rattle.std.proofs.lemmas.Result.{on_ok_weaker}
use Rattle.algebra_core.specs.Polynomials.{product}
use Rattle.poly_terms.specs.Monomials.{Stands, joined}
use Rattle.poly_terms.specs.PolySums.{IsAdded}
use Rattle.poly_terms.proofs.Keys.{product-joined}
use Rattle.poly_terms.proofs.Residues.{low_factor}
use Rattle.poly_terms.proofs.Summing.{gains_one, gains_same}
use Rattle.poly_terms.proofs.multiple_sum.add_one.Goals as goal

pub returns-clause-gains : goal.returns-clause-gains
returns-clause-gains c =
    let m = 2 ^ c.args.width in
    let old = c.args.table.now in
    let new = c.multiple.new.self in
    let a = c.args.number in
    let e = c.args.entry.now in
    let us = c.args.monomial.now in
    let vs = get_or old e.0 [] in
    let n = c.in_ok-place.place in
    let k = (a * c.coefficient.result) % 2 ^ 128 in
    let stands : Stands new n (joined us vs) = subst (λ i. Stands new n (joined us (get_or old i []))) c.number.ensures c.in_ok-place.ensures.number in
    let reduced : k ≡ (a * e.1) % 2 ^ 128 = ap (λ x. (a * x) % 2 ^ 128) c.coefficient.ensures in
    on_ok_weaker c.add_term.result
    (λ added.
    gains_same m old new c.args.coefficients.now c.add_term.new.coefficients (λ σ. k * product σ (joined us vs)) (λ σ. a * product σ us * (e.1 * product σ vs))
    (gains_one m old new c.args.coefficients.now c.add_term.new.coefficients n k (joined us vs) c.in_ok-place.ensures.grows stands
    (subst (λ x. IsAdded m c.args.coefficients.now c.add_term.new.coefficients (x ∷ [])) c.new.ensures added))
    (λ σ.
    ap₂ (λ x y. (x * y) % m) reduced (product-joined σ us vs) ∙ low_factor (a * e.1) (product σ us * product σ vs) c.args.width c.requires.width ∙ ap (λ x. x % m) (omega arith)))
    c.add_term.ensures.added
