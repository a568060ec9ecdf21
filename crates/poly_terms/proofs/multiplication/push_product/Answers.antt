use Rattle.std.proofs.Common.{◌≡◌, ◌*◌, ◌%◌, ◌^◌, [], get_or, ap, subst, ◌∙◌, arith}
use Rattle.algebra_core.specs.Polynomials.{product}
use Rattle.poly_terms.specs.Monomials.{Stands, joined}
use Rattle.poly_terms.proofs.Adding.{adds_one, adds_same}
use Rattle.poly_terms.proofs.Keys.{product-joined}
use Rattle.poly_terms.proofs.Residues.{factor_reduced}
use Rattle.poly_terms.proofs.multiplication.push_product.Goals as goal

pub returns-clause-adds : goal.returns-clause-adds
returns-clause-adds c =
    let m = 2 ^ c.args.exponent in
    let table = c.args.table.now in
    let new = c.multiple.new.self in
    let e = c.args.entry.now in
    let vs = c.args.monomial.now in
    let us = get_or table e.0 [] in
    let a = c.product-coefficient.result in
    let stands : Stands new c.in_ok-number.number (joined vs us) = subst (λ n. Stands new c.in_ok-number.number (joined vs (get_or table n []))) c.number.ensures c.in_ok-number.ensures.number in
    let reduced : a ≡ (c.args.coefficient * e.1) % m = c.product-coefficient.ensures ∙ ap (λ n. (c.args.coefficient * n) % m) c.coefficient.ensures in
    adds_same m table new c.args.out.now.items c.push.new.self.items (λ σ. a * product σ (joined vs us)) (λ σ. c.args.coefficient * product σ vs * (e.1 * product σ us))
    (adds_one m table new c.args.out.now.items c.push.new.self.items c.in_ok-number.number a (joined vs us) c.in_ok-number.ensures.grows stands (rw (← c.new.ensures) c.in_ok-push.ensures.items))
    (λ σ.
    ap (λ n. (n * product σ (joined vs us)) % m) reduced ∙ ap (λ n. ((c.args.coefficient * e.1) % m * n) % m) (product-joined σ vs us) ∙ ap (λ n. n % m) (omega arith) ∙
    factor_reduced m (c.args.coefficient * e.1) (product σ vs * product σ us) 0 ∙ ap (λ n. n % m) (omega arith))
