use Rattle.std.proofs.Common.{◌≡◌, ◌*◌, ◌%◌, [], get_or, sym, ap, ap₂, ◌∙◌}
use Rattle.algebra_core.specs.Polynomials.{product}
use Rattle.poly_terms.proofs.Adding.{adds_same}
use Rattle.poly_terms.proofs.carrying.carry_behind.Goals as goal

pub returns-in_ok-push_term-clause-adds : goal.returns-in_ok-push_term-clause-adds
returns-in_ok-push_term-clause-adds c m =
    let from = c.args.from.now in
    let e = c.args.term.now in
    let is : c.in_ok-monomial.monomial.items ≡ get_or from e.0 [] = c.in_ok-monomial.ensures ∙ sym c.variables.ensures.value ∙ ap (λ n. get_or from n []) c.number.ensures in
    adds_same m c.args.table.now c.push_term.new.table c.args.out.now.items c.push_term.new.out.items (λ σ. c.coefficient-then-coefficient-ne0.result * product σ c.in_ok-monomial.monomial.items)
    (λ σ. e.1 * product σ (get_or from e.0 [])) (c.in_ok-push_term.ensures.adds m) (λ σ. ap₂ (λ n ks. (n * product σ ks) % m) c.coefficient-then-coefficient-ne0.ensures is)
