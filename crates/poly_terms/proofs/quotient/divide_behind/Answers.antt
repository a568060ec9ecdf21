use Rattle.std.proofs.Common.{◌≡◌, ◌*◌, ◌%◌, [], get_or, ap, ap₂, ◌∙◌, arith}
use Rattle.std.proofs.lemmas.Result.{on_ok_weaker}
use Rattle.algebra_core.specs.Polynomials.{product}
use Rattle.poly_terms.specs.Monomials.{replaced_one, without_variable}
use Rattle.poly_terms.proofs.Adding.{adds_same}
use Rattle.poly_terms.proofs.quotient.divide_behind.Goals as goal

pub returns-clause-adds : goal.returns-clause-adds
returns-clause-adds c =
    let table = c.args.table.now in
    let e = c.args.entry.now in
    let v = c.args.v in
    let is : c.in_ok-rest.rest.items ≡ without_variable v (get_or table e.0 []) = c.in_ok-rest.ensures.value ∙ ap (λ n. without_variable v (get_or table n [])) c.number.ensures in
    on_ok_weaker c.push_term.result
    (λ adds m.
    adds_same m table c.push_term.new.table c.args.out.now.items c.push_term.new.out.items (λ σ. c.coefficient.result * product σ c.in_ok-rest.rest.items) (λ σ. replaced_one table v σ 1 e) (adds m)
    (λ σ. ap₂ (λ a ks. (a * product σ ks) % m) c.coefficient.ensures is ∙ ap (λ n. n % m) (omega arith)))
    c.push_term.ensures.adds
