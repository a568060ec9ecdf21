use Rattle.std.proofs.Common.{◌*◌, ◌%◌, ◌^◌, refl, ap, sym, ◌∙◌, mul-zero, zero-mul}
use Rattle.std.proofs.lemmas.Result.{on_ok_weaker}
use Rattle.algebra_core.specs.Polynomials.{product}
use Rattle.poly_terms.specs.Laws.{grows_itself}
use Rattle.poly_terms.specs.Monomials.{total_in}
use Rattle.poly_terms.proofs.Adding.{adds_none, adds_same}
use Rattle.poly_terms.proofs.Given.{zero_product}
use Rattle.poly_terms.proofs.parts.push_products.Goals as goal

pub returns-then-has_variable-clause-adds : goal.returns-then-has_variable-clause-adds
returns-then-has_variable-clause-adds c =
    let m = 2 ^ c.args.exponent in
    let t = c.args.table.now in
    let es = c.args.entries.now in
    adds_none m t t c.args.out.now.items c.args.out.now.items (λ σ. c.args.coefficient * product σ c.args.variables.now * total_in t σ es) (grows_itself t) refl
    (λ σ. ap (λ n. c.args.coefficient * n * total_in t σ es) (zero_product σ c.args.variables.now (sym c.has_variable.ensures ∙ c.if-has_variable.true)) ∙
    ap (λ n. n * total_in t σ es) (mul-zero c.args.coefficient) ∙ zero-mul (total_in t σ es))

pub returns-clause-adds : goal.returns-clause-adds
returns-clause-adds c =
    let m = 2 ^ c.args.exponent in
    let t = c.args.table.now in
    let es = c.args.entries.now in
    let vs = c.as_slice.result.now in
    on_ok_weaker c.multiply_behind-2.result
    (λ adds.
    adds_same m t c.multiply_behind-2.new.table c.args.out.now.items c.multiply_behind-2.new.out.items (λ σ. c.args.coefficient * product σ vs * total_in t σ es)
    (λ σ. c.args.coefficient * product σ c.args.variables.now * total_in t σ es) adds
    (λ σ. ap (λ n. (c.args.coefficient * n * total_in t σ es) % m) (ap (product σ) c.as_slice.ensures ∙ c.in_ok-monomial.ensures.value σ)))
    c.multiply_behind-2.ensures.adds
