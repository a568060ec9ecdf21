use Rattle.std.proofs.Common.{◌*◌, ◌%◌, ◌^◌, ap, sym, ◌∙◌, mul-zero, zero-mul}
use Rattle.std.proofs.lemmas.Result.{on_ok_weaker}
use Rattle.algebra_core.specs.Polynomials.{product}
use Rattle.poly_terms.specs.Monomials.{total_in}
use Rattle.poly_terms.proofs.Given.{zero_product}
use Rattle.poly_terms.proofs.Summing.{gains_none, gains_same}
use Rattle.poly_terms.proofs.multiple_sum.add_part.Goals as goal

pub returns-then-has_variable-clause-gains : goal.returns-then-has_variable-clause-gains
returns-then-has_variable-clause-gains c =
    let t = c.args.table.now in
    let es = c.args.entries.now in
    gains_none (2 ^ c.args.width) t c.args.coefficients.now (λ σ. c.args.number * product σ c.args.variables.now * total_in t σ es)
    (λ σ. ap (λ n. c.args.number * n * total_in t σ es) (zero_product σ c.args.variables.now (sym c.has_variable.ensures ∙ c.if-has_variable.true)) ∙
    ap (λ n. n * total_in t σ es) (mul-zero c.args.number) ∙ zero-mul (total_in t σ es))

pub returns-clause-gains : goal.returns-clause-gains
returns-clause-gains c =
    let m = 2 ^ c.args.width in
    let t = c.args.table.now in
    let es = c.args.entries.now in
    let vs = c.as_slice.result.now in
    on_ok_weaker c.add_scaled-2.result
    (λ gains.
    gains_same m t c.add_scaled-2.new.table c.args.coefficients.now c.add_scaled-2.new.coefficients (λ σ. c.args.number * product σ vs * total_in t σ es)
    (λ σ. c.args.number * product σ c.args.variables.now * total_in t σ es) gains
    (λ σ. ap (λ n. (c.args.number * n * total_in t σ es) % m) (ap (product σ) c.as_slice.ensures ∙ c.in_ok-monomial.ensures.value σ)))
    c.add_scaled-2.ensures.gains
