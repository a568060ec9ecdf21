use Rattle.std.proofs.Common.{◌*◌, ◌%◌, refl, ap, sym, ◌∙◌, mul-zero}
use Rattle.std.proofs.lemmas.Result.{on_ok_weaker}
use Rattle.algebra_core.specs.Polynomials.{product}
use Rattle.poly_terms.specs.Laws.{grows_itself}
use Rattle.poly_terms.proofs.Adding.{adds_none, adds_same}
use Rattle.poly_terms.proofs.Given.{zero_product}
use Rattle.poly_terms.proofs.parts.push_part.Goals as goal

pub returns-then-has_variable-clause-adds : goal.returns-then-has_variable-clause-adds
returns-then-has_variable-clause-adds c m =
    adds_none m c.args.table.now c.args.table.now c.args.out.now.items c.args.out.now.items (λ σ. c.args.coefficient * product σ c.args.variables.now) (grows_itself c.args.table.now) refl
    (λ σ. ap (λ n. c.args.coefficient * n) (zero_product σ c.args.variables.now (sym c.has_variable.ensures ∙ c.if-has_variable.true)) ∙ mul-zero c.args.coefficient)

pub returns-clause-adds : goal.returns-clause-adds
returns-clause-adds c =
    on_ok_weaker c.push_term.result
    (λ adds m.
    adds_same m c.args.table.now c.push_term.new.table c.args.out.now.items c.push_term.new.out.items (λ σ. c.args.coefficient * product σ c.in_ok-monomial.monomial.items)
    (λ σ. c.args.coefficient * product σ c.args.variables.now) (adds m) (λ σ. ap (λ n. (c.args.coefficient * n) % m) (c.in_ok-monomial.ensures.value σ)))
    c.push_term.ensures.adds
