use Rattle.std.proofs.Common.{◌+◌, ◌%◌, ap, ◌∙◌}
use Rattle.poly_terms.specs.Tables.{modulus_in, value_in}
use Rattle.column_reducer.proofs.elimination.put_back.Goals as goal

pub returns-clause-value : goal.returns-clause-value
returns-clause-value c =
    let t = c.args.terms.now in (
      c.minus_power.result,
      c.minus_power.ensures,
      λ σ. c.in_ok-add.ensures.value σ ∙ ap (λ n. (value_in t c.args.rest.now.sum σ + n) % modulus_in t) (c.in_ok-more.ensures.value σ),
    )
