use Rattle.std.proofs.Common.{ap, ◌∙◌}
use Rattle.std.proofs.lemmas.Result.{on_ok_weaker}
use Rattle.poly_terms.specs.Tables.{value_in}
use Rattle.column_reducer.proofs.Walks.{added_to_none}
use Rattle.column_reducer.proofs.fresh_index.index_anew.Goals as goal

pub returns-clause-value : goal.returns-clause-value
returns-clause-value c =
    let t = c.args.terms.now in
    on_ok_weaker c.add.result
    (λ value σ.
    added_to_none t c.new.result.sum c.in_ok-poly.poly c.add.new.self.sum σ (c.new.ensures.value σ) (value σ) ∙ ap (λ p. value_in t p σ) c.in_ok-poly.ensures) c.add.ensures.value
