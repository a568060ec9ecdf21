use Rattle.std.proofs.Common.{◌∙◌}
use Rattle.poly_terms.specs.Laws.{value_stays}
use Rattle.column_reducer.proofs.Walks.{added_to_none}
use Rattle.column_reducer.proofs.frontier_walk.brought.Goals as goal

pub returns-clause-value : goal.returns-clause-value
returns-clause-value c σ =
    let t = c.bring.new.self in
    let none = value_stays c.args.new.now t c.new-rest.result.sum σ c.in_ok-brought.ensures.extends c.new-rest.ensures.of ∙ c.new-rest.ensures.value σ in
    added_to_none t c.new-rest.result.sum c.in_ok-brought.brought c.add.new.self.sum σ none (c.in_ok-add.ensures.value σ) ∙ c.in_ok-brought.ensures.value σ
