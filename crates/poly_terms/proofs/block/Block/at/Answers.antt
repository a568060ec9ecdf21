use Rattle.std.proofs.Common.{get_or, ap, sym, ◌∙◌}
use Rattle.std.proofs.lemmas.List.{get_or_past}
use Rattle.poly_terms.proofs.Blocks.{filled_at}
use Rattle.poly_terms.proofs.block.Block.at.Goals as goal

pub returns-in-None : goal.returns-in-None
returns-in-None c =
    let n = c.args.place in
    let past = get_or_past c.deref.result.now n 0 c.in-None.ensures.lookup.3 in
    sym (sym (ap (λ cs. get_or cs n 0) c.self.view_is) ∙ filled_at c.self.inside.coefficients.items n ∙ sym (ap (λ cs. get_or cs n 0) c.deref.ensures.value) ∙ past)
