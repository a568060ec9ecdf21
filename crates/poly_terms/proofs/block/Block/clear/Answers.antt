use Rattle.std.proofs.Common.{set, ap, sym, ◌∙◌, eqb-true}
use Rattle.poly_terms.proofs.Blocks.{filled_set}
use Rattle.poly_terms.proofs.block.Block.clear.Goals as goal

pub returns-then-is_empty : goal.returns-then-is_empty
returns-then-is_empty c =
    let cs = c.self.inside.coefficients.items in
    let none = sym c.self.inside.coefficients.ok.0 ∙ eqb-true c.self.inside.coefficients.len 0 (sym c.is_empty.ensures ∙ c.if-is_empty.true) in
    sym (ap (λ xs. set xs c.args.place 0) (sym c.self.view_is) ∙ filled_set cs c.args.place none ∙ c.self.view_is)
