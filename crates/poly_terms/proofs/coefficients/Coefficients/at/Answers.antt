use Rattle.std.proofs.Common.{◌/◌, ◌%◌, [], get_or, ap, sym, ◌∙◌}
use Rattle.std.proofs.lemmas.List.{get_or_past}
use Rattle.poly_terms.proofs.Blocks.{at_number}
use Rattle.poly_terms.proofs.coefficients.Coefficients.at.Goals as goal

pub returns-in-Some : goal.returns-in-Some
returns-in-Some c =
    let n = c.args.number in
    let bs = c.self.inside.blocks.items in
    let block = c.in-Some.ensures.lookup.3.1 [] ∙ ap (λ xs. get_or xs (n / 64) []) c.deref.ensures.value in
    c.at.ensures ∙ ap (λ b. get_or b (n % 64) 0) block ∙ sym (at_number bs n c.self.invariant.whole) ∙ ap (λ cs. get_or cs n 0) c.self.view_is

pub returns-in-None : goal.returns-in-None
returns-in-None c =
    let n = c.args.number in
    let bs = c.self.inside.blocks.items in
    let none = get_or_past c.deref.result.now (n / 64) [] c.in-None.ensures.lookup.3 in
    sym
    (sym (ap (λ cs. get_or cs n 0) c.self.view_is) ∙ at_number bs n c.self.invariant.whole ∙ ap (λ ds. get_or (get_or ds (n / 64) []) (n % 64) 0) (sym c.deref.ensures.value) ∙
    ap (λ b. get_or b (n % 64) 0) none)
