use Rattle.std.proofs.Common.{◌≡◌, ◌<◌, ◌/◌, ◌%◌, [], get_or, set, length, ap, ◌∙◌, arith}
use Rattle.std.proofs.lemmas.List.{get_or_default}
use Rattle.poly_terms.specs.Blocks.{joined}
use Rattle.poly_terms.proofs.Blocks.{block_of, set_number}
use Rattle.poly_terms.proofs.coefficients.Coefficients.clear.Goals as goal

pub index_mut-requires : goal.index_mut-requires
index_mut-requires c =
    let bs = c.self.inside.blocks.items in
    let low : c.args.number < length (joined bs) = omega (arith, c.requires, ap length c.self.view_is) in
    omega (arith, block_of bs c.args.number c.self.invariant.whole low, c.self.inside.blocks.ok.0)

pub returns : goal.returns
returns c =
    let n = c.args.number in
    let bs = c.self.inside.blocks.items in
    let whole = c.self.invariant.whole in
    let low : n < length (joined bs) = omega (arith, c.requires, ap length c.self.view_is) in
    let block = c.index_mut.ensures.value ∙ get_or_default bs (n / 64) c.index_mut.result.now [] (block_of bs n whole low) in
    ap (λ b. joined (set bs (n / 64) b)) (c.clear.ensures ∙ ap (λ b. set b (n % 64) 0) block) ∙ set_number bs n 0 whole low ∙ ap (λ cs. set cs n 0) c.self.view_is
