use Rattle.std.proofs.Common.{◌≡◌, ◌<◌, ◌/◌, ◌%◌, [], get_or, set, length, ap, ◌∙◌, arith}
use Rattle.std.proofs.lemmas.List.{get_or_default}
use Rattle.std.proofs.lemmas.Result.{on_ok_weaker}
use Rattle.poly_terms.specs.Blocks.{joined}
use Rattle.poly_terms.proofs.Blocks.{block_of, set_number}
use Rattle.poly_terms.proofs.coefficients.Coefficients.put.Goals as goal

pub index_mut-requires : goal.index_mut-requires
index_mut-requires c =
    let bs = c.self.inside.blocks.items in
    let low : c.args.number < length (joined bs) = omega (arith, c.requires, ap length c.self.view_is) in
    omega (arith, block_of bs c.args.number c.self.invariant.whole low, c.self.inside.blocks.ok.0)

pub returns-clause-put : goal.returns-clause-put
returns-clause-put c =
    let n = c.args.number in
    let x = c.args.coefficient in
    let bs = c.self.inside.blocks.items in
    let whole = c.self.invariant.whole in
    let low : n < length (joined bs) = omega (arith, c.requires, ap length c.self.view_is) in
    let block = c.index_mut.ensures.value ∙ get_or_default bs (n / 64) c.index_mut.result.now [] (block_of bs n whole low) in
    on_ok_weaker c.put.result
    (λ is. ap (λ b. joined (set bs (n / 64) b)) (is ∙ ap (λ b. set b (n % 64) x) block) ∙ set_number bs n x whole low ∙ ap (λ cs. set cs n x) c.self.view_is)
    c.put.ensures.put
