use Rattle.std.proofs.Common.{◌^◌, ◌∙◌}
use Rattle.poly_terms.proofs.Scaled.{scaled-numbers, scaled-total}
use Rattle.poly_terms.proofs.terms.Terms.multiple.Goals as goal

pub gathered-requires : goal.gathered-requires
gathered-requires c =
    scaled-numbers (2 ^ c.self.inside.exponent) c.args.by c.args.self.now c.args.p.now c.entries.result.now c.in_ok-raw.raw.items c.entries.ensures c.requires c.in_ok-raw.ensures

pub returns-clause-value : goal.returns-clause-value
returns-clause-value c σ =
    c.in_ok-product.ensures.value σ ∙
    scaled-total c.self.inside.exponent c.args.by c.self.inside.monomials c.args.self.now c.args.p.now c.entries.result.now c.in_ok-raw.raw.items σ c.self.view_is c.entries.ensures
    c.in_ok-raw.ensures
