use Rattle.std.proofs.Common.{◌*◌, ◌^◌, ◌∙◌}
use Rattle.algebra_core.specs.Polynomials.{sum_of}
use Rattle.poly_terms.specs.Monomials.{total_in}
use Rattle.poly_terms.specs.Tables.{said}
use Rattle.poly_terms.proofs.Made.{adds-value, multiple-values, numbers_of}
use Rattle.poly_terms.proofs.terms.Terms.times.Goals as goal

pub products_of-requires-clause-entries : goal.products_of-requires-clause-entries
products_of-requires-clause-entries c =
    numbers_of c.self.inside.exponent c.self.inside.monomials c.args.self.now c.args.p.now c.entries.result.now c.self.view_is c.entries.ensures c.requires

pub returns-clause-value : goal.returns-clause-value
returns-clause-value c σ =
    let w = c.self.inside.exponent in
    let old = c.self.inside.monomials in
    let p' = c.entries.result.now in
    let parts = c.args.parts.now in
    c.in_ok-product.ensures.value σ ∙
    adds-value (2 ^ w) old c.products_of.new.table (λ σ. total_in old σ p' * sum_of (2 ^ w) (said parts) σ) c.in_ok-raw.raw.items σ c.in_ok-raw.ensures.adds ∙
    multiple-values w old c.args.self.now c.args.p.now p' (said parts) σ c.self.view_is c.entries.ensures
