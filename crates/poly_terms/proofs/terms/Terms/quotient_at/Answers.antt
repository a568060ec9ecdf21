use Rattle.std.proofs.Common.{◌^◌, ◌∙◌}
use Rattle.poly_terms.proofs.Dividing.{quotient-total}
use Rattle.poly_terms.proofs.Made.{numbers_of}
use Rattle.poly_terms.proofs.Replacing.{order_of, places_along}
use Rattle.poly_terms.proofs.terms.Terms.quotient_at.Goals as goal

pub quotients-requires-clause-order : goal.quotients-requires-clause-order
quotients-requires-clause-order c = order_of c.args.self.now c.args.p.now c.entries.result.now c.entries.ensures c.requires.of

pub quotients-requires-clause-entries : goal.quotients-requires-clause-entries
quotients-requires-clause-entries c =
    numbers_of c.self.inside.exponent c.self.inside.monomials c.args.self.now c.args.p.now c.entries.result.now c.self.view_is c.entries.ensures c.requires.of

pub quotients-requires-clause-places : goal.quotients-requires-clause-places
quotients-requires-clause-places c =
    places_along c.self.inside.exponent c.args.v c.self.inside.monomials c.args.self.now c.args.p.now c.entries.result.now c.args.places.now c.self.view_is c.entries.ensures c.requires.places

pub gathered-requires : goal.gathered-requires
gathered-requires c = (c.in_ok-raw.ensures.adds (2 ^ c.self.inside.exponent)).numbers tt

pub returns-clause-value : goal.returns-clause-value
returns-clause-value c σ =
    let w = c.self.inside.exponent in
    c.in_ok-quotient.ensures.value σ ∙
    quotient-total w c.args.v c.self.inside.monomials c.quotients.new.table c.args.self.now c.args.p.now c.entries.result.now c.in_ok-raw.raw.items σ c.self.view_is c.entries.ensures
    c.requires.variable (c.in_ok-raw.ensures.adds (2 ^ w))
