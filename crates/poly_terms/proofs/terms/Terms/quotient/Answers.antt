use Rattle.poly_terms.proofs.Made.{numbers_of}
use Rattle.poly_terms.proofs.terms.Terms.quotient.Goals as goal

pub places_of-requires : goal.places_of-requires
places_of-requires c =
    numbers_of c.self.inside.exponent c.self.inside.monomials c.args.self.now c.args.p.now c.entries.result.now c.self.view_is c.entries.ensures c.requires.of
