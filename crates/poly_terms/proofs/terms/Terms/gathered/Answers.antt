use Rattle.poly_terms.proofs.Made.{gathered-IsOf, gathered-value}
use Rattle.poly_terms.proofs.terms.Terms.gathered.Goals as goal

pub returns-clause-of : goal.returns-clause-of
returns-clause-of c =
    gathered-IsOf c.self.inside.exponent c.self.inside.monomials c.args.self.now c.args.raw.items c.in_ok-entries.entries.items c.of.result c.self.view_is c.of.ensures c.stand_once.ensures
    c.requires c.in_ok-entries.ensures

pub returns-clause-value : goal.returns-clause-value
returns-clause-value c σ =
    gathered-value c.self.inside.exponent c.self.inside.monomials c.args.self.now c.args.raw.items c.in_ok-entries.entries.items c.of.result σ c.self.view_is c.of.ensures c.in_ok-entries.ensures
