use Rattle.poly_terms.proofs.PolySums.{added-of, added-value}
use Rattle.poly_terms.proofs.poly_sum.PolySum.add.Goals as goal

pub returns-clause-of : goal.returns-clause-of
returns-clause-of c =
    added-of c.args.terms.now c.exponent.result c.self.inside.coefficients c.add_all.new.coefficients c.args.self.now c.args.p.now c.entries.result.now c.self.view_is c.exponent.ensures.exponent
    c.entries.ensures c.requires.of c.requires.addend c.in_ok-add_all.ensures.added

pub returns-clause-value : goal.returns-clause-value
returns-clause-value c =
    added-value c.args.terms.now c.exponent.result c.self.inside.coefficients c.add_all.new.coefficients c.args.self.now c.args.p.now c.entries.result.now c.self.view_is c.exponent.ensures.exponent
    c.entries.ensures c.requires.of c.requires.addend c.in_ok-add_all.ensures.added
