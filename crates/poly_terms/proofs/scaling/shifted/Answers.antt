use Rattle.poly_terms.proofs.Shifting.{shifted_high, shifted_low}
use Rattle.poly_terms.proofs.scaling.shifted.Goals as goal

pub returns-then-coefficient-opposite-clause-quotient : goal.returns-then-coefficient-opposite-clause-quotient
returns-then-coefficient-opposite-clause-quotient c = shifted_low c.args.k c.args.exponent c.args.coefficient c.requires.below c.requires.multiple

pub returns-clause-quotient : goal.returns-clause-quotient
returns-clause-quotient c =
    shifted_high c.args.k c.args.exponent c.args.coefficient c.opposite-opposite.result c.opposite.result c.requires.below c.if-coefficient-opposite.false c.requires.multiple
    c.opposite-opposite.ensures.zero c.opposite.ensures.zero
