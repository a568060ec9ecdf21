use Rattle.std.proofs.Common.{length, sym, ap, ◌∙◌}
use Rattle.poly_terms.proofs.counted_coefficients.CountedCoefficients.reach.Goals as goal

pub invariant_of-self : goal.invariant_of-self
invariant_of-self c = c.self.invariant ∙ ap length (sym c.reach.ensures.longer.terms)
