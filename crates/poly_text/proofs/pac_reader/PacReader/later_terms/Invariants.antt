use Rattle.std.proofs.Common.{length, ◌^◌}
use Rattle.poly_text.proofs.PolynomialSteps.{AreTermsSoFar}
use Rattle.poly_text.proofs.pac_reader.PacReader.later_terms.Given as goal

abbrev pub invariant-loop-scanner : goal.invariant-loop-scanner
invariant-loop-scanner l = AreTermsSoFar (2 ^ l.self.exponent) l.self.max l.fn.before l.initial.scanner l.scanner l.terms

abbrev pub decreases-loop-scanner : goal.decreases-loop-scanner
decreases-loop-scanner l = length l.scanner
