use Rattle.std.proofs.Common.{length}
use Rattle.poly_text.proofs.TermSteps.{AreFactorsSoFar}
use Rattle.poly_text.proofs.pac_reader.PacReader.factors.Given as goal

abbrev pub invariant-loop-scanner : goal.invariant-loop-scanner
invariant-loop-scanner l = AreFactorsSoFar l.self.max l.fn.before l.initial.scanner l.scanner l.variables

abbrev pub decreases-loop-scanner : goal.decreases-loop-scanner
decreases-loop-scanner l = length l.scanner
