use Rattle.std.proofs.Common.{length}
use Rattle.drup_text.proofs.LineSteps.{AreLiteralsSoFar}
use Rattle.drup_text.proofs.clause_reading.literals.Given as goal

abbrev pub invariant-loop-scanner : goal.invariant-loop-scanner
invariant-loop-scanner l = AreLiteralsSoFar l.max l.initial.scanner l.scanner l.literals

abbrev pub decreases-loop-scanner : goal.decreases-loop-scanner
decreases-loop-scanner l = length l.scanner
