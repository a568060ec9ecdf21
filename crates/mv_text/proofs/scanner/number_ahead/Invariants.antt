use Rattle.std.proofs.Common.{◌-◌, length}
use Rattle.mv_text.proofs.DigitSteps.{AreDigitsTo}
use Rattle.mv_text.proofs.scanner.number_ahead.Given as goal

abbrev pub invariant-loop-count : goal.invariant-loop-count
invariant-loop-count l = AreDigitsTo l.most l.bytes l.number l.count

abbrev pub decreases-loop-count : goal.decreases-loop-count
decreases-loop-count l = length l.bytes - l.count
