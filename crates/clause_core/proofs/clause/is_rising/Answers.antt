use Rattle.std.proofs.Common.{arith}
use Rattle.clause_core.proofs.Places.{rising_from_next}
use Rattle.clause_core.proofs.clause.is_rising.Goals as goal

pub returns : goal.returns
returns c t = rising_from_next c.args.lits.now (λ i h. c.loop-i.invariant i (omega arith))
