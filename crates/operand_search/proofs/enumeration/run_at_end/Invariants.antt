use Rattle.std.proofs.Common.{◌≡◌, ◌-◌, ◌≤◌, drop, length, replicate}
use Rattle.operand_search.proofs.enumeration.run_at_end.Given as goal

abbrev pub invariant-loop-rest : goal.invariant-loop-rest
invariant-loop-rest l = record { within : l.rest ≤ length l.bits; run : drop l.rest l.bits ≡ replicate (length l.bits - l.rest) l.value }

abbrev pub decreases-loop-rest : goal.decreases-loop-rest
decreases-loop-rest l = l.rest
