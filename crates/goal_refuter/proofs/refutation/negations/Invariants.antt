use Rattle.std.proofs.Common.{◌≡◌, map, neg_ℤ, take}
use Rattle.goal_refuter.proofs.refutation.negations.Given as goal

abbrev pub invariant-loop-lit : goal.invariant-loop-lit
invariant-loop-lit l = l.lits.items ≡ map neg_ℤ (take l.lit-index l.lit-items)
