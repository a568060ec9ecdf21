use Rattle.std.proofs.Common.{take}
use Rattle.drup_checker.specs.Tightness.{Marks}
use Rattle.drup_checker.proofs.tight.mark.Given as goal

abbrev pub invariant-loop-lit : goal.invariant-loop-lit
invariant-loop-lit l = Marks (take l.lit-index l.lits) l.initial.seen l.seen
