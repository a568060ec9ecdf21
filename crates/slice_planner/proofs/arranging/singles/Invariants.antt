use Rattle.slice_planner.specs.Arranged.{AreWithin}
use Rattle.slice_planner.proofs.arranging.singles.Given as goal

abbrev pub invariant-loop-start : goal.invariant-loop-start
invariant-loop-start l = AreWithin l.gates l.parts.items
