use Rattle.adder_finder.specs.Cover.{AreFirstNeeds}
use Rattle.adder_finder.proofs.cover.first_needs.Given as goal

abbrev pub invariant-loop-i : goal.invariant-loop-i
invariant-loop-i l = AreFirstNeeds l.graph.max l.pairs l.i l.needs.items
