use Rattle.adder_finder.proofs.Words.{AreNeedsAt}
use Rattle.adder_finder.proofs.cover.needs_of.Given as goal

abbrev pub invariant-loop-level : goal.invariant-loop-level
invariant-loop-level l = AreNeedsAt l.graph l.pairs l.keys l._level-index l.needs.items
