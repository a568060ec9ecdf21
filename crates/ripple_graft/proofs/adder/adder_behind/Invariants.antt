use Rattle.ripple_graft.proofs.Adders.{IsAdding}
use Rattle.ripple_graft.proofs.adder.adder_behind.Given as goal

abbrev pub invariant-loop-x : goal.invariant-loop-x
invariant-loop-x l = IsAdding l.from l.fn.before.items l.pairs l.x-index l.max l.carry l.gates.items l.outputs.items
