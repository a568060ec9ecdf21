use Rattle.std.proofs.Common.{◌≡◌, map, take}
use Rattle.gate_sweeper.specs.Pairs.{pair_at}
use Rattle.gate_sweeper.proofs.extended.pairs_of.Given as goal

abbrev pub invariant-loop-column : goal.invariant-loop-column
invariant-loop-column l = l.pairs.items ≡ map (pair_at l.graph) (take l.column-index l.outputs)
