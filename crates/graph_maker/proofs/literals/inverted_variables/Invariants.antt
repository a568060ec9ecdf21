use Rattle.std.proofs.Common.{◌≡◌, ◌-◌, ◌++◌}
use Rattle.graph_maker.specs.Corrected.{inverted_from}
use Rattle.graph_maker.proofs.literals.inverted_variables.Given as goal

abbrev pub invariant-loop-v : goal.invariant-loop-v
invariant-loop-v l = inverted_from l.first l.count ≡ l.lits ++ inverted_from l.v (l.v-end - l.v)
