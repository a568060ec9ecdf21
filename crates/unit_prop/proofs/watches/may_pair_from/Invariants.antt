use Rattle.unit_prop.specs.Near.{HasNoPair}
use Rattle.unit_prop.proofs.watches.may_pair_from.Given as goal

abbrev pub invariant-loop-step : goal.invariant-loop-step
invariant-loop-step l = HasNoPair l.nodes l.node l.other → HasNoPair l.nodes l.first l.other
