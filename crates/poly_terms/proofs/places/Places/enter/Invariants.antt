use Rattle.std.proofs.Common.{take}
use Rattle.poly_terms.specs.Indexed.{Enters}
use Rattle.poly_terms.proofs.places.Places.enter.Given as goal

abbrev pub invariant-loop-v : goal.invariant-loop-v
invariant-loop-v l = Enters l.number (take l.v-index l.variables) l.initial.self l.self
