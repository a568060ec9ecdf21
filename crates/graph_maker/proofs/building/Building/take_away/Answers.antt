use Rattle.std.proofs.Common.{arith}
use Rattle.graph_maker.proofs.building.Building.take_away.Goals as goal

pub inverted_variables-requires : goal.inverted_variables-requires
inverted_variables-requires c = omega (arith, c.last-first.ensures, c.requires.room, c.requires.some, c.requires.few)
