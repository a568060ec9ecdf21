use Rattle.std.proofs.Common.{arith}
use Rattle.graph_maker.proofs.building.Building.outputs.Goals as goal

pub array-requires-clause-some : goal.array-requires-clause-some
array-requires-clause-some c = c.requires.rows.some

pub array-requires-clause-wide : goal.array-requires-clause-wide
array-requires-clause-wide c = λ k d low. omega (arith, c.requires.rows.long k d low, c.requires.rows.wide)

pub array-requires-clause-short : goal.array-requires-clause-short
array-requires-clause-short c = λ k d low. omega (arith, c.requires.rows.long k d low, c.requires.rows.narrow)

pub array-requires-clause-room : goal.array-requires-clause-room
array-requires-clause-room c = omega (arith, c.requires.room, c.requires.rows.few)
