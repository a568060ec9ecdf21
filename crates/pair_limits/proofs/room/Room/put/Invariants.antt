use Rattle.std.proofs.Common.{drop}
use Rattle.pair_limits.proofs.Behind.{TakesUpTo}
use Rattle.pair_limits.proofs.room.Room.put.Given as goal

abbrev pub invariant-loop-byte : goal.invariant-loop-byte
invariant-loop-byte l = TakesUpTo l.piece (drop l.byte-index l.piece) l.initial.self l.self
