use Rattle.std.proofs.Common.{arith, ◌<◌, ◌+◌}
use Rattle.mv_text.proofs.Ahead.{range_first, range_begins, range_length}
use Rattle.mv_text.proofs.byte_reader.ByteReader.take.Goals as goal

pub returns-clause-first : goal.returns-clause-first
returns-clause-first c =
    let begins : c.self.inside.start < c.self.inside.end = range_begins c.self.inside.buffer c.self.inside.start c.self.inside.end c.self.invariant.0 (rw (← c.self.view_is) at c.requires) in
    rw (← c.self.view_is) (range_first c.self.inside.buffer c.self.inside.start c.self.inside.end begins (omega arith))

pub returns-clause-piece : goal.returns-clause-piece
returns-clause-piece c =
    let begins : c.self.inside.start < c.self.inside.end = range_begins c.self.inside.buffer c.self.inside.start c.self.inside.end c.self.invariant.0 (rw (← c.self.view_is) at c.requires) in
    omega (arith, begins, c.self.invariant.1, range_length c.self.inside.buffer (c.self.inside.start + 1) c.self.inside.end)
