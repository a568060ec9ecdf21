use Rattle.mv_desk.specs.HonestDesk.{view_of}
use Rattle.std.proofs.Math.Seq.{take-length}
use Rattle.mv_desk.proofs.memory.honest_desk.HonestDeskDesk.write.Goals as goal

pub returns-in-Ok-clause-writes : goal.returns-in-Ok-clause-writes
unfolding view_of
returns-in-Ok-clause-writes c = rw take-length (c.in-Ok.ensures.writes _)
