use Rattle.mv_desk.specs.MemoryDesk.{memory_view_of}
use Rattle.mv_desk.proofs.memory.memory_desk.MemoryDeskDesk.write.Goals as goal

pub returns-in-Ok-clause-writes : goal.returns-in-Ok-clause-writes
unfolding memory_view_of
returns-in-Ok-clause-writes c = c.in-Ok.ensures.writes _
