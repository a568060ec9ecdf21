use Rattle.mv_desk.specs.MemoryDesk.{memory_view_of}
use Rattle.mv_desk.proofs.memory.memory_desk.MemoryDeskDesk.read.Goals as goal

pub returns-clause-only : goal.returns-clause-only
unfolding memory_view_of
returns-clause-only c = c.read.ensures.only _
