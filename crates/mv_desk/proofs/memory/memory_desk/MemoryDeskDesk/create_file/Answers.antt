use Rattle.mv_desk.specs.MemoryDesk.{memory_view_of}
use Rattle.mv_desk.proofs.memory.memory_desk.MemoryDeskDesk.create_file.Goals as goal

pub returns-clause-creates : goal.returns-clause-creates
unfolding memory_view_of
returns-clause-creates c = c.in-Ok.ensures.creates _
