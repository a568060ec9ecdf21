use Rattle.mv_desk.specs.MemoryDesk.{memory_view_of}
use Rattle.std.proofs.Common.{refl}
use Rattle.mv_desk.proofs.memory.memory_desk.MemoryDeskDesk.open_file.Goals as goal

pub returns-then-open-clause-opens : goal.returns-then-open-clause-opens
unfolding memory_view_of
returns-then-open-clause-opens c = c.if-open.ensures.opens refl _ _
