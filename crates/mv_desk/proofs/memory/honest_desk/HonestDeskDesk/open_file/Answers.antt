use Rattle.mv_desk.specs.HonestDesk.{view_of}
use Rattle.mv_desk.proofs.memory.honest_desk.HonestDeskDesk.open_file.Goals as goal

pub returns-clause-opens : goal.returns-clause-opens
unfolding view_of
returns-clause-opens c = c.open_or_empty.ensures _ _
