use Rattle.mv_desk.specs.HonestDesk.{view_of}
use Rattle.mv_desk.proofs.memory.honest_desk.HonestDeskDesk.read.Goals as goal

pub returns-clause-only : goal.returns-clause-only
unfolding view_of
returns-clause-only c = c.read.ensures.only _
