use Rattle.mv_desk.specs.HonestDesk.{view_of}
use Rattle.mv_desk.proofs.memory.honest_desk.HonestDeskDesk.create_file.Goals as goal

pub returns-in-Ok-clause-creates : goal.returns-in-Ok-clause-creates
unfolding view_of
returns-in-Ok-clause-creates c = c.in-Ok.ensures.creates _
