use Rattle.clause_judge.proofs.ClauseReading.{next_read}
use Rattle.clause_judge.proofs.clause_line.read_line.Goals as goal

pub returns-in-Ok-clause-next : goal.returns-in-Ok-clause-next
returns-in-Ok-clause-next g c =
    next_read c.args.max c.args.file.now c.next.new.self (g.D.Desk.seen c.args.desk.now) (g.D.Desk.seen c.next.new.desk) c.in-Ok.next (c.in-Ok.ensures.next c.requires.going) c.in-Ok.ensures.keeps
