use Rattle.std.proofs.Common.{subst, take}
use Rattle.mv_text.specs.Puts.{Flushes}
use Rattle.mv_text.proofs.Putting.{wrote_flushes}
use Rattle.mv_text.proofs.output.Output.flush.Goals as goal

pub returns-in-Ok-clause-flushes : goal.returns-in-Ok-clause-flushes
returns-in-Ok-clause-flushes g c =
    let u = g.D.Desk.seen c.args.desk.now in
    let v = g.D.Desk.seen c.write_all.new.desk in
    subst (λ o. Flushes o c.write_all.result u v) c.self.view_is
    (wrote_flushes (record { slot = c.self.inside.slot; waits = take c.self.inside.len c.self.inside.bytes; result = c.self.inside.result }) c.write_all.result u v c.in-Ok.is c.write_all.ensures)
