use Rattle.column_reducer.proofs.Written.{batch_equal, batch_over, batch_spare, batch_written}
use Rattle.column_reducer.proofs.batch_lines.write_batch.Goals as goal

pub combine-requires-clause-over : goal.combine-requires-clause-over
combine-requires-clause-over c =
    let w = c.requires.written in
    batch_over w.0 w.1 w.2 w.3 w.4 c.args.batch c.args.weighted.now.items c.args.lines.now w.5

pub combine-requires-clause-spare : goal.combine-requires-clause-spare
combine-requires-clause-spare c =
    let w = c.requires.written in
    batch_spare w.0 w.1 w.2 w.3 w.4 c.args.batch c.args.weighted.now.items c.args.lines.now w.5

pub combine-requires-clause-equal : goal.combine-requires-clause-equal
combine-requires-clause-equal c =
    let w = c.requires.written in
    batch_equal w.0 w.1 w.2 w.3 w.4 c.args.batch c.args.weighted.now.items c.args.lines.now w.5

pub returns-clause-written : goal.returns-clause-written
returns-clause-written c e s t total gs h =
    batch_written e s t total gs c.args.batch c.args.weighted.now.items c.push.new.self.items c.in_ok-id.id c.args.lines.now c.combine.new.self c.in_ok-id.ensures.id c.in_ok-id.ensures.writes
    c.in_ok-push.ensures.items h
