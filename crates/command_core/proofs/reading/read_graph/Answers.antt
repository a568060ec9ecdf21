use Rattle.std.proofs.Common.{Err, ap}
use Rattle.mv_desk.specs.View.{bytes_under}
use Rattle.aiger_reader.proofs.CallerLemmas.{Inspects-OpensOnly, OpensOnly-Err, OpensOnly-Ok}
use Rattle.command_core.proofs.Stops.{read_stops}
use Rattle.command_core.proofs.reading.read_graph.Goals as goal

pub returns-in-Ok-clause-opens : goal.returns-in-Ok-clause-opens
returns-in-Ok-clause-opens g c = OpensOnly-Ok c.args.slot (g.D.Desk.seen c.args.desk.now) (g.D.Desk.seen c.read_file.new.desk) c.in-Ok.graph c.in-Ok.ensures.opens

pub returns-in-Err-clause-opens : goal.returns-in-Err-clause-opens
returns-in-Err-clause-opens g c = OpensOnly-Err c.args.slot (g.D.Desk.seen c.args.desk.now) (g.D.Desk.seen c.read_file.new.desk) c.in-Err.fail c.of_read.result c.in-Err.ensures.opens

pub returns-in-Ok-clause-inspects : goal.returns-in-Ok-clause-inspects
returns-in-Ok-clause-inspects g c = Inspects-OpensOnly c.args.slot (g.D.Desk.seen c.args.desk.now) (g.D.Desk.seen c.read_file.new.desk) c.read_file.result c.requires c.read_file.ensures.opens

pub returns-in-Err-clause-inspects : goal.returns-in-Err-clause-inspects
returns-in-Err-clause-inspects g c = Inspects-OpensOnly c.args.slot (g.D.Desk.seen c.args.desk.now) (g.D.Desk.seen c.read_file.new.desk) c.read_file.result c.requires c.read_file.ensures.opens

pub returns-in-Err-clause-refused : goal.returns-in-Err-clause-refused
returns-in-Err-clause-refused g c =
    let before = g.D.Desk.seen c.args.desk.now in
    rw c.of_read.ensures
    (read_stops c.args.slot c.args.profile c.args.limits.now.graph (bytes_under before c.args.name.now) before (g.D.Desk.seen c.read_file.new.desk) c.in-Err.fail c.in-Err.ensures.err (λ same. c.in-Err.ensures.fault (ap (λ x. Err x) same)))
