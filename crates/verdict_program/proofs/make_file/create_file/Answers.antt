use Rattle.std.proofs.Common.{inl, inr}
use Rattle.mv_desk.proofs.CallerLemmas.{HasWriteCause-then, KeepsTelling-trans}
use Rattle.verdict_program.specs.Making.{text_for}
use Rattle.verdict_program.proofs.CreatingLemmas.{file_leaves, same_leaves}
use Rattle.verdict_program.proofs.make_file.create_file.Goals as goal

pub write_graph-requires : goal.write_graph-requires
write_graph-requires g c = record { «open» = c.in-Ok.ensures.creates.writes; packed = c.requires.packed }

pub returns-in-Ok-write_graph : goal.returns-in-Ok-write_graph
returns-in-Ok-write_graph g c =
    let a = g.D.Desk.seen c.args.desk.now in
    let b = g.D.Desk.seen c.create_file.new.self in
    let z = g.D.Desk.seen c.write_graph.new.desk in
    let first = c.in-Ok.ensures in
    let then = c.in-Ok-write_graph.ensures in
    let cause = HasWriteCause-then c.in-Ok.field-0 a b z _ first.cause then.cause in
    record {
      outcome = record { created = b; creates = first.creates; writes = then.whole };
      opened = cause.opened;
      report = file_leaves c.args.out.now (text_for c.args.out.now c.args.graph.now) a b z first.creates then.whole;
      later = cause.later;
      tells = KeepsTelling-trans a b z first.tells then.tells;
    }

pub returns-in-Err-write_graph : goal.returns-in-Err-write_graph
returns-in-Err-write_graph g c =
    let a = g.D.Desk.seen c.args.desk.now in
    let b = g.D.Desk.seen c.create_file.new.self in
    let z = g.D.Desk.seen c.write_graph.new.desk in
    let first = c.in-Ok.ensures in
    let then = c.in-Err-write_graph.ensures in
    let cause = HasWriteCause-then c.in-Ok.field-0 a b z _ first.cause then.cause in
    record {
      outcome = (cause.rose, inr (record { created = b; creates = first.creates; writes = then.part }));
      opened = cause.opened;
      report = file_leaves c.args.out.now then.part.part a b z first.creates then.part.writes;
      later = cause.later;
      tells = KeepsTelling-trans a b z first.tells then.tells;
    }

pub returns-in-Err : goal.returns-in-Err
returns-in-Err g c =
    let only = c.in-Err.ensures in
    record {
      outcome = (only.cause.rose, inl only.failed);
      opened = only.cause.opened;
      report = same_leaves (g.D.Desk.seen c.args.desk.now) (g.D.Desk.seen c.create_file.new.self) only.failed;
      later = only.cause.later;
      tells = only.tells;
    }
