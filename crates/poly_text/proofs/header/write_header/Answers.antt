use Rattle.std.proofs.Math.Nat.{le_trans}
use Rattle.std.proofs.Common.{lit≤}
use Rattle.algebra_core.specs.Text.{algebra_header}
use Rattle.mv_desk.specs.declared.slot.Slot.TheVariants.{Algebra}
use Rattle.mv_text.proofs.CallerLemmas.{Puts-is, Puts-then, written_from}
use Rattle.poly_text.proofs.header.write_header.Goals as goal

pub put-requires-clause-fits : goal.put-requires-clause-fits
put-requires-clause-fits g c = le_trans c.header.ensures.few (lit≤ tt)

pub returns : goal.returns
returns g c =
    written_from Algebra (algebra_header c.args.version) c.new-output.result c.put-2.new.self c.flush.result
    (g.D.Desk.seen c.args.desk.now) (g.D.Desk.seen c.put-2.new.desk) (g.D.Desk.seen c.flush.new.desk)
    c.new-output.ensures (Puts-then (Puts-is c.header.ensures.text c.put.ensures.puts) c.put-2.ensures.puts) c.flush.ensures.flushes
