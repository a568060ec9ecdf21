use Rattle.std.proofs.Common.{◌≡◌, ◌-◌, ◌+◌, vec_len}
use Rattle.std.specs.Io.KnownBytes.{Consumes}
use Rattle.mv_desk.specs.Calls.{ReadsOnly}
use Rattle.mv_desk.specs.View.{KeepsTelling}
use Rattle.mv_desk.proofs.whole.read_front.Given as goal

abbrev pub invariant-loop-slot : goal.invariant-loop-slot
invariant-loop-slot g l = record {
  only : ReadsOnly l.slot (g.D.Desk.seen l.initial.desk) (g.D.Desk.seen l.desk);
  stands : (g.D.Desk.seen l.desk).read_faults ≡ (g.D.Desk.seen l.initial.desk).read_faults;
  tells : KeepsTelling (g.D.Desk.seen l.initial.desk) (g.D.Desk.seen l.desk);
  bytes : Consumes ((g.D.Desk.seen l.initial.desk).left l.slot) ((g.D.Desk.seen l.desk).left l.slot) l.bytes.items;
}

abbrev pub decreases-loop-slot : goal.decreases-loop-slot
decreases-loop-slot g l = l.limit + 1 - vec_len l.bytes
