use Rattle.std.proofs.Common.{◌≡◌, ◌++◌, ℕ, List, length}
use Rattle.mv_desk.specs.Calls.{WritesTo}
use Rattle.mv_desk.specs.View.{KeepsTelling}
use Rattle.mv_desk.proofs.whole.write_all.Given as goal

abbrev pub invariant-loop-rest : goal.invariant-loop-rest
invariant-loop-rest g l = record {
  part : List ℕ;
  all : l.bytes ≡ part ++ l.rest;
  writes : WritesTo l.slot part (g.D.Desk.seen l.initial.desk) (g.D.Desk.seen l.desk);
  tells : KeepsTelling (g.D.Desk.seen l.initial.desk) (g.D.Desk.seen l.desk);
  write_faults : (g.D.Desk.seen l.desk).write_faults ≡ (g.D.Desk.seen l.initial.desk).write_faults;
  read_faults : (g.D.Desk.seen l.desk).read_faults ≡ (g.D.Desk.seen l.initial.desk).read_faults;
  opened : (g.D.Desk.seen l.desk).opened ≡ (g.D.Desk.seen l.initial.desk).opened;
}

abbrev pub decreases-loop-rest : goal.decreases-loop-rest
decreases-loop-rest g l = length l.rest
