use Rattle.std.proofs.Common.{◌≡◌, ◌≢◌, ◌≤◌, ◌+◌, ◌-◌, length}
use Rattle.std.specs.List.{All}
use Rattle.std.specs.Io.KnownBytes.{Consumes}
use Rattle.mv_desk.specs.Calls.{ReadsOnly}
use Rattle.mv_desk.specs.View.{KeepsTelling}
use Rattle.graph_core.specs.Text.{newline}
use Rattle.mv_text.specs.LineReading.{known_from}
use Rattle.mv_text.proofs.line_reader.LineReader.next_line.Given as goal

abbrev pub invariant-loop-line : goal.invariant-loop-line
invariant-loop-line g l = record {
  only : ReadsOnly l.slot (g.D.Desk.seen l.fn.desk) (g.D.Desk.seen l.desk);
  stands : (g.D.Desk.seen l.desk).read_faults ≡ (g.D.Desk.seen l.fn.desk).read_faults;
  tells : KeepsTelling (g.D.Desk.seen l.fn.desk) (g.D.Desk.seen l.desk);
  lengths : l.self.lengths ≡ l.fn.self.lengths;
  taken : l.self.taken ≡ l.fn.self.taken + length l.line.items;
  no_end : All (λ b. b ≢ newline) l.line.items;
  short : length l.line.items ≤ l.self.lengths.line;
  bytes : Consumes (known_from l.fn.self.ahead ((g.D.Desk.seen l.fn.desk).left l.slot)) (known_from l.self.ahead ((g.D.Desk.seen l.desk).left l.slot)) l.line.items;
}

abbrev pub decreases-loop-line : goal.decreases-loop-line
decreases-loop-line g l = l.self.lengths.file - l.self.taken
