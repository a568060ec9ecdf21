use Rattle.std.proofs.Common.{◌≡◌, take}
use Rattle.algebra_core.specs.Agreement.{AreSameLines}
use Rattle.gate_axioms.specs.Lines.{lines_of, live_lines_in}
use Rattle.pac_checker.proofs.compaction.carry_all.Given as goal

abbrev pub invariant-loop-place : goal.invariant-loop-place
invariant-loop-place l = record {
  same_gates : l.compact.gates ≡ l.live.gates;
  exponent : l.compact.table.exponent ≡ l.live.table.exponent;
  lines : AreSameLines (lines_of l.compact) (live_lines_in l.live.table (take l.place l.live.entries));
}
