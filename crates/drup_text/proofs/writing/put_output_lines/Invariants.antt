use Rattle.std.proofs.Common.{◌≡◌, true, drop}
use Rattle.drup_text.specs.WrittenTexts.{output_lines_text}
use Rattle.mv_text.proofs.CallerLemmas.{PutsUpTo}
use Rattle.drup_text.proofs.writing.put_output_lines.Given as goal

abbrev pub invariant-loop-item : goal.invariant-loop-item
invariant-loop-item g l = record {
  «open» : (g.D.Desk.seen l.desk).writes l.output.slot ≡ true;
  puts : PutsUpTo (output_lines_text l.outputs) (output_lines_text (drop l.item-index l.outputs)) l.initial.output l.output (g.D.Desk.seen l.initial.desk) (g.D.Desk.seen l.desk);
}
