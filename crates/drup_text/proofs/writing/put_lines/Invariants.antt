use Rattle.std.proofs.Common.{◌≡◌, true, drop}
use Rattle.drup_text.specs.WrittenTexts.{clause_lines_text}
use Rattle.mv_text.proofs.CallerLemmas.{PutsUpTo}
use Rattle.drup_text.proofs.writing.put_lines.Given as goal

abbrev pub invariant-loop-line : goal.invariant-loop-line
invariant-loop-line g l = record {
  «open» : (g.D.Desk.seen l.desk).writes l.output.slot ≡ true;
  puts : PutsUpTo (clause_lines_text l.lines) (clause_lines_text (drop l.line-index l.lines)) l.initial.output l.output (g.D.Desk.seen l.initial.desk) (g.D.Desk.seen l.desk);
}
