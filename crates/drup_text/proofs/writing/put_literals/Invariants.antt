use Rattle.std.proofs.Common.{◌≡◌, true, drop, []}
use Rattle.drup_text.specs.WrittenTexts.{literals_text}
use Rattle.mv_text.proofs.CallerLemmas.{PutsUpTo}
use Rattle.drup_text.proofs.writing.put_literals.Given as goal

abbrev pub invariant-loop-literal : goal.invariant-loop-literal
invariant-loop-literal g l = record {
  «open» : (g.D.Desk.seen l.desk).writes l.output.slot ≡ true;
  puts : PutsUpTo (literals_text l.literals []) (literals_text (drop l.literal-index l.literals) []) l.initial.output l.output (g.D.Desk.seen l.initial.desk) (g.D.Desk.seen l.desk);
}
