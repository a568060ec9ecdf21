use Rattle.std.proofs.Common.{◌≡◌, true, drop}
use Rattle.drup_text.specs.WrittenTexts.{pairs_text}
use Rattle.mv_text.proofs.CallerLemmas.{PutsUpTo}
use Rattle.drup_text.proofs.writing.put_pairs.Given as goal

abbrev pub invariant-loop-pair : goal.invariant-loop-pair
invariant-loop-pair g l = record {
  «open» : (g.D.Desk.seen l.desk).writes l.output.slot ≡ true;
  puts : PutsUpTo (pairs_text l.pairs) (pairs_text (drop l.pair-index l.pairs)) l.initial.output l.output (g.D.Desk.seen l.initial.desk) (g.D.Desk.seen l.desk);
}
