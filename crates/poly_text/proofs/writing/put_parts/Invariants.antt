use Rattle.std.proofs.Common.{◌≡◌, ◌==◌, true, drop}
use Rattle.poly_terms.specs.Tables.{modulus_in}
use Rattle.poly_text.specs.Lines.{parts_in}
use Rattle.poly_text.specs.WrittenLines.{parts_text}
use Rattle.mv_text.proofs.CallerLemmas.{PutsUpTo}
use Rattle.poly_text.proofs.writing.put_parts.Given as goal

abbrev pub invariant-loop-index : goal.invariant-loop-index
invariant-loop-index g l = record {
  «open» : (g.D.Desk.seen l.desk).writes l.output.slot ≡ true;
  puts : PutsUpTo (parts_text (modulus_in l.terms) true (parts_in l.terms l.parts)) (parts_text (modulus_in l.terms) (l.index == 0) (parts_in l.terms (drop l.index l.parts))) l.initial.output l.output (g.D.Desk.seen l.initial.desk) (g.D.Desk.seen l.desk);
}
