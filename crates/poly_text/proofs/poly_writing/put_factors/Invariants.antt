use Rattle.std.proofs.Common.{◌≡◌, ◌&&◌, ◌==◌, true, drop}
use Rattle.poly_text.specs.WrittenLines.{factors_text}
use Rattle.mv_text.proofs.CallerLemmas.{PutsUpTo}
use Rattle.poly_text.proofs.poly_writing.put_factors.Given as goal

abbrev pub invariant-loop-index : goal.invariant-loop-index
invariant-loop-index g l = record {
  «open» : (g.D.Desk.seen l.desk).writes l.output.slot ≡ true;
  puts : PutsUpTo (factors_text l.bare l.variables) (factors_text ((l.index == 0) && l.bare) (drop l.index l.variables)) l.initial.output l.output (g.D.Desk.seen l.initial.desk) (g.D.Desk.seen l.desk);
}
