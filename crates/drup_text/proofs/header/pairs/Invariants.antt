use Rattle.std.proofs.Common.{◌≡◌, Ok, true, length, All}
use Rattle.mv_desk.specs.Calls.{Reads}
use Rattle.mv_desk.specs.declared.slot.Slot.TheVariants.{Clauses}
use Rattle.mv_text.specs.CertificateFiles.{KeepsFile}
use Rattle.mv_text.specs.declared.line_fail.LineFail.{LineFail}
use Rattle.drup_text.specs.HeaderSteps.{ReadsHeaderPart}
use Rattle.drup_text.specs.LineTexts.{IsPairOf}
use Rattle.drup_text.proofs.HeaderSteps.{pairs_so_far}
use Rattle.drup_text.proofs.header.pairs.Given as goal

abbrev pub invariant-loop : goal.invariant-loop
invariant-loop g l = record {
  «open» : (g.D.Desk.seen l.desk).reads Clauses ≡ true;
  so_far : ReadsHeaderPart (pairs_so_far l.extended l.count) l.initial.file l.file (g.D.Desk.seen l.initial.desk) (g.D.Desk.seen l.desk) (Ok l.pairs);
  many : length l.pairs.items ≡ l.counter;
  known : All (IsPairOf l.extended) l.pairs.items;
  keeps : KeepsFile l.initial.file l.file (Ok l.pairs);
  reads : Reads {E = LineFail} Clauses (g.D.Desk.seen l.initial.desk) (g.D.Desk.seen l.desk) (Ok l.pairs);
}
