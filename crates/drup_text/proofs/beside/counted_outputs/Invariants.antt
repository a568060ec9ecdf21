use Rattle.std.proofs.Common.{◌≡◌, Ok, true, length}
use Rattle.mv_desk.specs.Calls.{Reads}
use Rattle.mv_desk.specs.declared.slot.Slot.TheVariants.{Clauses}
use Rattle.mv_text.specs.CertificateFiles.{KeepsFile}
use Rattle.mv_text.specs.declared.line_fail.LineFail.{LineFail}
use Rattle.ripple_graft.specs.Beside.{AreOutputs, with_outputs}
use Rattle.drup_text.specs.HeaderSteps.{ReadsHeaderPart}
use Rattle.drup_text.specs.Listings.{output_listing}
use Rattle.drup_text.proofs.ListedSteps.{listed_so_far}
use Rattle.drup_text.proofs.beside.counted_outputs.Given as goal

abbrev pub invariant-loop : goal.invariant-loop
invariant-loop g l = record {
  «open» : (g.D.Desk.seen l.desk).reads Clauses ≡ true;
  so_far : ReadsHeaderPart (listed_so_far output_listing (l.fn.extended) l.fn.count) l.fn.file l.file (g.D.Desk.seen l.fn.desk) (g.D.Desk.seen l.desk) (Ok l.outputs);
  many : length l.outputs.items ≡ l.counter;
  made : l.extended ≡ with_outputs (l.fn.extended) l.outputs.items;
  fit : AreOutputs (l.fn.extended) l.outputs.items;
  keeps : KeepsFile l.fn.file l.file (Ok l.outputs);
  reads : Reads {E = LineFail} Clauses (g.D.Desk.seen l.fn.desk) (g.D.Desk.seen l.desk) (Ok l.outputs);
}
