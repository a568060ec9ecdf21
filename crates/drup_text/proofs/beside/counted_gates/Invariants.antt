use Rattle.std.proofs.Common.{◌≡◌, Ok, true, length}
use Rattle.graph_core.specs.Graph.Extended.{without_cut}
use Rattle.mv_desk.specs.Calls.{Reads}
use Rattle.mv_desk.specs.declared.slot.Slot.TheVariants.{Clauses}
use Rattle.mv_text.specs.CertificateFiles.{KeepsFile}
use Rattle.mv_text.specs.declared.line_fail.LineFail.{LineFail}
use Rattle.ripple_graft.specs.Beside.{AreGates, with_gates}
use Rattle.drup_text.specs.HeaderSteps.{ReadsHeaderPart}
use Rattle.drup_text.specs.Listings.{gate_listing}
use Rattle.drup_text.proofs.ListedSteps.{listed_so_far}
use Rattle.drup_text.proofs.beside.counted_gates.Given as goal

abbrev pub invariant-loop : goal.invariant-loop
invariant-loop g l = record {
  «open» : (g.D.Desk.seen l.desk).reads Clauses ≡ true;
  so_far : ReadsHeaderPart (listed_so_far gate_listing (without_cut l.fn.graph) l.fn.count) l.fn.file l.file (g.D.Desk.seen l.fn.desk) (g.D.Desk.seen l.desk) (Ok l.gates);
  many : length l.gates.items ≡ l.counter;
  made : l.extended ≡ with_gates (without_cut l.fn.graph) l.gates.items;
  fit : AreGates (without_cut l.fn.graph) l.gates.items;
  keeps : KeepsFile l.fn.file l.file (Ok l.gates);
  reads : Reads {E = LineFail} Clauses (g.D.Desk.seen l.fn.desk) (g.D.Desk.seen l.desk) (Ok l.gates);
}
