use Rattle.std.proofs.Common.{◌≡◌, Ok, true, length}
use Rattle.graph_core.specs.Graph.Extended.{without_cut}
use Rattle.mv_desk.specs.Calls.{Reads}
use Rattle.mv_desk.specs.declared.slot.Slot.TheVariants.{Clauses}
use Rattle.mv_text.specs.CertificateFiles.{KeepsFile}
use Rattle.mv_text.specs.declared.line_fail.LineFail.{LineFail}
use Rattle.ripple_graft.specs.Blocks.{AreBlocks, graft_all}
use Rattle.drup_text.specs.HeaderSteps.{ReadsHeaderPart}
use Rattle.drup_text.proofs.BlockSteps.{blocks_so_far}
use Rattle.drup_text.proofs.blocks.counted_blocks.Given as goal

abbrev pub invariant-loop : goal.invariant-loop
invariant-loop g l = record {
  «open» : (g.D.Desk.seen l.desk).reads Clauses ≡ true;
  so_far : ReadsHeaderPart (blocks_so_far (without_cut l.fn.graph) l.fn.count) l.fn.file l.file (g.D.Desk.seen l.fn.desk) (g.D.Desk.seen l.desk) (Ok l.blocks);
  many : length l.blocks.items ≡ l.counter;
  made : l.extended ≡ graft_all (without_cut l.fn.graph) l.blocks.items;
  fit : AreBlocks (without_cut l.fn.graph) l.blocks.items;
  keeps : KeepsFile l.fn.file l.file (Ok l.blocks);
  reads : Reads {E = LineFail} Clauses (g.D.Desk.seen l.fn.desk) (g.D.Desk.seen l.desk) (Ok l.blocks);
}
