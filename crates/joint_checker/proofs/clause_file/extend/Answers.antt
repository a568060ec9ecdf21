use Rattle.std.proofs.Common.{subst, sym, ap, ◌∙◌}
use Rattle.graph_core.specs.Graph.Extended.{Extended, without_cut}
use Rattle.ripple_graft.specs.Beside.{FitsBeside}
use Rattle.ripple_graft.specs.Blocks.{AreBlocks, with_blocks}
use Rattle.ripple_graft.proofs.CallerLemmas.{header_parts_fit}
use Rattle.joint_checker.proofs.clause_file.extend.Goals as goal

pub with_blocks-requires : goal.with_blocks-requires
with_blocks-requires c =
    let graph = c.args.graph.now in
    let header = c.args.header.now in
    subst (AreBlocks (without_cut graph)) (sym c.as_slice.ensures) (header_parts_fit graph header.version header.blocks header.beside c.requires).0

pub graft_beside-requires : goal.graft_beside-requires
graft_beside-requires c =
    let graph = c.args.graph.now in
    let header = c.args.header.now in
    subst (λ (e : Extended). FitsBeside e header.beside) (sym (c.in_ok-extended.ensures ∙ ap (with_blocks graph) c.as_slice.ensures))
    (header_parts_fit graph header.version header.blocks header.beside c.requires).1
