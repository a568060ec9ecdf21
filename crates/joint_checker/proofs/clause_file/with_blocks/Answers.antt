use Rattle.std.proofs.Common.{subst}
use Rattle.graph_core.specs.Graph.Extended.{without_cut}
use Rattle.ripple_graft.specs.Grafts.{IsBlocksFault}
use Rattle.joint_checker.proofs.Grafted.{no_columns, no_literal}
use Rattle.joint_checker.proofs.clause_file.with_blocks.Goals as goal

pub unreachable-requires : goal.unreachable-requires
unreachable-requires c =
    let graph = c.args.graph.now in
    let blocks = c.args.blocks.now in
    no_columns (without_cut graph) blocks c.in-Columns.field-0 c.requires (subst (IsBlocksFault graph blocks) c.in-Columns.is c.in-Err.ensures.fault)

pub unreachable-requires-in-Literal : goal.unreachable-requires-in-Literal
unreachable-requires-in-Literal c =
    let graph = c.args.graph.now in
    let blocks = c.args.blocks.now in
    no_literal (without_cut graph) blocks c.in-Literal.field-0 c.in-Literal.field-1 c.requires (subst (IsBlocksFault graph blocks) c.in-Literal.is c.in-Err.ensures.fault)
