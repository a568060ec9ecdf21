use Rattle.std.proofs.Common.{Err, ap}
use Rattle.graph_core.specs.declared.literal.Lit.{Lit}
use Rattle.graph_core.specs.Graph.Literals.{constant_false}
use Rattle.stage_rewriter.proofs.rewriting.graft_cut.Goals as goal

pub unreachable-requires : goal.unreachable-requires
unreachable-requires c =
    let cut = c.requires in
    c.in-Err-Columns.ensures.columns (ap Err c.in-Err-Columns.field-0-is) (record { some = cut.some; columns = cut.columns })

pub unreachable-requires-in-Err-Literal : goal.unreachable-requires-in-Err-Literal
unreachable-requires-in-Err-Literal c =
    let cut = c.requires in
    let first = c.in-Err-Literal.ensures.literal c.in-Err-Literal.field-0-0 (ap Err c.in-Err-Literal.field-0-is) in
    let none : Lit × Lit = (constant_false, constant_false) in
    first.1.unknown none (cut.known c.in-Err-Literal.field-0-0 none first.1.within)
