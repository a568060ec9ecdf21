use Rattle.std.proofs.Common.{ap, sym, ◌∙◌}
use Rattle.ripple_graft.specs.declared.fault.GraftFail.TheVariants.{Columns, Literal}
use Rattle.ripple_graft.proofs.GraftedGraphs.{fault_told, so_far_built, so_far_fits, so_far_more}
use Rattle.ripple_graft.proofs.grafting.graft_blocks.Goals as goal

pub overflow_cast-result : goal.overflow_cast-result
overflow_cast-result c =
    let built = so_far_built c.args.graph.now c.args.blocks.now c.loop-i.i c.loop-i.extended c.loop-i.invariant c.graft_next.ensures.built in
    so_far_fits c.args.graph.now c.args.blocks.now c.loop-i.i c.loop-i.extended built c.loop-i-test.true c.loop-i.invariant

pub returns-in-Err-Columns-clause-fault : goal.returns-in-Err-Columns-clause-fault
returns-in-Err-Columns-clause-fault c =
    fault_told c.args.graph.now c.args.blocks.now c.loop-i.i c.loop-i.extended c.index-blocks-i.result Columns c.in-Err-Columns.field-0 c.loop-i-test.true c.index-blocks-i.is c.in-Err-Columns.field-0-is
    c.loop-i.invariant c.in-Err-Columns.ensures.fault

pub overflow_cast-result-in-Err-Literal : goal.overflow_cast-result-in-Err-Literal
overflow_cast-result-in-Err-Literal c =
    let built = so_far_built c.args.graph.now c.args.blocks.now c.loop-i.i c.loop-i.extended c.loop-i.invariant c.graft_next.ensures.built in
    so_far_fits c.args.graph.now c.args.blocks.now c.loop-i.i c.loop-i.extended built c.loop-i-test.true c.loop-i.invariant

pub returns-in-Err-Literal-clause-fault : goal.returns-in-Err-Literal-clause-fault
returns-in-Err-Literal-clause-fault c =
    fault_told c.args.graph.now c.args.blocks.now c.loop-i.i c.loop-i.extended c.index-blocks-i.result _ c.in-Err-Literal.field-0 c.loop-i-test.true c.index-blocks-i.is
    (c.in-Err-Literal.field-0-is ∙ ap Literal (sym c.in-Err-Literal.p-is)) c.loop-i.invariant c.in-Err-Literal.ensures.fault

pub loop-i-preserved : goal.loop-i-preserved
loop-i-preserved c =
    so_far_more c.args.graph.now c.args.blocks.now c.loop-i.i c.loop-i.extended c.in-Ok.next c.index-blocks-i.result c.loop-i-test.true c.index-blocks-i.is c.in-Ok.ensures.ok.0 c.in-Ok.ensures.ok.1 c.loop-i.invariant
