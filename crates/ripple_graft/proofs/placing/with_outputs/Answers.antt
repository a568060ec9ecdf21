use Rattle.ripple_graft.proofs.PlacedBeside.{is_output, outputs_begin, outputs_end, outputs_go_on}
use Rattle.ripple_graft.proofs.placing.with_outputs.Goals as goal

pub loop-column-init : goal.loop-column-init
loop-column-init c = outputs_begin c.args.extended c.args.outputs.now c.requires

pub with_output-requires : goal.with_output-requires
with_output-requires c = is_output c.args.extended c.args.outputs.now c.loop-column.column-index c.loop-column.longer (0, record { 0 = 0 }) c.loop-column-test.true c.loop-column.invariant

pub loop-column-preserved : goal.loop-column-preserved
loop-column-preserved c =
    outputs_go_on c.args.extended c.args.outputs.now c.loop-column.column-index c.loop-column.longer (0, record { 0 = 0 }) c.loop-column-test.true c.loop-column.invariant _ c.in_ok-longer.ensures

pub returns : goal.returns
returns c = outputs_end c.args.extended c.args.outputs.now c.loop-column.column-index c.loop-column.longer c.loop-column-test.false c.loop-column.invariant
