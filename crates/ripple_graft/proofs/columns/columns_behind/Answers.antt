use Rattle.ripple_graft.specs.Grafts.{columns_in}
use Rattle.ripple_graft.proofs.ReplacedColumns.{replacing_ends}
use Rattle.ripple_graft.proofs.columns.columns_behind.Goals as goal

pub returns : goal.returns
returns c =
    replacing_ends (columns_in c.args.before.items) c.args.lo c.args.old.now c.args.new.now c.loop-output.output-index c.loop-output.number c.loop-output.all.items c.loop-output-test.false c.loop-output.invariant
