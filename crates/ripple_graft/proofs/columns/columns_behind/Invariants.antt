use Rattle.ripple_graft.specs.Grafts.{columns_in}
use Rattle.ripple_graft.proofs.ReplacedColumns.{IsReplacing}
use Rattle.ripple_graft.proofs.columns.columns_behind.Given as goal

abbrev pub invariant-loop-output : goal.invariant-loop-output
invariant-loop-output l = IsReplacing (columns_in l.fn.before.items) l.lo l.old l.new l.output-index l.number l.all.items
