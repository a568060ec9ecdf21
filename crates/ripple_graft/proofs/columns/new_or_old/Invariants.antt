use Rattle.ripple_graft.proofs.ReplacedColumns.{IsBehind}
use Rattle.ripple_graft.proofs.columns.new_or_old.Given as goal

abbrev pub invariant-loop-column : goal.invariant-loop-column
invariant-loop-column l = IsBehind l.columns l.k l.old l.column-index
