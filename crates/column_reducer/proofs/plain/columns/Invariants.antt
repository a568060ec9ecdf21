use Rattle.std.proofs.Common.{◌≡◌, map}
use Rattle.frontier_core.specs.Sets.{count_from}
use Rattle.frontier_core.specs.declared.step.Step.TheVariants.{Add}
use Rattle.column_reducer.proofs.plain.columns.Given as goal

abbrev pub invariant-loop-k : goal.invariant-loop-k
invariant-loop-k l = l.steps.items ≡ map Add (count_from 0 l.k)
