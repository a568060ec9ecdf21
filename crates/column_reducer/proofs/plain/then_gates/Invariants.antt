use Rattle.std.proofs.Common.{◌≡◌, ◌++◌, map, length}
use Rattle.std.specs.Prelude.{reverse}
use Rattle.frontier_core.specs.declared.step.Step.TheVariants.{Eliminate}
use Rattle.column_reducer.proofs.plain.then_gates.Given as goal

abbrev pub invariant-loop-key : goal.invariant-loop-key
invariant-loop-key l = l.steps.items ++ map Eliminate (reverse (map (λ key. key.1) l.left.items)) ≡ l.fn.steps.items ++ map Eliminate (reverse (map (λ key. key.1) l.fn.keys.items))

abbrev pub decreases-loop-key : goal.decreases-loop-key
decreases-loop-key l = length l.left.items
