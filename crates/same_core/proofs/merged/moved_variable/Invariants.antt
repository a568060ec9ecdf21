use Rattle.std.proofs.Common.{◌≡◌, ◌+◌, drop}
use Rattle.same_core.specs.Merged.{input_or}
use Rattle.same_core.proofs.merged.moved_variable.Given as goal

abbrev pub invariant-loop-place : goal.invariant-loop-place
invariant-loop-place l =
    input_or l.other.inputs l.graph.inputs l.variable (l.graph.max + l.variable) ≡ input_or (drop l.place l.other.inputs) (drop l.place l.graph.inputs) l.variable (l.graph.max + l.variable)
