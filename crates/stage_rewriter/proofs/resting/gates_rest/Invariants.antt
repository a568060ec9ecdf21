use Rattle.std.proofs.Common.{ℕ, ◌<◌, slice_index_or}
use Rattle.graph_core.specs.declared.gate.Gate.{Gate}
use Rattle.stage_rewriter.specs.Resting.{IsGateAtRest}
use Rattle.stage_rewriter.proofs.resting.gates_rest.Given as goal

abbrev pub invariant-loop-gate : goal.invariant-loop-gate
invariant-loop-gate l = (k : ℕ) (d : Gate) → k < l.gate-index → IsGateAtRest l.marks (slice_index_or l.gates k d)
