use Rattle.std.specs.Prelude.{◌⊎◌, Bool, List, slice_index_or}
use Rattle.std.proofs.Common.{subst}
use Rattle.graph_core.specs.declared.gate.Gate.{Gate}
use Rattle.slice_planner.specs.Arranged.{IsLater}
use Rattle.slice_planner.proofs.GroupSteps.{no_gate}
use Rattle.slice_planner.proofs.Orders.{later_refutes}
use Rattle.slice_planner.proofs.arranging.is_in_order.Goals as goal

pub returns-then-reads_later : goal.returns-then-reads_later
returns-then-reads_later c =
    let e = c.args.extended.now in
    let i = c.loop-gate.gate-index in
    let found = subst (λ (table : List Bool). IsLater e table (slice_index_or c.gates-gate-items.result.now i no_gate).left ⊎ IsLater e table (slice_index_or c.gates-gate-items.result.now i no_gate).right) c.deref.ensures.value
    (c.reads_later.ensures c.if-reads_later.true) in
    let later = subst (λ (gates : List Gate). IsLater e c.loop-gate.listed.items (slice_index_or gates i no_gate).left ⊎ IsLater e c.loop-gate.listed.items (slice_index_or gates i no_gate).right) c.gates-gate-items.ensures.value found in
    λ order. absurd (later_refutes e c.loop-gate.listed.items i no_gate order c.loop-gate.invariant.so_far later)
