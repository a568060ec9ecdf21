use Rattle.std.proofs.Common.{◌∙◌}
use Rattle.slice_planner.proofs.GroupSteps.{can_next, group_gate, no_gate, pushed_more}
use Rattle.slice_planner.proofs.taking.Taking.eliminate_all.Goals as goal

pub eliminate_next-requires-clause-gate : goal.eliminate_next-requires-clause-gate
eliminate_next-requires-clause-gate c = group_gate c.args.self.now.extended c.loop-gate.self.extended c.args.group.now c.loop-gate.gate-index no_gate c.loop-gate.invariant.extended c.requires.gates c.loop-gate-test.true

pub eliminate_next-requires-clause-next : goal.eliminate_next-requires-clause-next
eliminate_next-requires-clause-next c = can_next c.args.self.now c.loop-gate.self c.args.group.now c.loop-gate.gate-index no_gate c.loop-gate-test.true c.requires.steps c.loop-gate.invariant.extended c.loop-gate.invariant.steps

pub loop-gate-preserved : goal.loop-gate-preserved
loop-gate-preserved c =
    let more = c.in_ok-eliminate_next.ensures in
    record {
      extended = more.extended ∙ c.loop-gate.invariant.extended;
      below = more.below ∙ c.loop-gate.invariant.below;
      steps = pushed_more c.args.self.now.steps c.loop-gate.self.steps c.eliminate_next.new.self.steps c.args.group.now c.loop-gate.gate-index no_gate c.loop-gate-test.true c.loop-gate.invariant.steps more.steps;
    }
