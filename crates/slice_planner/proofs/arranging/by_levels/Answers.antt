use Rattle.std.specs.List.{Contains}
use Rattle.slice_planner.proofs.GroupSteps.{all_pushed, no_gate}
use Rattle.slice_planner.proofs.TakenSteps.{listed}
use Rattle.slice_planner.proofs.arranging.by_levels.Goals as goal

pub loop-level-preserved-in-Continue-branch-3 : goal.loop-level-preserved-in-Continue-branch-3
loop-level-preserved-in-Continue-branch-3 c =
    let all = c.args.extended.now.gates in
    all_pushed (Contains all) c.loop-level.gates.items c.push.new.self.items _ c.in_ok-push.ensures.items c.loop-level.invariant (listed c.gates-all.result.now all _ no_gate c.gates-all.ensures.value c.if-place-all.true)
