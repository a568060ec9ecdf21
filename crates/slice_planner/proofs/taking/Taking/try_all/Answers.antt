use Rattle.std.specs.Prelude.{◌+◌, ◌++◌, drop}
use Rattle.std.specs.List.{All, Contains}
use Rattle.std.proofs.Common.{sym, ap, subst, ◌∙◌}
use Rattle.graph_core.specs.Graph.Extended.{Extended}
use Rattle.frontier_core.specs.Plan.{nothing, taken}
use Rattle.slice_planner.specs.SlicePlan.{swept}
use Rattle.slice_planner.specs.Arranged.{groups_in, lists_in, variables}
use Rattle.slice_planner.proofs.GroupSteps.{all_of_group, dropped, sweep_turn}
use Rattle.slice_planner.proofs.taking.Taking.try_all.Goals as goal

pub try_group-requires : goal.try_group-requires
try_group-requires c =
    let a = c.args.arrangement.now in
    subst (λ (e : Extended). All (Contains e.gates) c.group.result.now) (sym c.loop-place.invariant.extended)
    (all_of_group (Contains c.args.self.now.extended.gates) a.gates a.parts c.loop-place.place c.group.result.now c.requires c.group.ensures)

pub loop-place-preserved : goal.loop-place-preserved
loop-place-preserved c =
    let more = c.in_ok-try_group.ensures in
    let was = c.loop-place.self in
    let now = c.try_group.new.self in
    let place = c.loop-place.place in
    let lists = lists_in c.args.arrangement.now in
    record {
      extended = more.extended ∙ c.loop-place.invariant.extended;
      below = more.below ∙ c.loop-place.invariant.below;
      steps = ap (λ (e : Extended). now.steps ++ swept e (taken nothing now.steps) (drop (place + 1) lists)) more.extended ∙
          sweep_turn was.extended was.steps now.steps (variables c.group.result.now) (drop (place + 1) lists) (drop place lists) more.steps (dropped variables (groups_in c.args.arrangement.now) place c.group.result.now c.group.ensures) ∙
          c.loop-place.invariant.steps;
    }
