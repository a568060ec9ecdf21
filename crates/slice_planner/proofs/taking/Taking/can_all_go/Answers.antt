use Rattle.std.proofs.Common.{sym, ◌∙◌, true≢false}
use Rattle.frontier_core.specs.Plan.{nothing, taken}
use Rattle.slice_planner.proofs.GroupSteps.{steps_at, steps_more}
use Rattle.slice_planner.proofs.taking.Taking.can_all_go.Goals as goal

pub returns-then-not-can_go_behind : goal.returns-then-not-can_go_behind
returns-then-not-can_go_behind c =
    let u = c.args.self.now in (
      (λ no. absurd (true≢false (sym no))),
      (λ can. absurd (true≢false (sym (c.can_go_behind.ensures.1 (steps_at u.extended (taken nothing u.steps) c.args.group.now c.loop-place.place _ c.loop-place-test.true can)) ∙ c.if-not-can_go_behind.true))),
    )

pub loop-place-preserved : goal.loop-place-preserved
loop-place-preserved c =
    let u = c.args.self.now in
    steps_more u.extended (taken nothing u.steps) c.args.group.now c.loop-place.place _ c.loop-place-test.true c.loop-place.invariant (c.can_go_behind.ensures.0 c.if-not-can_go_behind.false)
