use Rattle.std.specs.Prelude.{◌++◌}
use Rattle.std.proofs.Common.{sym, ap, ◌∙◌, true≢false}
use Rattle.frontier_core.specs.Plan.{nothing, taken}
use Rattle.slice_planner.specs.Arranged.{variables}
use Rattle.slice_planner.proofs.GroupSteps.{nothing_behind, on_ok, swept_no, swept_yes}
use Rattle.slice_planner.proofs.taking.Taking.try_group.Goals as goal

pub returns-then-can_all_go-clause-steps : goal.returns-then-can_all_go-clause-steps
returns-then-can_all_go-clause-steps c =
    let old = c.args.self.now in
    on_ok c.eliminate_all.result _ _ (λ is. is ∙ ap (λ ss. old.steps ++ ss) (sym (swept_yes old.extended (taken nothing old.steps) (variables c.args.group.now) (c.can_all_go.ensures.0 c.if-can_all_go.true)))) c.eliminate_all.ensures.steps

pub returns-else-can_all_go-clause-steps : goal.returns-else-can_all_go-clause-steps
returns-else-can_all_go-clause-steps c =
    let old = c.args.self.now in
    nothing_behind old.steps _ (swept_no old.extended (taken nothing old.steps) (variables c.args.group.now) (λ can. true≢false (sym (c.can_all_go.ensures.1 can) ∙ c.if-can_all_go.false)))
