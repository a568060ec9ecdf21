use Rattle.std.specs.Prelude.{◌≡◌, length}
use Rattle.std.specs.List.{All, Contains}
use Rattle.std.proofs.Common.{sym, ap, subst, ◌∙◌}
use Rattle.graph_core.specs.Graph.Extended.{Extended}
use Rattle.frontier_core.specs.Plan.{IsPlan}
use Rattle.slice_planner.specs.GroupPlans.{AreGroups}
use Rattle.slice_planner.specs.Groups.{groups}
use Rattle.slice_planner.specs.SlicePlan.{columns_added, count_down}
use Rattle.slice_planner.proofs.ListedGroups.{listed_groups_serve}
use Rattle.slice_planner.specs.Arranged.{lists_in}
use Rattle.slice_planner.proofs.GroupSteps.{due_at_groups, if_all, turn_at_groups}
use Rattle.slice_planner.proofs.slicing.slice_steps.Goals as goal

pub take_due-requires : goal.take_due-requires
take_due-requires c =
    subst (λ (e : Extended). All (Contains e.gates) c.in_ok-arrangement.arrangement.gates) (sym (c.in_ok-column.ensures.extended ∙ c.loop-taking.invariant.extended)) c.in_ok-arrangement.ensures.gates

pub loop-taking-preserved : goal.loop-taking-preserved
loop-taking-preserved c =
    let e = c.args.extended.now in
    let u = c.loop-taking.taking in
    let column = c.add_column.new.self in
    let of_column = c.in_ok-column.ensures.extended in
    record {
      extended = c.in_ok-take_due.ensures.extended ∙ of_column ∙ c.loop-taking.invariant.extended;
      groups = λ gs is are.
          due_at_groups e column gs c.take_due.new.taking.steps (of_column ∙ c.loop-taking.invariant.extended) are
          (turn_at_groups e u column gs c.loop-taking.invariant.extended of_column (c.loop-taking.invariant.groups gs is are) c.in_ok-column.ensures.groups)
          (c.in_ok-take_due.ensures.groups gs (ap lists_in (sym c.arrangement.view_is) ∙ is));
    }

pub finish-requires-clause-gates : goal.finish-requires-clause-gates
finish-requires-clause-gates c =
    subst (λ (e : Extended). All (Contains e.gates) c.in_ok-arrangement.arrangement.gates) (sym (c.in_ok-column.ensures.extended ∙ c.loop-taking.invariant.extended)) c.in_ok-arrangement.ensures.gates

pub returns : goal.returns
returns c =
    let e = c.args.extended.now in
    let u = c.loop-taking.taking in
    let last = c.add_column.new.self in
    let of_last = c.in_ok-column.ensures.extended in
    let same : last.extended ≡ e = of_last ∙ c.loop-taking.invariant.extended in
    if_all c.finish.result _ _ _ _
    (λ steps plan columns by_groups. record {
      plan = subst (λ (d : Extended). IsPlan d steps.items) same plan;
      columns = subst (λ (d : Extended). columns_added steps.items ≡ count_down (length d.graph.outputs)) same columns;
      groups = λ adders order.
          let gs = groups e.gates in
          let is = c.in_ok-arrangement.ensures.listed adders order in
          let are = listed_groups_serve e c.gates-gates.ensures.extension order in
          by_groups gs is (subst (λ (d : Extended). AreGroups d gs) (sym same) are)
          (turn_at_groups e u last gs c.loop-taking.invariant.extended of_last (c.loop-taking.invariant.groups gs (ap lists_in c.arrangement.view_is ∙ is) are) c.in_ok-column.ensures.groups);
    })
    c.finish.ensures.plan c.finish.ensures.columns c.finish.ensures.groups
