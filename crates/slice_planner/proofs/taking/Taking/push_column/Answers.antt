use Rattle.std.specs.Prelude.{◌≡◌, ◌<◌, ◌+◌, slice_index_or}
use Rattle.std.proofs.Common.{sym, ap, subst, ◌∙◌}
use Rattle.slice_planner.specs.GroupPlans.{AreAtGroups}
use Rattle.slice_planner.specs.Taking.{IsTaking, LowersByOne, Took, took}
use Rattle.slice_planner.proofs.TakenSteps.{column_at_groups, column_taken, output_is_read}
use Rattle.slice_planner.proofs.taking.Taking.push_column.Goals as goal

pub one_less-requires : goal.one_less-requires
one_less-requires c =
    let w = c.self.inside in
    let next : w.below ≡ c.args.column + 1 = ap (λ t. t.below) c.self.view_is ∙ c.requires.next in
    record {
      some = subst (λ v. 0 < slice_index_or w.readers.items v 0) (sym c.var.ensures)
          (output_is_read w.extended.now w.steps.items w.below w.gone.items w.readers.items c.self.invariant c.args.column c.new_output-output.result next c.new_output-output.ensures);
    }

pub invariant_of-self-2 : goal.invariant_of-self-2
invariant_of-self-2 c =
    let w = c.self.inside in
    let e = w.extended.now in
    let now = c.one_less.new.table.items in
    let next : w.below ≡ c.args.column + 1 = ap (λ t. t.below) c.self.view_is ∙ c.requires.next in
    let lower = subst (λ v. LowersByOne v w.readers.items now) c.var.ensures c.one_less.ensures in
    subst (λ ss. IsTaking (took e ss c.args.column) w.gone.items now) (sym c.in_ok-push.ensures.items)
    (column_taken e w.steps.items w.below w.gone.items w.readers.items c.self.invariant c.args.column c.new_output-output.result now next c.new_output-output.ensures lower)

pub returns-clause-groups : goal.returns-clause-groups
returns-clause-groups c =
    let w = c.self.inside in
    let next : w.below ≡ c.args.column + 1 = ap (λ t. t.below) c.self.view_is ∙ c.requires.next in
    λ gs at.
    subst (λ (u : Took). AreAtGroups u.extended gs c.push.new.self.items) c.self.view_is
    (subst (AreAtGroups w.extended.now gs) (sym c.in_ok-push.ensures.items)
    (column_at_groups w.extended.now w.steps.items w.below w.gone.items w.readers.items c.self.invariant c.args.column gs next
    (subst (λ (u : Took). AreAtGroups u.extended gs u.steps) (sym c.self.view_is) at)))
