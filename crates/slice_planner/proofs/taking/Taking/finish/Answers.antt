use Rattle.std.specs.Prelude.{◌≡◌, ◌<◌, ◌++◌, true, length}
use Rattle.std.specs.List.{All}
use Rattle.std.proofs.Common.{refl, sym, ap, subst, ◌∙◌, arith}
use Rattle.graph_core.specs.Graph.Extended.{Extended}
use Rattle.ripple_graft.specs.Extension.{IsExtension}
use Rattle.frontier_core.specs.Plan.{IsPlan, nothing, taken}
use Rattle.frontier_core.specs.Sets.{has}
use Rattle.slice_planner.specs.Groups.{GoesByGroups}
use Rattle.slice_planner.specs.SlicePlan.{columns_added, count_down, swept}
use Rattle.slice_planner.specs.Taking.{IsReadyGate, Took}
use Rattle.slice_planner.proofs.GroupSteps.{all_swept, gone_refutes}
use Rattle.slice_planner.proofs.TakenSteps.{all_added, finished, fewer_left}
use Rattle.slice_planner.proofs.taking.Taking.finish.Goals as goal

pub loop-gate-init : goal.loop-gate-init
loop-gate-init c =
    let u = c.args.self in
    let w = c.taking.inside in
    let swept_all = c.in_ok-try_all.ensures in
    record {
      extended = swept_all.extended;
      below = swept_all.below ∙ c.requires.below;
      groups = λ gs is are at.
          all_swept u.extended gs u.steps c.try_all.new.self.steps are (swept_all.steps ∙ ap (λ ls. u.steps ++ swept u.extended (taken nothing u.steps) ls) is)
          (λ k low. subst (λ (t : Took). k < length t.extended.graph.outputs → t.below ≡ 0 → has (taken nothing t.steps).added k ≡ true) c.taking.view_is (λ within none. c.taking.invariant.added k within (omega arith)) low c.requires.below) at;
    }

pub loop-gate-smaller : goal.loop-gate-smaller
loop-gate-smaller c =
    let ready = c.in-Some.ensures.some in
    let more = c.in_ok-eliminate.ensures in
    fewer_left c.loop-gate.taking c.eliminate.new.self c.in-Some.gate more.extended more.steps ready.0 ready.1

pub loop-gate-preserved : goal.loop-gate-preserved
loop-gate-preserved c =
    let ready = c.in-Some.ensures.some in
    let more = c.in_ok-eliminate.ensures in
    record {
      extended = more.extended ∙ c.loop-gate.invariant.extended;
      below = more.below ∙ c.loop-gate.invariant.below;
      groups = λ gs is are at. absurd (gone_refutes c.args.self.extended c.loop-gate.taking c.in-Some.gate c.loop-gate.invariant.extended ready.0 ready.1.0 (c.loop-gate.invariant.groups gs is are at).1);
    }

pub returns : goal.returns
returns c =
    let w = c.taking-in-loop-gate.inside in
    let view = c.taking-in-loop-gate.view_is in
    let same : w.extended.now ≡ c.args.self.extended = ap (λ (t : Took). t.extended) view ∙ c.loop-gate.invariant.extended in
    let first : c.taking.inside.extended.now ≡ c.args.self.extended = ap (λ (t : Took). t.extended) c.taking.view_is in
    let made : IsExtension w.extended.now = subst IsExtension (sym same) (subst IsExtension first c.gates-gates.ensures.extension) in
    let none : w.below ≡ 0 = ap (λ (t : Took). t.below) view ∙ c.loop-gate.invariant.below in
    let stuck = subst (λ (t : Took). All (λ x. ¬ (IsReadyGate t x.v)) t.extended.gates) (sym view) (c.in_default.ensures.none refl) in
    record {
      plan = subst (λ (e : Extended). IsPlan e w.steps.items) same (finished w.extended.now w.steps.items w.below w.gone.items w.readers.items c.taking-in-loop-gate.invariant made none stuck);
      columns = subst (λ (e : Extended). columns_added w.steps.items ≡ count_down (length e.graph.outputs)) same (all_added w.extended.now w.steps.items w.below w.gone.items w.readers.items c.taking-in-loop-gate.invariant none);
      groups = λ gs is are at. subst (λ (t : Took). GoesByGroups gs t.steps) (sym view) (c.loop-gate.invariant.groups gs is are at).0.by_groups;
    }
