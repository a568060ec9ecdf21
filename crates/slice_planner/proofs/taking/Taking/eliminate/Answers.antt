use Rattle.std.specs.Prelude.{◌<◌, slice_index_or, slice_set, true}
use Rattle.std.specs.List.{Contains}
use Rattle.std.proofs.Common.{sym, subst}
use Rattle.slice_planner.specs.Taking.{IsReadyGate, IsTaking, LowersByOne, Took, took}
use Rattle.slice_planner.proofs.TakenSteps.{gate_taken, left_is_read, right_is_read}
use Rattle.slice_planner.proofs.taking.Taking.eliminate.Goals as goal

pub one_less-requires : goal.one_less-requires
one_less-requires c =
    let w = c.self.inside in
    let x = c.args.gate in
    let there = subst (λ (t : Took). Contains t.extended.gates x) (sym c.self.view_is) c.requires.gate in
    let ready = subst (λ (t : Took). IsReadyGate t x.v) (sym c.self.view_is) c.requires.ready in
    record {
      some = subst (λ v. 0 < slice_index_or w.readers.items v 0) (sym c.var.ensures)
          (left_is_read w.extended.now w.steps.items w.below w.gone.items w.readers.items c.self.invariant c.gates-gates.ensures.extension x there ready.0);
    }

pub one_less-requires-2 : goal.one_less-requires-2
one_less-requires-2 c =
    let w = c.self.inside in
    let x = c.args.gate in
    let between = c.one_less.new.table.items in
    let there = subst (λ (t : Took). Contains t.extended.gates x) (sym c.self.view_is) c.requires.gate in
    let ready = subst (λ (t : Took). IsReadyGate t x.v) (sym c.self.view_is) c.requires.ready in
    let first = subst (λ v. LowersByOne v w.readers.items between) c.var.ensures c.one_less.ensures in
    record {
      some = subst (λ v. 0 < slice_index_or between v 0) (sym c.var-2.ensures)
          (right_is_read w.extended.now w.steps.items w.below w.gone.items w.readers.items c.self.invariant c.gates-gates.ensures.extension x there ready.0 between first);
    }

pub invariant_of-self-2 : goal.invariant_of-self-2
invariant_of-self-2 c =
    let w = c.self.inside in
    let x = c.args.gate in
    let between = c.one_less.new.table.items in
    let now = c.one_less-2.new.table.items in
    let there = subst (λ (t : Took). Contains t.extended.gates x) (sym c.self.view_is) c.requires.gate in
    let ready = subst (λ (t : Took). IsReadyGate t x.v) (sym c.self.view_is) c.requires.ready in
    let first = subst (λ v. LowersByOne v w.readers.items between) c.var.ensures c.one_less.ensures in
    let second = subst (λ v. LowersByOne v between now) c.var-2.ensures c.one_less-2.ensures in
    subst (λ ss. IsTaking (took w.extended.now ss w.below) (slice_set w.gone.items x.v true) now) (sym c.in_ok-push.ensures.items)
    (gate_taken w.extended.now w.steps.items w.below w.gone.items w.readers.items c.self.invariant c.gates-gates.ensures.extension x there ready.0 ready.1 between now first second)
