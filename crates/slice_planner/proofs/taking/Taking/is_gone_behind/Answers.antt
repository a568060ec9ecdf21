use Rattle.std.specs.Prelude.{◌≡◌, ◌||◌, false, slice_index_or}
use Rattle.std.proofs.Common.{sym, ap, subst, ◌∙◌, arith}
use Rattle.std.proofs.lemmas.Bool.{or_left}
use Rattle.std.specs.List.{Contains}
use Rattle.frontier_core.specs.Plan.{nothing, taken}
use Rattle.frontier_core.specs.Sets.{has}
use Rattle.slice_planner.specs.Arranged.{variables}
use Rattle.slice_planner.specs.Taking.{Took}
use Rattle.slice_planner.proofs.GroupSteps.{any_default, gate_low, has_behind}
use Rattle.slice_planner.proofs.taking.Taking.is_gone_behind.Goals as goal

pub returns-then-are_of : goal.returns-then-are_of
returns-then-are_of c =
    let f = taken nothing c.args.self.now.steps in
    let front = variables c.args.front.now in
    let v = c.args.gate.v in
    c.if-are_of.true ∙ sym (has_behind f front v ∙ or_left (has front v) (has f.eliminated v) (sym c.are_of.ensures ∙ c.if-are_of.true))

pub returns-else-are_of : goal.returns-else-are_of
returns-else-are_of c =
    let w = c.self.inside in
    let f = taken nothing c.args.self.now.steps in
    let front = variables c.args.front.now in
    let v = c.args.gate.v in
    let there = subst (λ (u : Took). Contains u.extended.gates c.args.gate) (sym c.self.view_is) c.requires in
    let low = gate_low w.extended.now c.gates-gates.ensures.extension c.args.gate there in
    let room = c.self.invariant.gone_room in
    let is_gone = subst (λ (u : Took). slice_index_or w.gone.items v false ≡ has (taken nothing u.steps).eliminated v) c.self.view_is (c.self.invariant.is_gone v) in
    c.index.ensures ∙ any_default w.gone.items v c.index.result.now false (omega arith) ∙ is_gone ∙ sym (has_behind f front v ∙ ap (λ b. b || has f.eliminated v) (sym c.are_of.ensures ∙ c.if-are_of.false))
