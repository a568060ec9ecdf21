use Rattle.std.specs.Prelude.{not}
use Rattle.std.specs.List.{Contains}
use Rattle.std.proofs.Common.{sym, ap, subst, ◌∙◌, arith, true≢false}
use Rattle.slice_planner.specs.Taking.{Took}
use Rattle.slice_planner.proofs.GroupSteps.{any_default, gate_low, goes_exactly}
use Rattle.slice_planner.proofs.taking.Taking.can_go_behind.Goals as goal

pub returns-then-not-is_gone_behind : goal.returns-then-not-is_gone_behind
returns-then-not-is_gone_behind c =
    let w = c.self.inside in
    let there = subst (λ (u : Took). Contains u.extended.gates c.args.gate) (sym c.self.view_is) c.requires.gate in
    let low = gate_low w.extended.now c.gates-gates.ensures.extension c.args.gate there in
    let room = c.self.invariant.readers_room in
    goes_exactly w.extended.now w.steps.items w.below w.gone.items w.readers.items c.self.invariant c.gates-gates.ensures.extension c.args.self.now c.args.front.now c.args.gate c.from.result c.reads_of.result
    c.self.view_is c.requires.gates c.requires.front c.requires.gate (sym c.is_gone_behind.ensures ∙ c.if-not-is_gone_behind.true)
    (sym (c.from.ensures ∙ c.index.ensures ∙ any_default w.readers.items c.args.gate.v c.index.result.now 0 (omega arith))) c.reads_of.ensures

pub returns-else-not-is_gone_behind : goal.returns-else-not-is_gone_behind
returns-else-not-is_gone_behind c = (
  (λ yes. absurd (true≢false (sym yes ∙ ap not c.if-not-is_gone_behind.false))),
  (λ go. absurd (true≢false (sym c.if-not-is_gone_behind.false ∙ c.is_gone_behind.ensures ∙ go.new))),
)
