use Rattle.std.proofs.Common.{ℕ, ◌≡◌, ◌+◌, ◌*◌, ◌≤◌, get_or, sym, ap, ap₂, ◌∙◌, arith}
use Rattle.std.specs.Prelude.{nat_le}
use Rattle.std.specs.declared.option.Option.{Option}
use Rattle.graph_maker.specs.Prefix.{Span, join_partner, partner_of}
use Rattle.graph_maker.proofs.AdderSteps.{level_end, span_step}
use Rattle.graph_maker.proofs.building.Building.level.Goals.{in-Some+in_ok-next-in-Some, in-None}
use Rattle.graph_maker.proofs.building.Building.level.Goals as goal

pub loop-i-preserved : goal.loop-i-preserved
loop-i-preserved c =
    let i = c.loop-i.i in
    let b = c.loop-i.self in
    let old = c.args.old.now in
    let partner = partner_of c.args.adder c.args.distance in
    let wide = 2 * c.args.distance in
    let d : Span = (record { 0 = 0 }, record { 0 = 0 }) in
    let next = c.match-partner.self in
    let join = λ (o : Option ℕ). join_partner old b (get_or old i d) o (nat_le wide i) in
    let before = c.loop-i.invariant in
    let made : (join (partner i) ≡ record { builder = next; span = c.match-partner.next }) × (next.last ≤ b.last + 3) = elim c.match-partner.branch [
      | in-Some+in_ok-next-in-Some w ↦ (
        ap join (sym w.in-Some.ensures.value) ∙ w.in_ok-next-in-Some.ensures.value ∙ ap₂ (λ n s. record { builder = n; span = s }) (sym w.self-is) (sym w.next-is),
        omega (arith, w.in_ok-next-in-Some.ensures.few, ap (λ n. n.last) w.self-is),
      )
      | in-None w ↦ (
        ap join (sym w.in-None.ensures.value) ∙ ap₂ (λ n s. record { builder = n; span = s }) (sym w.self-is) (sym w.next-is),
        omega (arith, ap (λ n. n.last) w.self-is),
      )
    ] in
    record {
      whole = before.whole ∙ span_step c.loop-i.spans.items c.push.new.self.items b next partner wide old i d c.match-partner.next c.loop-i-test.true made.0 c.in_ok-push.ensures.items;
      few = omega (arith, before.few, made.1);
    }

pub returns-clause-value : goal.returns-clause-value
returns-clause-value c = c.loop-i.invariant.whole ∙ level_end c.loop-i.spans.items c.loop-i.self (partner_of c.args.adder c.args.distance) (2 * c.args.distance) c.args.old.now c.loop-i.i (omega (arith, c.loop-i-test.false))
