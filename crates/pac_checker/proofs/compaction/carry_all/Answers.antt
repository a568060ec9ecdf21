use Rattle.std.proofs.Common.{◌<◌, ◌≤◌, subst, ◌∙◌}
use Rattle.gate_axioms.specs.Lines.{live_line_in}
use Rattle.gate_axioms.specs.Steps.{AddsLine}
use Rattle.pac_checker.proofs.Compacting.{carried_all, carried_more, exponent_stays}
use Rattle.pac_checker.proofs.compaction.carry_all.Goals as goal

pub loop-place-preserved : goal.loop-place-preserved
loop-place-preserved c =
    let old = c.args.live.now in
    let before = c.loop-place.compact in
    let after = c.carry.new.live in
    let id = c.at-id.result.0 in
    let line = c.at-id.result.1.now in
    let added : AddsLine (live_line_in old.table (id, line)) before after = subst (λ t. AddsLine (live_line_in t (id, line)) before after) c.table.ensures.table c.in_ok-carry.ensures in
    record {
      same_gates = added.gates ∙ c.loop-place.invariant.same_gates;
      exponent = exponent_stays before.table after.table added.table ∙ c.loop-place.invariant.exponent;
      lines = carried_more old.table old.entries c.loop-place.place id line before after (subst (λ n. c.loop-place.place < n) c.len-place-end.ensures c.loop-place-test.true)
          c.at-id.ensures.entry c.loop-place.invariant.lines added;
    }

pub returns : goal.returns
returns c =
    carried_all c.args.live.now c.loop-place.compact c.loop-place.place (subst (λ n. n ≤ c.loop-place.place) c.len-place-end.ensures c.loop-place-test.false) c.loop-place.invariant.same_gates
    c.loop-place.invariant.exponent c.loop-place.invariant.lines
