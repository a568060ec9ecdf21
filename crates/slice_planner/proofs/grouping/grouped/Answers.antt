use Rattle.std.proofs.Common.{arith}
use Rattle.slice_planner.proofs.Cuts.{within_longer, within_more}
use Rattle.slice_planner.proofs.grouping.grouped.Goals as goal

pub loop-place-preserved : goal.loop-place-preserved
loop-place-preserved c =
    let old = c.loop-place.gates.items in
    let now = c.push_group.new.gates.items in
    let longer = c.in_ok-push_group.ensures.longer in
    let start = c.len-start.result in
    let end = c.len-end.result in
    record {
      gates = c.in_ok-push_group.ensures.gates;
      within = within_more now c.loop-place.parts.items c.push.new.self.items (record { start = start; end = end }) c.in_ok-push.ensures.items
          (within_longer old now c.loop-place.parts.items longer c.loop-place.invariant.within)
          (omega (arith, longer, c.len-start.ensures, c.len-end.ensures)) (omega (arith, c.len-end.ensures));
    }
