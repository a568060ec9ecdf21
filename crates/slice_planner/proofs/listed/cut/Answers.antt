use Rattle.std.specs.Prelude.{◌+◌}
use Rattle.std.proofs.Common.{refl, arith}
use Rattle.slice_planner.proofs.Cuts.{cut_more, left_over, within_more}
use Rattle.slice_planner.proofs.listed.cut.Goals as goal

pub loop-start-preserved : goal.loop-start-preserved
loop-start-preserved c =
    let gates = c.args.gates.now in
    let start = c.loop-start.start in
    let size = c.first_size.result in
    let low = left_over gates start size (c.first_size.ensures.within) c.loop-start.invariant.low in
    record {
      low = low;
      within = within_more gates c.loop-start.parts.items c.push.new.self.items (record { start = start; end = start + size }) c.in_ok-push.ensures.items c.loop-start.invariant.within (omega arith) low;
      groups = cut_more gates c.loop-start.parts.items c.push.new.self.items start size (record { start = start; end = start + size }) c.loop-start-test.true c.first_size.ensures.size c.first_size.ensures.some c.in_ok-push.ensures.items refl refl c.loop-start.invariant.groups;
    }
