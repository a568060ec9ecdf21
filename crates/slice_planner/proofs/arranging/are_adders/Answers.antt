use Rattle.std.specs.List.{Contains}
use Rattle.slice_planner.specs.Arranged.{groups_in}
use Rattle.slice_planner.proofs.GroupSteps.{all_of_group}
use Rattle.slice_planner.proofs.Orders.{single_refutes}
use Rattle.slice_planner.proofs.arranging.are_adders.Goals as goal

pub returns-then-is_single_reader : goal.returns-then-is_single_reader
returns-then-is_single_reader c =
    let e = c.args.extended.now in
    let a = c.args.arrangement.now in
    let place = c.loop-place.place in
    let group = c.group.result.now in
    let one = c.is_single_reader.ensures c.if-is_single_reader.true in
    λ lists adders. absurd (single_refutes e.gates (groups_in a) place group one.0 c.group.ensures one.1 one.2 (all_of_group (Contains e.gates) a.gates a.parts place group c.requires c.group.ensures) lists adders)
