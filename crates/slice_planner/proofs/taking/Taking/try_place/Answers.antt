use Rattle.std.specs.List.{Contains}
use Rattle.std.proofs.Common.{subst}
use Rattle.slice_planner.specs.Arranged.{groups_in, variables}
use Rattle.slice_planner.proofs.GroupSteps.{all_of_group, on_ok, one_of_lists, one_swept}
use Rattle.slice_planner.proofs.taking.Taking.try_place.Goals as goal

pub try_group-requires : goal.try_group-requires
try_group-requires c =
    let a = c.args.arrangement.now in
    all_of_group (Contains c.args.self.now.extended.gates) a.gates a.parts c.args.place c.group.result.now c.requires c.group.ensures

pub returns-then-place-len-clause-groups : goal.returns-then-place-len-clause-groups
returns-then-place-len-clause-groups c =
    let old = c.args.self.now in
    on_ok c.try_group.result _ _
    (λ steps gs is are at. one_swept old.extended gs old.steps c.try_group.new.self.steps (variables c.group.result.now) are (subst (λ ls. Contains ls (variables c.group.result.now)) is (one_of_lists (groups_in c.args.arrangement.now) c.args.place c.group.result.now c.group.ensures)) steps at)
    c.try_group.ensures.steps
