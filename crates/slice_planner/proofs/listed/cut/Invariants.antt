use Rattle.std.specs.Prelude.{◌≡◌, ◌≤◌, ◌-◌, ◌++◌, length, map, drop}
use Rattle.slice_planner.proofs.ListedGroups.{all_groups}
use Rattle.slice_planner.specs.Arranged.{AreWithin, pieces, variables}
use Rattle.slice_planner.proofs.listed.cut.Given as goal

-- the groups so far, and those of the gates that are left, are all groups
abbrev pub invariant-loop-start : goal.invariant-loop-start
invariant-loop-start l = record {
  low : l.start ≤ length l.gates;
  within : AreWithin l.gates l.parts.items;
  groups : map variables (pieces l.gates l.parts.items) ++ all_groups (drop l.start l.gates) ≡ all_groups l.gates;
}

abbrev pub decreases-loop-start : goal.decreases-loop-start
decreases-loop-start l = length l.gates - l.start
