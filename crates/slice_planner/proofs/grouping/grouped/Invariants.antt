use Rattle.std.specs.List.{All, Contains}
use Rattle.slice_planner.specs.Arranged.{AreWithin}
use Rattle.slice_planner.proofs.grouping.grouped.Given as goal

-- the gates of the groups so far, and each part is of them
abbrev pub invariant-loop-place : goal.invariant-loop-place
invariant-loop-place l = record {
  gates : All (Contains l.extended.gates) l.gates.items;
  within : AreWithin l.gates.items l.parts.items;
}
