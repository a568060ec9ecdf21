use Rattle.std.specs.List.{All, Contains}
use Rattle.slice_planner.proofs.arranging.by_levels.Given as goal

abbrev pub invariant-loop-level : goal.invariant-loop-level
invariant-loop-level l = All (Contains l.extended.gates) l.gates.items
