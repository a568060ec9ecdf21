use Rattle.std.specs.Prelude.{◌≤◌, length}
use Rattle.std.specs.List.{All, Contains}
use Rattle.slice_planner.proofs.grouping.push_gates.Given as goal

-- those before, and gates after them
abbrev pub invariant-loop-v : goal.invariant-loop-v
invariant-loop-v l = record {
  gates : All (Contains l.extended.gates) l.gates.items;
  longer : length l.fn.gates.items ≤ length l.gates.items;
}
