use Rattle.std.proofs.Common.{◌+◌, ◌<◌, ◌≤◌, ℕ}
use Rattle.column_reducer.specs.Gathering.{IsRest}
use Rattle.column_reducer.specs.Reducing.{HasSizeAt}
use Rattle.column_reducer.proofs.Ends.{taken_after}
use Rattle.column_reducer.proofs.frontier_walk.passed_from.Given as goal

abbrev pub invariant-loop-count : goal.invariant-loop-count
invariant-loop-count l = record {
  rest : IsRest l.plan.extended l.operands l.terms (taken_after l.plan l.count) l.rest;
  within : (i n : ℕ) → l.plan.uncounted + i < l.count → HasSizeAt l.plan l.operands i n → n ≤ l.budget;
}
