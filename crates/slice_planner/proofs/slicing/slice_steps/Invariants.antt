use Rattle.std.specs.Prelude.{◌≡◌, ℕ, List}
use Rattle.slice_planner.specs.GroupPlans.{AreAtGroups, AreGroups}
use Rattle.slice_planner.specs.Arranged.{arranged, lists_in}
use Rattle.slice_planner.proofs.slicing.slice_steps.Given as goal

abbrev pub invariant-loop-taking : goal.invariant-loop-taking
invariant-loop-taking l = record {
  extended : l.taking.extended ≡ l.fn.extended;
  groups : (gs : List (List ℕ)) → lists_in (arranged l.arrangement-inside.gates.items l.arrangement-inside.parts.items) ≡ gs → AreGroups l.fn.extended gs → AreAtGroups l.fn.extended gs l.taking.steps;
}

-- a column is added in each turn
abbrev pub decreases-loop-taking : goal.decreases-loop-taking
decreases-loop-taking l = l.taking.below
