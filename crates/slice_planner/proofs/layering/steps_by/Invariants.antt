use Rattle.std.specs.Prelude.{◌≡◌}
use Rattle.slice_planner.proofs.layering.steps_by.Given as goal

abbrev pub invariant-loop-taking : goal.invariant-loop-taking
invariant-loop-taking l = l.taking.extended ≡ l.fn.extended

-- a column is added in each turn
abbrev pub decreases-loop-taking : goal.decreases-loop-taking
decreases-loop-taking l = l.taking.below
