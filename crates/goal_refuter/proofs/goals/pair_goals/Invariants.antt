use Rattle.std.proofs.Common.{take}
use Rattle.std.specs.List.{flat_map}
use Rattle.clause_core.specs.Likeness.{AreSameSets}
use Rattle.miter_encoder.specs.ColumnGoals.{columns_from}
use Rattle.goal_refuter.specs.Refutations.{unmet_of}
use Rattle.goal_refuter.proofs.goals.pair_goals.Given as goal

abbrev pub invariant-loop-place : goal.invariant-loop-place
invariant-loop-place l = AreSameSets l.goals (flat_map unmet_of (columns_from 0 (take l.place l.pairs)))
