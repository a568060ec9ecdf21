use Rattle.std.proofs.Common.{◌-◌, take}
use Rattle.std.specs.List.{flat_map}
use Rattle.clause_core.specs.Likeness.{AreSameSets}
use Rattle.goal_refuter.specs.Refutations.{unmet_of}
use Rattle.stage_rewriter.proofs.goals.unmet_goals.Given as goal

abbrev pub invariant-loop-column : goal.invariant-loop-column
invariant-loop-column l = AreSameSets l.goals (flat_map unmet_of (take (l.column - l.cut.lo) l.extended.replaced))
