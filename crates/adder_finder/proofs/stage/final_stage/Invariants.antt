use Rattle.std.proofs.Common.{◌<◌}
use Rattle.ripple_graft.specs.declared.cut.Cut.{Cut}
use Rattle.adder_finder.specs.FinalStage.{IsFit}
use Rattle.adder_finder.proofs.stage.final_stage.Given as goal

abbrev pub invariant-loop-lo : goal.invariant-loop-lo
invariant-loop-lo l = (cut : Cut) → cut.lo < l.lo → ¬ (IsFit l.graph cut)
