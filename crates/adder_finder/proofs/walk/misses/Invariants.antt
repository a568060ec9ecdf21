use Rattle.std.proofs.Common.{◌≤◌, [], ◌∷◌}
use Rattle.adder_finder.specs.FinalStage.{IsCovered}
use Rattle.adder_finder.proofs.walk.misses.Given as goal

abbrev pub invariant-loop-step : goal.invariant-loop-step
invariant-loop-step l = (l.here ≤ l.graph.max) × (IsCovered l.graph.gates (l.x ∷ l.y ∷ []) l.v → IsCovered l.graph.gates (l.x ∷ l.y ∷ []) l.here)
