use Rattle.std.proofs.Common.{◌<◌, ℕ}
use Rattle.std.specs.List.{Contains}
use Rattle.unit_prop.specs.Standing.{at}
use Rattle.unit_prop.specs.Standing.{IsSound}
use Rattle.cdcl_solver.specs.Search.{GainsStanding}
use Rattle.cdcl_solver.proofs.SearchLemmas.{IsOnly}
use Rattle.cdcl_solver.proofs.descent.begin.Given as goal

abbrev pub invariant-loop-lit : goal.invariant-loop-lit
invariant-loop-lit l = record {
  same : GainsStanding l.initial.propagator l.propagator;
  sound : IsSound l.propagator;
  only : IsOnly l.propagator l.assumptions;
  stand : (i : ℕ) → i < l.lit-index → Contains l.propagator.trail.literals (at l.assumptions i);
}
