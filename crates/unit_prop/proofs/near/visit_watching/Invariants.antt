use Rattle.clause_core.specs.UnitPropagation.{IsRefuted}
use Rattle.unit_prop.specs.Standing.{live_of}
use Rattle.unit_prop.proofs.near.visit_watching.Given as goal

abbrev pub invariant-loop-step : goal.invariant-loop-step
invariant-loop-step l = IsRefuted (live_of l.clauses) l.lits.items → IsRefuted (live_of l.clauses) l.initial.lits.items
