use Rattle.clause_core.specs.UnitPropagation.{IsRefuted}
use Rattle.unit_prop.specs.Standing.{live_of}
use Rattle.unit_prop.proofs.near.visit_each.Given as goal

abbrev pub invariant-loop-place : goal.invariant-loop-place
invariant-loop-place l = IsRefuted (live_of l.clauses) l.lits.items → IsRefuted (live_of l.clauses) l.initial.lits.items
