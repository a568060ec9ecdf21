use Rattle.cdcl_solver.proofs.LoadLemmas.{AreValuesBelow}
use Rattle.cdcl_solver.proofs.model.values.Given as goal

abbrev pub invariant-loop-var : goal.invariant-loop-var
invariant-loop-var l = AreValuesBelow l.propagator.trail.literals l.var l.values.items
