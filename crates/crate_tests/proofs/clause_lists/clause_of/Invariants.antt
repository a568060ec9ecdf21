use Rattle.clause_core.specs.Clause.{IsClauseInRange}
use Rattle.crate_tests.proofs.clause_lists.clause_of.Given as goal

abbrev pub invariant-loop-lit : goal.invariant-loop-lit
invariant-loop-lit l = IsClauseInRange l.max l.kept.items
