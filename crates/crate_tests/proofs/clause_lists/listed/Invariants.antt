use Rattle.std.specs.List.{All}
use Rattle.clause_core.specs.Clause.{IsClauseInRange}
use Rattle.crate_tests.proofs.clause_lists.listed.Given as goal

abbrev pub invariant-loop-lits : goal.invariant-loop-lits
invariant-loop-lits l = All (IsClauseInRange l.max) l.list
