use Rattle.std.proofs.Common.{◌≡◌, ◌+◌, ◌++◌}
use Rattle.std.specs.List.{All}
use Rattle.clause_core.specs.Clause.{IsClauseInRange}
use Rattle.cdcl_solver.specs.Deletions.{ChangeAlike, OnlyAdds}
use Rattle.cdcl_solver.specs.Loading.{SameLive}
use Rattle.cdcl_solver.specs.Logs.{Continues, lemmas}
use Rattle.cdcl_solver.proofs.solver.Solver.search.Given as goal

abbrev pub invariant-loop-turn : goal.invariant-loop-turn
invariant-loop-turn l = record {
  max : l.self.max ≡ l.initial.self.max;
  live : SameLive l.self.live (l.log.left ++ l.initial.self.live);
  continues : Continues l.initial.self.max l.initial.self.live l.turn l.initial.log l.log;
  in_range : All (IsClauseInRange l.initial.self.max) l.log.left;
  alike : ChangeAlike l.initial.self.live l.initial.log l.self.live l.log;
  adds : OnlyAdds l.initial.log l.log;
  count : lemmas l.log ≡ lemmas l.initial.log + l.turn;
}
