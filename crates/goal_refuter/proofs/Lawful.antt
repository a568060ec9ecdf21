-- A log of all goals is a lawful certificate of few lines, and the old and new outputs agree.
use Rattle.std.specs.Prelude.{ℕ, ◌+◌, ◌*◌, ◌≤◌, List, [], length}
use Rattle.std.proofs.Common.{subst, arith}
use Rattle.std.proofs.lemmas.List.{take_all}
use Rattle.graph_core.specs.Graph.Extended.{AgreeOnColumns, Extended}
use Rattle.mv_fact.specs.Always.{Always}
use Rattle.clause_core.specs.Clause.{Clause}
use Rattle.clause_core.specs.ClauseLines.{AreLawfulClauseLines}
use Rattle.clause_core.specs.GateClauses.{gate_clauses}
use Rattle.clause_core.proofs.AddedClauses.{columns_agree}
use Rattle.clause_core.proofs.Log.{log_is_certificate}
use Rattle.cdcl_solver.specs.Logs.{LogView}
use Rattle.goal_refuter.specs.Refutations.{AreRefuted, unmet_goals}
use Rattle.goal_refuter.specs.Refuting.{IsSoFar}
use Rattle.goal_refuter.proofs.GoalClauses.{few_goals, goals_shown}
use Rattle.goal_refuter.proofs.LogLines.{few_lines, refuted_is_lawful, refuted_shows}

module _ (e : Extended) (conflicts : ℕ) (log : LogView) (h : IsSoFar e conflicts (length (unmet_goals e)) log) where
  refuted : AreRefuted (gate_clauses e.gates) [] (unmet_goals e) log.lines log.left
  refuted = subst (λ (goals : List Clause). AreRefuted (gate_clauses e.gates) [] goals log.lines log.left) (take_all (length (unmet_goals e)) (unmet_goals e) (omega arith)) h.log_is.refuted

  pub lawful_lines : AreLawfulClauseLines e log.lines
  lawful_lines =
      let l = refuted_is_lawful (gate_clauses e.gates) (unmet_goals e) log.lines log.left refuted h.log_is.spaced in
      record {
        in_range = h.log_is.in_range;
        lawful = log_is_certificate (gate_clauses e.gates) l.0 log.lines log.left l.2;
        goals = goals_shown log.lines e (λ goal i. refuted_shows (gate_clauses e.gates) [] (unmet_goals e) log.lines log.left refuted goal i);
      }

  pub lines_few : length log.lines ≤ 2 * (conflicts + 2 * length e.replaced)
  lines_few =
      let l = refuted_is_lawful (gate_clauses e.gates) (unmet_goals e) log.lines log.left refuted h.log_is.spaced in
      let twice = few_lines (gate_clauses e.gates) l.0 log.lines log.left l.2 in
      let exactly = h.log_is.exactly in
      let few = h.few in
      let goals = few_goals e in
      omega arith

  pub lines_agree : Always e.gates (AgreeOnColumns e)
  lines_agree = columns_agree e log.lines lawful_lines
