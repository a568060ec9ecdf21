-- Goals that lines show make the replaced columns agree.
use Rattle.std.specs.Prelude.{List, [], ◌∷◌}
use Rattle.std.specs.declared.option.Option.TheVariants.{None}
use Rattle.std.specs.List.{AllByRecursion}
use Rattle.std.proofs.Common.{subst}
use Rattle.std.proofs.lemmas.List.Elements.{All-from_recursion}
use Rattle.graph_core.specs.Graph.Extended.{AgreeOnColumns, Extended}
use Rattle.mv_fact.specs.Always.{Always}
use Rattle.clause_core.specs.Clause.{Clause, IsClauseInRange}
use Rattle.clause_core.specs.ClauseLines.{AreGoalsShown, AreLawfulClauseLines, AreLawfulClauses, ClauseLine, clause_in}
use Rattle.clause_core.specs.GateClauses.{gate_clauses}
use Rattle.clause_core.specs.declared.line.Line.TheVariants.{Add, Delete}
use Rattle.clause_core.proofs.AddedClauses.{columns_agree}
use Rattle.drup_checker.proofs.JudgedGoals.{goals_are_judged}
use Rattle.drup_checker.specs.Checking.{Checking, IsLeastUnshown}
use Rattle.miter_encoder.specs.ColumnGoals.{AreGoalsOf}
use Rattle.clause_judge.specs.Taking.{GoalsJoinColumns, HasTaken, IsShownOver, TakeClauses}

-- lines that are taken are lawful
pub taken_lawful : (e : Extended) (live : List Clause) (xs : List ClauseLine) (last : List Clause) → TakeClauses e live xs last → AllByRecursion (λ x. IsClauseInRange e.max (clause_in x)) xs × AreLawfulClauses live xs
taken_lawful e live [] last h = (tt, tt)
taken_lawful e live (Add c ∷ xs) last h =
    let more = taken_lawful e (c ∷ live) xs last (subst (λ z. TakeClauses e z xs last) h.1.1.1 h.2) in
    ((h.1.0, more.0), (h.1.1.0, more.1))
taken_lawful e live (Delete c ∷ xs) last h =
    let more = taken_lawful e h.0 xs last h.2 in
    ((h.1.0, more.0), (h.0, h.1.1, more.1))

-- and they show each goal
pub taken_show : (e : Extended) (lines : List ClauseLine) (live : List Clause) → TakeClauses e (gate_clauses e.gates) lines live → AreGoalsShown lines e → AreLawfulClauseLines e lines
taken_show e lines live h shown =
    let lawful = taken_lawful e (gate_clauses e.gates) lines live h in
    record { in_range = All-from_recursion (λ x. IsClauseInRange e.max (clause_in x)) lines lawful.0; lawful = lawful.1; goals = shown }

pub goals_show : (e : Extended) (lines : List ClauseLine) (live : List Clause) (k : Checking) → HasTaken e lines live k → AreGoalsOf e k.goals → IsLeastUnshown k.goals k.shown None → IsShownOver e k.keeps k.added
goals_show e lines live k taken goals none = record {
  lines = lines;
  lawful = taken_show e lines live taken.lawful (goals_are_judged.shown e k lines goals taken.shown none);
  same = taken.added;
}

pub lines_join_columns : (e : Extended) (lines : List ClauseLine) (live : List Clause) → TakeClauses e (gate_clauses e.gates) lines live → AreGoalsShown lines e → Always e.gates (AgreeOnColumns e)
lines_join_columns e lines live h shown = columns_agree e lines (taken_show e lines live h shown)

pub goals_join_columns : GoalsJoinColumns
goals_join_columns e lines live k taken goals none = lines_join_columns e lines live taken.lawful (goals_are_judged.shown e k lines goals taken.shown none)
