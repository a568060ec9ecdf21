-- What a checker has taken of the lines of a clause certificate.
use Rattle.std.specs.Prelude.{◌≡◌, List, [], ◌∷◌}
use Rattle.std.specs.declared.option.Option.TheVariants.{None}
use Rattle.graph_core.specs.Graph.Extended.{AgreeOnColumns, Extended}
use Rattle.mv_fact.specs.Always.{Always}
use Rattle.clause_core.specs.Clause.{Clause}
use Rattle.clause_core.specs.ClauseLines.{AreLawfulClauseLines, ClauseLine, added}
use Rattle.clause_core.specs.GateClauses.{gate_clauses}
use Rattle.clause_core.specs.Likeness.{AreSameSets, HaveSameCopies}
use Rattle.drup_checker.specs.Checking.{Checking, IsLeastUnshown, kept}
use Rattle.drup_checker.specs.Steps.{HasAdded, HasShown}
use Rattle.drup_checker.specs.declared.keeps.Keeps.{Keeps}
use Rattle.miter_encoder.specs.ColumnGoals.{AreGoalsOf}
use Rattle.clause_judge.specs.LineRefusals.{IsClauseStep}

-- lines that are lawful one after the other take the live clauses to the last ones
abbrev pub TakeClauses : Extended → List Clause → List ClauseLine → List Clause → Type 0
TakeClauses e live [] last = last ≡ live
TakeClauses e live (x ∷ xs) last = (next : List Clause) × IsClauseStep e live x next × TakeClauses e next xs last

-- A checker has taken these lines: they are lawful from the gates' clauses on, the clauses that are live then are the checker's, up to
-- likeness, its marks are of the goals that these lines show, and what it keeps are the clauses that they add.
pub record HasTaken (e : Extended) (lines : List ClauseLine) (live : List Clause) (k : Checking) : Type 0 where
  pub lawful : TakeClauses e (gate_clauses e.gates) lines live
  pub alike : HaveSameCopies k.live live
  pub shown : HasShown k lines
  pub added : HasAdded k lines

-- Lawful lines show each goal of the extended graph, and these clauses are those that they add, where so much of them is kept, as sets.
pub record IsShownOver (e : Extended) (keeps : Keeps) (clauses : List Clause) : Type 0 where
  pub lines : List ClauseLine
  pub lawful : AreLawfulClauseLines e lines
  pub same : AreSameSets clauses (kept keeps (added lines))

-- Where a checker has taken lines and no goal is unshown, the old and the new output of each replaced column are equal on every
-- evaluation.
abbrev pub GoalsJoinColumns : Type 0
GoalsJoinColumns = (e : Extended) (lines : List ClauseLine) (live : List Clause) (k : Checking) → HasTaken e lines live k → AreGoalsOf e k.goals →
    IsLeastUnshown k.goals k.shown None → Always e.gates (AgreeOnColumns e)
