-- Lines that add and delete clauses, which of them are lawful, and the goals that they show.
use Rattle.std.specs.Prelude.{◌≡◌, ℕ, ◌≤◌, true, List, [], ◌∷◌, ◌++◌}
use Rattle.std.specs.declared.option.Option.{Option}
use Rattle.std.specs.declared.option.Option.TheVariants.{None, Some}
use Rattle.std.specs.List.{All, Any}
use Rattle.graph_core.specs.Graph.Assignments.{Assignment}
use Rattle.graph_core.specs.Graph.Extended.{AgreeOnColumns, Extended}
use Rattle.graph_core.specs.Text.JudgedLines.{IsExact}
use Rattle.mv_fact.specs.Always.{Always}
use Rattle.clause_core.specs.Clause.{Clause, HasSigns, IsClauseInRange, IsSubset, SameSet, holds}
use Rattle.clause_core.specs.GateClauses.{IsMet, gate_clauses, goals_of}
use Rattle.clause_core.specs.UnitPropagation.{IsRup}
use Rattle.clause_core.specs.declared.line.Line.{Line}
use Rattle.clause_core.specs.declared.line.Line.TheVariants.{Add, Delete}

-- A line adds a clause or deletes one.
abbrev pub ClauseLine : Type 0
ClauseLine = Line

-- the clause of a line
abbrev pub clause_in : ClauseLine → Clause
clause_in (Add c) = c
clause_in (Delete c) = c

-- the live clauses after one with the same set is removed
abbrev pub Removes : List Clause → Clause → List Clause → Type 0
Removes live c left = (before after : List Clause) × (d : Clause) × SameSet d c × (live ≡ before ++ d ∷ after) × (left ≡ before ++ after)

-- Each added clause follows from those live then by reverse unit propagation; each deletion removes a live one.
abbrev pub AreLawfulClauses : List Clause → List ClauseLine → Type 0
AreLawfulClauses live [] = Unit {0}
AreLawfulClauses live (Add c ∷ lines) = IsRup live c × AreLawfulClauses (c ∷ live) lines
AreLawfulClauses live (Delete c ∷ lines) = (left : List Clause) × Removes live c left × AreLawfulClauses left lines

-- the clauses that lines add, in order, also those deleted later
abbrev pub added : List ClauseLine → List Clause
added [] = []
added (Add c ∷ lines) = c ∷ added lines
added (Delete c ∷ lines) = added lines

-- A goal is met by a true constant, or shown by a clause with none but its literals.
abbrev pub IsShownBy : List Clause → Option Clause → Type 0
IsShownBy shows None = Unit {0}
IsShownBy shows (Some goal) = Any (λ c. IsSubset c goal) shows

-- an added clause of the lines shows it
abbrev pub IsShown : List ClauseLine → Option Clause → Type 0
IsShown lines goal = IsShownBy (added lines) goal

-- every goal of each replaced column is met or shown
abbrev pub AreGoalsShown : List ClauseLine → Extended → Type 0
AreGoalsShown lines e = All (λ c. All (IsShown lines) (goals_of c)) e.replaced

-- Lawful lines over an extended graph, which show each goal of its replaced columns.
pub record AreLawfulClauseLines (e : Extended) (lines : List ClauseLine) : Type 0 where
  pub in_range : All (λ x. IsClauseInRange e.max (clause_in x)) lines
  pub lawful : AreLawfulClauses (gate_clauses e.gates) lines
  pub goals : AreGoalsShown lines e

-- The goals are refused at the least column with a goal that isn't shown.
pub record IsGoalRefusal (e : Extended) (lines : List ClauseLine) (column : ℕ) : Type 0 where
  pub unshown : Any (λ c. (c.number ≡ column) × ¬ (All (IsShown lines) (goals_of c))) e.replaced
  pub least : All (λ c. ¬ (All (IsShown lines) (goals_of c)) → column ≤ c.number) e.replaced

-- ---- laws

-- Where each clause holds at an assignment, each that lawful lines add does.
abbrev pub AddedHold : Type 0
AddedHold = (live : List Clause) (lines : List ClauseLine) (σ : Assignment) →
    All (λ c. HasSigns c × (holds σ c ≡ true)) live → All (λ x. HasSigns (clause_in x)) lines →
    AreLawfulClauses live lines → All (λ c. HasSigns c × (holds σ c ≡ true)) (added lines)

-- The clauses that lawful lines add to those of an extended graph's gates hold on every evaluation.
abbrev pub AddedAreFacts : Type 0
AddedAreFacts = (e : Extended) (lines : List ClauseLine) → All (λ x. IsClauseInRange e.max (clause_in x)) lines →
    AreLawfulClauses (gate_clauses e.gates) lines →
    All (λ c. Always e.gates (λ σ. holds σ c ≡ true)) (added lines)

-- A goal that a clause shows holds where the clause does.
abbrev pub ShownIsMet : Type 0
ShownIsMet = (shows : List Clause) (goal : Option Clause) (σ : Assignment) → IsShownBy shows goal → All (λ c. holds σ c ≡ true) shows → IsMet σ goal

-- Lawful lines make the old and the new outputs equal on every evaluation.
abbrev pub ColumnsAgree : Type 0
ColumnsAgree = (e : Extended) (lines : List ClauseLine) → AreLawfulClauseLines e lines → Always e.gates (AgreeOnColumns e)

-- All goals are shown, or they are refused at one column, and never both.
abbrev pub GoalsAreExact : Type 0
GoalsAreExact = (e : Extended) (lines : List ClauseLine) → IsExact (AreGoalsShown lines e) (IsGoalRefusal e lines)
