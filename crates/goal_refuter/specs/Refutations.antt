-- Logs that refute the negations of goals, one after the other.
use Rattle.std.specs.Prelude.{◌≡◌, ℕ, ◌+◌, ◌<◌, ◌≤◌, List, [], ◌∷◌, ◌++◌, length, take}
use Rattle.std.specs.List.{All, HoldsAt, filter_map, flat_map}
use Rattle.graph_core.specs.Graph.Extended.{Column, Extended}
use Rattle.clause_core.specs.Clause.{Clause, IsClauseInRange, SameSet}
use Rattle.clause_core.specs.ClauseLines.{ClauseLine, added, clause_in}
use Rattle.clause_core.specs.GateClauses.{gate_clauses, goals_of}
use Rattle.clause_core.specs.Likeness.{AreSameSets}
use Rattle.clause_core.specs.Log.{AreLogLines, AreRunsSpaced, IsLawfulLog, first_spacing}
use Rattle.clause_core.specs.UnitPropagation.{IsRup}
use Rattle.clause_core.specs.declared.line.Line.TheVariants.{Add}
use Rattle.cdcl_solver.specs.Logs.{LogView}

-- the goals of a column that no constant has met
abbrev pub unmet_of : Column → List Clause
unmet_of c = filter_map (λ goal. goal) (goals_of c)

-- those of all replaced columns, column by column
abbrev pub unmet_goals : Extended → List Clause
unmet_goals e = flat_map unmet_of e.replaced

-- Lines over a clause list that refute the negations of goals: lemmas, then the first goal, which follows from the clauses that are live then, and so
-- on, and after the last goal lemmas again.
abbrev pub AreRefuted : List Clause → List Clause → List Clause → List ClauseLine → List Clause → Type 0
AreRefuted given own [] lines left = AreLogLines given [] own lines left
AreRefuted given own (goal ∷ goals) lines left = (before after : List ClauseLine) × (live : List Clause) × (c : Clause) ×
    (lines ≡ before ++ Add c ∷ after) × SameSet c goal × AreLogLines given [] own before live × IsRup (live ++ given) c ×
    AreRefuted given (c ∷ live) goals after left

-- A log over the clauses of the gates that refutes the negations of the first goals that aren't met, by so many lemmas beside these goals.
pub record IsRefutationLog (e : Extended) (goals lemmas : ℕ) (log : LogView) : Type 0 where
  pub some : goals ≤ length (unmet_goals e)
  pub refuted : AreRefuted (gate_clauses e.gates) [] (take goals (unmet_goals e)) log.lines log.left
  pub spaced : AreRunsSpaced first_spacing log.lines
  pub exactly : length (added log.lines) ≡ lemmas + goals
  pub in_range : All (λ x. IsClauseInRange e.max (clause_in x)) log.lines

-- As many lemmas as there may be conflicts, and the next goal doesn't follow by unit propagation from what they left live.
pub record IsSpent (e : Extended) (conflicts lemmas goal : ℕ) (log : LogView) : Type 0 where
  pub spent : lemmas ≡ conflicts
  pub log_is : IsRefutationLog e goal lemmas log
  pub within : goal < length (unmet_goals e)
  pub next : HoldsAt (λ c. ¬ (IsRup (log.left ++ gate_clauses e.gates) c)) (unmet_goals e) goal

-- Lines that refute goals are a lawful log with clauses of the goals' sets.
abbrev pub RefutedIsLawful : Type 0
RefutedIsLawful = (given goals : List Clause) (lines : List ClauseLine) (left : List Clause) → AreRefuted given [] goals lines left →
    AreRunsSpaced first_spacing lines → (shown : List Clause) × AreSameSets shown goals × IsLawfulLog given shown lines left
