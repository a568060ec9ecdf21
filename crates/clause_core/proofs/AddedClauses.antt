-- Clauses that lawful lines add hold where the live ones do, and goals that they show make the old and the new outputs equal.
use Rattle.std.specs.Prelude.{◌≡◌, ◌≢◌, ℕ, zero, suc, ◌<◌, true, List, [], ◌∷◌, ◌++◌, length, ℤ, pos, slice_index_or}
use Rattle.std.specs.declared.option.Option.TheVariants.{None, Some}
use Rattle.std.specs.List.{All, AllByRecursion}
use Rattle.std.proofs.Common.{refl, sym, ap, subst, ◌∙◌, arith}
use Rattle.std.proofs.lemmas.List.Elements.{All-from_recursion, recursion_from_All, All-contains}
use Rattle.std.proofs.lemmas.List.Folds.{list_any_at}
use Rattle.graph_core.specs.declared.gate.Gate.{Gate}
use Rattle.graph_core.specs.Graph.Assignments.{Assignment}
use Rattle.graph_core.specs.Graph.{IsEvaluation}
use Rattle.graph_core.specs.Graph.Extended.{Extended}
use Rattle.graph_core.proofs.OfGraphs.CallerLemmas.{all_join, all_split}
use Rattle.clause_core.specs.Clause.{Clause, signed, holds, HasSigns, IsClauseInRange, SameSet, SubsetHolds}
use Rattle.clause_core.specs.GateClauses.{gate_clauses, goals_of}
use Rattle.clause_core.specs.UnitPropagation.{IsRup}
use Rattle.clause_core.specs.ClauseLines.{ClauseLine, clause_in, added, Removes, AreLawfulClauses, AddedHold, AddedAreFacts, ShownIsMet, ColumnsAgree}
use Rattle.clause_core.specs.declared.line.Line.TheVariants.{Add, Delete}
use Rattle.clause_core.specs.Facts.{FactsStay, IsClauseFact}
use Rattle.clause_core.proofs.RupSoundness.{rup_is_sound, true_at}
use Rattle.clause_core.proofs.GateClauseLaws.{gate_clauses_hold, gate_clauses_signed, goals_agree}

-- ---- lines

-- a clause with signs that holds at the assignment
abbrev Good : Assignment → Clause → Type 0
Good σ c = HasSigns c × (holds σ c ≡ true)

rup_good : (σ : Assignment) (live : List Clause) (c : Clause) → AllByRecursion (Good σ) live → HasSigns c → IsRup live c → Good σ c
rup_good σ live c good signs rup = (
  signs,
  rup_is_sound live c σ
      (λ k d h. (All-from_recursion (Good σ) live good k d h).0) signs rup
      (λ k d h. (All-from_recursion (Good σ) live good k d h).1),
)

removes_good : (σ : Assignment) (live : List Clause) (c : Clause) (left : List Clause) → AllByRecursion (Good σ) live → Removes live c left → AllByRecursion (Good σ) left
removes_good σ live c left good r =
    let parts = all_split (Good σ) r.0 (r.2 ∷ r.1) (subst (AllByRecursion (Good σ)) r.4 good) in
    subst (AllByRecursion (Good σ)) (sym r.5) (all_join (Good σ) r.0 r.1 parts.0 parts.1.1)

-- each clause that lawful lines add holds where the live clauses do
added_good : (σ : Assignment) (live : List Clause) (lines : List ClauseLine) → AllByRecursion (Good σ) live → AllByRecursion (λ x. HasSigns (clause_in x)) lines →
    AreLawfulClauses live lines → AllByRecursion (Good σ) (added lines)
added_good σ live [] good signs h = tt
added_good σ live (Add c ∷ lines) good signs h =
    let now = rup_good σ live c good signs.0 h.0 in
    (now, added_good σ (c ∷ live) lines (now, good) signs.1 h.1)
added_good σ live (Delete c ∷ lines) good signs h = added_good σ h.0 lines (removes_good σ live c h.0 good h.1) signs.1 h.2

pub added_hold : AddedHold
added_hold live lines σ good signs lawful =
    All-from_recursion (Good σ) (added lines) (added_good σ live lines (recursion_from_All (Good σ) live good) (recursion_from_All (λ x. HasSigns (clause_in x)) lines signs) lawful)

lines_signed : (max : ℕ) (lines : List ClauseLine) → All (λ x. IsClauseInRange max (clause_in x)) lines → All (λ x. HasSigns (clause_in x)) lines
lines_signed max lines in_range k d h i l w = (in_range k d h i l w).0

added_on : (e : Extended) (lines : List ClauseLine) (σ : Assignment) → All (λ x. IsClauseInRange e.max (clause_in x)) lines → AreLawfulClauses (gate_clauses e.gates) lines → IsEvaluation e.gates σ → All (Good σ) (added lines)
added_on e lines σ in_range lawful evaluates =
    added_hold (gate_clauses e.gates) lines σ (All-from_recursion (Good σ) (gate_clauses e.gates) (gate_clauses_hold σ e.gates evaluates)) (lines_signed e.max lines in_range) lawful

pub added_are_facts : AddedAreFacts
added_are_facts e lines in_range lawful = λ k d h σ evaluates. (added_on e lines σ in_range lawful evaluates k d h).1

-- ---- goals

pub subset_holds : SubsetHolds
subset_holds c goal σ sub h =
    let some = true_at σ c h in
    let in' = sub some.0 some.1 in
    list_any_at (signed σ) goal in'.0 some.0 in'.1 (ap (signed σ) in'.2 ∙ some.2)

pub shown_is_met : ShownIsMet
shown_is_met shows None σ h good = tt
shown_is_met shows (Some goal) σ h good =
    let c = h.1 in
    let c_holds = All-contains (λ d. holds σ d ≡ true) shows c good (h.0, h.2, h.3) in
    All-from_recursion (λ d. holds σ d ≡ true) (goal ∷ []) (subset_holds c goal σ h.4 c_holds, tt)

pub columns_agree : ColumnsAgree
columns_agree e lines lawful σ evaluates =
    let good = added_on e lines σ lawful.in_range lawful.lawful evaluates in
    let hold = λ (k : ℕ) (d : Clause) (h : k < length (added lines)). (good k d h).1 in
    λ k d h.
    let c = slice_index_or e.replaced k d in
    goals_agree c σ (λ i o w. shown_is_met (added lines) (slice_index_or (goals_of c) i o) σ (lawful.goals k d h i o w) hold)

-- ---- facts

facts_at : (gates : List Gate) (live : List Clause) (σ : Assignment) → All (IsClauseFact gates) live → IsEvaluation gates σ → AllByRecursion (Good σ) live
facts_at gates [] σ h evaluates = tt
facts_at gates (c ∷ live) σ h evaluates =
    let all = recursion_from_All (IsClauseFact gates) (c ∷ live) h in
    ((all.0.signs, all.0.always σ evaluates), facts_at gates live σ (All-from_recursion (IsClauseFact gates) live all.1) evaluates)

fact_without : (P : Clause → Type 0) (before after : List Clause) (d : Clause) → AllByRecursion P (before ++ d ∷ after) → AllByRecursion P (before ++ after)
fact_without P [] after d h = h.1
fact_without P (b ∷ before) after d h = (h.0, fact_without P before after d h.1)

-- signs belong to the set
same_signs : (c d : Clause) → SameSet c d → HasSigns c → HasSigns d
same_signs c d same signs k l h =
    let x = slice_index_or d k l in
    All-contains (λ m. m ≢ pos 0) c x signs (same.1 x (k, h, inside d k l h))
  where
    inside : (xs : List ℤ) (i : ℕ) (y : ℤ) → i < length xs → slice_index_or xs i (slice_index_or xs i y) ≡ slice_index_or xs i y
    inside [] i y h = absurd (omega arith)
    inside (x ∷ xs) zero y h = refl
    inside (x ∷ xs) (suc i) y h = inside xs i y (omega arith)

module _ (gates : List Gate) where
  gates_are : (cs : List Clause) → ((σ : Assignment) → IsEvaluation gates σ → AllByRecursion (Good σ) cs) → AllByRecursion HasSigns cs → AllByRecursion (IsClauseFact gates) cs
  gates_are [] good signs = tt
  gates_are (c ∷ cs) good signs = (record { signs = signs.0; always = λ σ evaluates. (good σ evaluates).0.1 }, gates_are cs (λ σ evaluates. (good σ evaluates).1) signs.1)

  follows : (live : List Clause) (c : Clause) → All (IsClauseFact gates) live → HasSigns c → IsRup live c → IsClauseFact gates c
  follows live c facts signs rup =
      record { signs = signs; always = λ σ evaluates. (rup_good σ live c (facts_at gates live σ facts evaluates) signs rup).1 }

  stays : (live : List Clause) (c : Clause) (left : List Clause) → All (IsClauseFact gates) live → Removes live c left → All (IsClauseFact gates) left
  stays live c left facts r =
      All-from_recursion (IsClauseFact gates) left
      (subst (AllByRecursion (IsClauseFact gates)) (sym r.5) (fact_without (IsClauseFact gates) r.0 r.1 r.2 (subst (AllByRecursion (IsClauseFact gates)) r.4 (recursion_from_All (IsClauseFact gates) live facts))))

pub facts_stay : FactsStay
facts_stay = record {
  gates_are = λ gates. All-from_recursion (IsClauseFact gates) (gate_clauses gates) (gates_are gates (gate_clauses gates) (λ σ evaluates. gate_clauses_hold σ gates evaluates) (gate_clauses_signed gates));
  added = λ gates live c facts signs rup. follows gates live c facts signs rup;
  removed = λ gates live c left facts r. stays gates live c left facts r;
  same = λ gates c d set fact. record { signs = same_signs c d set fact.signs; always = λ σ evaluates. subset_holds c d σ set.0 (fact.always σ evaluates) };
}
