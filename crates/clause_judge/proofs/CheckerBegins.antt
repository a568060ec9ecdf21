-- A checker that begins with the clauses of an extended graph's gates, and clauses in range.
use Rattle.std.specs.Prelude.{◌≡◌, ℕ, zero, suc, Bool, true, false, List, [], ◌∷◌, slice_index_or}
use Rattle.std.specs.List.{All, AllByRecursion}
use Rattle.std.proofs.Common.{refl, sym, subst, ◌∙◌}
use Rattle.std.proofs.lemmas.List.Elements.{recursion_from_All}
use Rattle.graph_core.specs.Graph.Extended.{Extended}
use Rattle.clause_core.specs.Clause.{Clause, IsClauseInRange}
use Rattle.clause_core.specs.ClauseLines.{ClauseLine, clause_in}
use Rattle.clause_core.specs.GateClauses.{gate_clauses}
use Rattle.clause_core.specs.Likeness.{AreSameSets}
use Rattle.clause_core.specs.declared.line.Line.TheVariants.{Add, Delete}
use Rattle.clause_core.proofs.CallerLemmas.{any_nil}
use Rattle.miter_encoder.proofs.GateRanges.{range_subset}
use Rattle.drup_checker.specs.Checking.{Checking, kept, shown_at}
use Rattle.drup_checker.specs.declared.keeps.Keeps.{Keeps}
use Rattle.drup_checker.specs.declared.keeps.Keeps.TheVariants as keep
use Rattle.drup_checker.proofs.StepLaws.{steps_are_lawful}
use Rattle.drup_text.specs.LineTexts.{IsClauseLineInRange, IsSameClauseLine}
use Rattle.clause_judge.specs.Taking.{HasTaken}

-- ---- ranges

-- the line at hand is in range where that of the text is
pub range_of : (max : ℕ) (x y : ClauseLine) → IsSameClauseLine x y → IsClauseLineInRange max x → IsClauseInRange max (clause_in y)
range_of max (Add c) (Add d) same h = range_subset max c d same.1 h
range_of max (Add c) (Delete d) same h = absurd same
range_of max (Delete c) (Add d) same h = absurd same
range_of max (Delete c) (Delete d) same h = range_subset max c d same.1 h

-- ---- the beginning

none_shown : (shown : List Bool) (i : ℕ) → AllByRecursion (λ b. b ≡ false) shown → slice_index_or shown i false ≡ false
none_shown [] i h = refl
none_shown (b ∷ shown) zero h = h.0
none_shown (b ∷ shown) (suc i) h = none_shown shown i h.1

-- no clause is kept of none
pub none_kept : (keeps : Keeps) → AreSameSets [] (kept keeps [])
none_kept keep.Nothing = tt
none_kept keep.Clauses = tt
none_kept keep.Chains = tt

pub begins : (e : Extended) (cs : List Clause) (k : Checking) → AreSameSets cs (gate_clauses e.gates) → k.live ≡ cs → k.added ≡ [] → All (λ b. b ≡ false) k.shown → HasTaken e [] (gate_clauses e.gates) k
begins e cs k same starts nothing none = record {
  lawful = refl;
  alike = steps_are_lawful.begins k cs (gate_clauses e.gates) starts same;
  shown = λ i below.
      let no' : shown_at k.shown i ≡ false = none_shown k.shown i (recursion_from_All (λ b. b ≡ false) k.shown none) in
      ((λ h. let e : false ≡ true = sym no' ∙ h in absurd (cc)), λ h. absurd (any_nil _ h));
  added = subst (λ (xs : List Clause). AreSameSets xs (kept k.keeps [])) (sym nothing) (none_kept k.keeps);
}
