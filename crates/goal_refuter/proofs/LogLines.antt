-- Lines of a log that refute goals: over another list with the same sets, with more lemmas or a goal after them, and what they come to.
use Rattle.std.specs.Prelude.{◌≡◌, suc, ◌+◌, ◌*◌, ◌≤◌, List, [], ◌∷◌, ◌++◌, length}
use Rattle.std.specs.List.{Any, AllByRecursion, Contains, fold}
use Rattle.std.proofs.Common.{refl, sym, ap, subst, ◌∙◌, arith, inl, inr, ⊎_elim, append_assoc}
use Rattle.std.proofs.lemmas.List.{length-append}
use Rattle.std.proofs.lemmas.List.Elements.{All-from_recursion, recursion_from_All}
use Rattle.graph_core.proofs.OfGraphs.CallerLemmas.{any_back, any_here, any_there}
use Rattle.clause_core.specs.Clause.{Clause, IsSubset, SameSet}
use Rattle.clause_core.specs.ClauseLines.{ClauseLine, added}
use Rattle.clause_core.specs.Likeness.{AreSameSets}
use Rattle.clause_core.specs.Log.{AreLogLines, AreRunsSpaced, IsLawfulLog, IsLemma, Spacing, spacing_after}
use Rattle.clause_core.specs.UnitPropagation.{IsRup}
use Rattle.clause_core.specs.declared.line.Line.TheVariants.{Add, Delete}
use Rattle.clause_core.proofs.CallerLemmas.{alike_rup, contains_cases, contains_here, contains_nil, contains_there, same_alike}
use Rattle.clause_core.proofs.Copies.{same_self}
use Rattle.goal_refuter.specs.Refutations.{AreRefuted, RefutedIsLawful}
use Rattle.goal_refuter.proofs.Lists.{same_behind}

-- ---- over another list with the same sets

pub rup_over : (given other own : List Clause) (c d : Clause) → AreSameSets given other → SameSet c d → IsRup (own ++ given) c → IsRup (own ++ other) d
rup_over given other own c d same is h = alike_rup (own ++ given) (own ++ other) c d (same_alike (own ++ given) (own ++ other) (same_behind own given other same)) is h

none_within : (c : Clause) (xs ys : List Clause) → AreSameSets xs ys → AllByRecursion (λ d. ¬ (IsSubset d c)) xs → AllByRecursion (λ d. ¬ (IsSubset d c)) ys
none_within c [] [] same h = tt
none_within c [] (y ∷ ys) same h = absurd same
none_within c (x ∷ xs) [] same h = absurd same
none_within c (x ∷ xs) (y ∷ ys) same h = (λ sub. h.0 (λ l i. sub l (same.0.0 l i)), none_within c xs ys same.1 h.1)

lemma_over : (given other own : List Clause) (c : Clause) → AreSameSets given other → IsLemma (own ++ given) c → IsLemma (own ++ other) c
lemma_over given other own c same h = record {
  rup = rup_over given other own c c same (same_self c) h.rup;
  no_tautology = h.no_tautology;
  new = All-from_recursion (λ d. ¬ (IsSubset d c)) (own ++ other)
      (none_within c (own ++ given) (own ++ other) (same_behind own given other same) (recursion_from_All (λ d. ¬ (IsSubset d c)) (own ++ given) h.new));
}

pub log_over : (given other goals own : List Clause) (lines : List ClauseLine) (left : List Clause) → AreSameSets given other → AreLogLines given goals own lines left → AreLogLines other goals own lines left
log_over given other goals own [] left same h = h
log_over given other goals own (Add c ∷ lines) left same h = (
  h.0,
  (⊎_elim (λ l. inl (lemma_over given other own c same l)) (λ g. inr (g.0, rup_over given other own c c same (same_self c) g.1)) h.1.0, h.1.1),
  log_over given other goals h.0 lines left same h.2,
)
log_over given other goals own (Delete c ∷ lines) left same h = (h.0, h.1, log_over given other goals h.0 lines left same h.2)

-- ---- lines after lines

pub log_joins : (given goals own : List Clause) (xs : List ClauseLine) (mid : List Clause) (ys : List ClauseLine) (left : List Clause) → AreLogLines given goals own xs mid → AreLogLines given goals mid ys left → AreLogLines given goals own (xs ++ ys) left
log_joins given goals own [] mid ys left h k = subst (λ z. AreLogLines given goals z ys left) h k
log_joins given goals own (x ∷ xs) mid ys left h k = (h.0, h.1, log_joins given goals h.0 xs mid ys left h.2 k)

pub spaced_joins : (s : Spacing) (xs ys : List ClauseLine) → AreRunsSpaced s xs → AreRunsSpaced (fold spacing_after s xs) ys → AreRunsSpaced s (xs ++ ys)
spaced_joins s [] ys h k = k
spaced_joins s (x ∷ xs) ys h k = (h.0, spaced_joins (spacing_after s x) xs ys h.1 k)

pub added_joins : (xs ys : List ClauseLine) → added (xs ++ ys) ≡ added xs ++ added ys
added_joins [] ys = refl
added_joins (Add c ∷ xs) ys = ap (λ (z : List Clause). c ∷ z) (added_joins xs ys)
added_joins (Delete c ∷ xs) ys = added_joins xs ys

pub added_push : (lines : List ClauseLine) (c : Clause) → length (added (lines ++ Add c ∷ [])) ≡ length (added lines) + 1
added_push lines c = ap length (added_joins lines (Add c ∷ [])) ∙ length-append (added lines) (c ∷ [])

pub added_more : (xs ys : List ClauseLine) → length (added xs) ≤ length (added (xs ++ ys))
added_more xs ys = omega (arith, ap length (added_joins xs ys), length-append (added xs) (added ys))

-- ---- lines that refute goals

pub refuted_more : (given own goals : List Clause) (lines : List ClauseLine) (left : List Clause) (more : List ClauseLine) (next : List Clause) → AreRefuted given own goals lines left → AreLogLines given [] left more next →
    AreRefuted given own goals (lines ++ more) next
refuted_more given own [] lines left more next h k = log_joins given [] own lines left more next h k
refuted_more given own (g ∷ goals) lines left more next h k = (
  h.0,
  h.1 ++ more,
  h.2,
  h.3,
  ap (λ (z : List ClauseLine). z ++ more) h.4 ∙ append_assoc h.0 (Add h.3 ∷ h.1) more,
  h.5,
  h.6,
  h.7,
  refuted_more given (h.3 ∷ h.2) goals h.1 left more next h.8 k,
)

pub refuted_next : (given own goals : List Clause) (lines : List ClauseLine) (left : List Clause) (goal c : Clause) → AreRefuted given own goals lines left → SameSet c goal → IsRup (left ++ given) c →
    AreRefuted given own (goals ++ goal ∷ []) (lines ++ Add c ∷ []) (c ∷ left)
refuted_next given own [] lines left goal c h same rup = (lines, [], left, c, refl, same, h, rup, refl)
refuted_next given own (g ∷ goals) lines left goal c h same rup = (
  h.0,
  h.1 ++ Add c ∷ [],
  h.2,
  h.3,
  ap (λ (z : List ClauseLine). z ++ Add c ∷ []) h.4 ∙ append_assoc h.0 (Add h.3 ∷ h.1) (Add c ∷ []),
  h.5,
  h.6,
  h.7,
  refuted_next given (h.3 ∷ h.2) goals h.1 left goal c h.8 same rup,
)

-- ---- they are lawful

more_goals : (given few many own : List Clause) (lines : List ClauseLine) (left : List Clause) → ((c : Clause) → Contains few c → Contains many c) → AreLogLines given few own lines left → AreLogLines given many own lines left
more_goals given few many own [] left wider h = h
more_goals given few many own (Add c ∷ lines) left wider h = (h.0, (⊎_elim (λ l. inl l) (λ g. inr (wider c g.0, g.1)) h.1.0, h.1.1), more_goals given few many h.0 lines left wider h.2)
more_goals given few many own (Delete c ∷ lines) left wider h = (h.0, h.1, more_goals given few many h.0 lines left wider h.2)

refuted_lines : (given own goals : List Clause) (lines : List ClauseLine) (left : List Clause) → AreRefuted given own goals lines left → (shown : List Clause) × AreSameSets shown goals × AreLogLines given shown own lines left
refuted_lines given own [] lines left h = ([], tt, h)
refuted_lines given own (g ∷ goals) lines left h =
    let more = refuted_lines given (h.3 ∷ h.2) goals h.1 left h.8 in
    let shown : List Clause = h.3 ∷ more.0 in
    let front = more_goals given [] shown own h.0 h.2 (λ c i. absurd (contains_nil c i)) h.6 in
    let back = more_goals given more.0 shown (h.3 ∷ h.2) h.1 left (λ c i. contains_there h.3 more.0 c i) more.2 in (
      shown,
      (h.5, more.1),
      subst (λ z. AreLogLines given shown own z left) (sym h.4) (log_joins given shown own h.0 h.2 (Add h.3 ∷ h.1) left front (h.3 ∷ h.2, (inr (contains_here h.3 more.0, h.7), refl), back)),
    )

pub refuted_is_lawful : RefutedIsLawful
refuted_is_lawful given goals lines left h spaced = let m = refuted_lines given [] goals lines left h in (m.0, m.1, record { lines_lawful = m.2; spaced = spaced })

-- each goal is shown by an added clause
pub refuted_shows : (given own goals : List Clause) (lines : List ClauseLine) (left : List Clause) → AreRefuted given own goals lines left → (goal : Clause) → Contains goals goal → Any (λ c. IsSubset c goal) (added lines)
refuted_shows given own [] lines left h goal i = absurd (contains_nil goal i)
refuted_shows given own (g ∷ goals) lines left h goal i =
    let P : Clause → Type 0 = λ c. IsSubset c goal in
    subst (λ z. Any P (added z)) (sym h.4)
    (subst (Any P) (sym (added_joins h.0 (Add h.3 ∷ h.1)))
    (any_back P (added h.0) (h.3 ∷ added h.1)
    (⊎_elim (λ e. any_here P h.3 (added h.1) (subst (IsSubset h.3) e h.5.0)) (λ r. any_there P h.3 (added h.1) (refuted_shows given (h.3 ∷ h.2) goals h.1 left h.8 goal r)) (contains_cases g goals goal i))))

-- A line adds a clause or deletes an added one, so there are at most twice as many as added clauses.
log_lines : (given goals own : List Clause) (lines : List ClauseLine) (left : List Clause) → AreLogLines given goals own lines left → length lines + length left ≡ 2 * length (added lines) + length own
log_lines given goals own [] left h = let same : length left ≡ length own = ap length h in omega arith
log_lines given goals own (Add c ∷ lines) left h = let more = log_lines given goals h.0 lines left h.2 in let next : length h.0 ≡ suc (length own) = ap length h.1.1 in omega arith
log_lines given goals own (Delete c ∷ lines) left h =
    let more = log_lines given goals h.0 lines left h.2 in
    let r = h.1 in
    let before : length own ≡ length r.0 + suc (length r.1) = ap length r.4 ∙ length-append r.0 (r.2 ∷ r.1) in
    let after : length h.0 ≡ length r.0 + length r.1 = ap length r.5 ∙ length-append r.0 r.1 in
    omega arith

pub few_lines : (given goals : List Clause) (lines : List ClauseLine) (left : List Clause) → IsLawfulLog given goals lines left → length lines ≤ 2 * length (added lines)
few_lines given goals lines left h = let all = log_lines given goals [] lines left h.lines_lawful in omega arith
