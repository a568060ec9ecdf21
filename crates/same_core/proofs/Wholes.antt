-- A clause file of merged gates is lawful, or it has one first refusal; where it is lawful, the graphs agree.
use Rattle.std.specs.Prelude.{◌≡◌, ℕ, ◌⊎◌, List, ◌++◌, length, codes}
use Rattle.std.proofs.Common.{refl, ap, subst, inl, inr, ⊎_elim}
use Rattle.std.proofs.lemmas.List.Elements.{All-from_recursion, recursion_from_All}
use Rattle.graph_core.specs.Graph.Extended.{Extended}
use Rattle.graph_core.specs.Text.JudgedLines.{IsExact, IsTooLong, Lengths}
use Rattle.graph_core.proofs.OfGraphs.CallerLemmas.{Decided}
use Rattle.graph_core.proofs.OfTexts.CallerLemmas.{decided_long, exact_as, front_exact, none_in, short_rest, short_within, start_here, unless_exact, within_short}
use Rattle.clause_core.specs.Clause.{IsClauseInRange}
use Rattle.clause_core.specs.ClauseLines.{ClauseLine, IsGoalRefusal, clause_in}
use Rattle.clause_core.specs.GateClauses.{gate_clauses}
use Rattle.clause_core.proofs.AddedClauses.{columns_agree}
use Rattle.clause_core.proofs.Goals.{goals_are_exact}
use Rattle.clause_judge.specs.Faults.{ClauseFault, Goals, Line}
use Rattle.clause_judge.specs.LineRefusals.{IsRefusedLines}
use Rattle.clause_judge.proofs.ClauseRests.{Passes, lawful_passes, lines_exact, passes_lawful, passes_short, short_line}
use Rattle.drup_text.specs.HeaderRefusal.{Text, TooLong}
use Rattle.drup_text.specs.SameFiles.{same_line}
use Rattle.drup_text.proofs.SameHeaders.{one_same_file, written_same_is_read}
use Rattle.same_core.specs.Certificates.{CertificatesAreExact, HasLawfulMergedLines, IsLawful, IsMergedFileRefusal, IsMergedLineRefusal, LawfulGraphsAgree}
use Rattle.same_core.specs.Deciding.{WrittenIsLawful}
use Rattle.same_core.specs.Merged.{merged}
use Rattle.same_core.proofs.Merging.{merged_outputs_agree}

module _ (lengths : Lengths) (e : Extended) (bytes : List ℕ) where
  abbrev pub Long : List ℕ → Type 0
  Long left = IsTooLong lengths (length bytes) left

  pub long_or : (left : List ℕ) → Decided (Long left)
  long_or left = decided_long lengths (length bytes) left

  abbrev pub GoodLines : List ℕ → Type 0
  GoodLines body = (lines : List ClauseLine) × Passes e Long long_or lines (gate_clauses e.gates) body

  pub body_lawful : (body : List ℕ) → bytes ≡ same_line ++ body → ¬ (Long bytes) → (good : GoodLines body) → HasLawfulMergedLines lengths e bytes good.0
  body_lawful body is short good =
      let lawful = passes_lawful e Long long_or good.0 (gate_clauses e.gates) body good.1 in
      let whole = short_line Long bytes (codes "same 1") body is (none_in (codes "same 1") refl) short (passes_short e Long long_or good.0 (gate_clauses e.gates) body good.1) in
      record {
        text = (body, lawful.0, is);
        in_range = All-from_recursion (λ x. IsClauseInRange e.max (clause_in x)) good.0 lawful.1;
        lawful = lawful.2;
        within = short_within lengths bytes whole.0 whole.1;
      }

  abbrev HasLines : Type 0
  HasLines = (lines : List ClauseLine) × HasLawfulMergedLines lengths e bytes lines

  -- the lines are lawful, or there is one first refusal
  lines_are_exact : IsExact HasLines (IsMergedLineRefusal lengths e bytes)
  lines_are_exact =
      exact_as
      (λ good. (good.1.2.0, body_lawful good.1.0 good.1.1 good.0 good.1.2))
      (λ h. let short = within_short lengths bytes h.1.within in
      let text = h.1.text in (
        short bytes (start_here bytes),
        (
          text.0,
          text.2,
          (
            h.0,
            lawful_passes e Long long_or h.0 (gate_clauses e.gates) text.0 (text.1, recursion_from_All (λ x. IsClauseInRange e.max (clause_in x)) h.0 h.1.in_range, h.1.lawful)
                (short_rest Long bytes (codes "same 1") text.0 text.2 short),
          ),
        ),
      ))
      (λ p r. r) (λ p r. r)
      (unless_exact (1, TooLong) (⊎_elim inr inl (long_or bytes)) (λ h n. n h)
      (λ h. front_exact {Good = GoodLines} {Refused = IsRefusedLines Long e 2} same_line (1, Text) bytes (λ body. lines_exact e Long long_or 2 body)))

  -- ---- and their goals

  decide : IsLawful lengths e bytes ⊎ ((f : ClauseFault) × IsMergedFileRefusal lengths e bytes f)
  decide = ⊎_elim (λ l. goals l.0 l.1) (λ r. inr (Line r.0, r.1)) lines_are_exact.decided
    where
      goals : (lines : List ClauseLine) → HasLawfulMergedLines lengths e bytes lines → IsLawful lengths e bytes ⊎ ((f : ClauseFault) × IsMergedFileRefusal lengths e bytes f)
      goals lines h = ⊎_elim (λ shown. inl (record { lines = lines; lawful = h; shown = shown })) (λ r. inr (Goals r.0, (lines, h, r.1))) (goals_are_exact e lines).decided

  one_file : (xs ys : List ClauseLine) → HasLawfulMergedLines lengths e bytes xs → HasLawfulMergedLines lengths e bytes ys → xs ≡ ys
  one_file xs ys h i = one_same_file bytes xs ys h.text i.text

  not_both : (f : ClauseFault) → IsLawful lengths e bytes → IsMergedFileRefusal lengths e bytes f → ⊥
  not_both (Line p) s r = lines_are_exact.not_both p (s.lines, s.lawful) r
  not_both (Goals output) s r =
      (goals_are_exact e s.lines).not_both output s.shown (subst (λ z. IsGoalRefusal e z output) (one_file r.0 s.lines r.1 s.lawful) r.2)

  one_refusal : (a b : ClauseFault) → IsMergedFileRefusal lengths e bytes a → IsMergedFileRefusal lengths e bytes b → a ≡ b
  one_refusal (Line p) (Line q) h k = ap Line (lines_are_exact.one p q h k)
  one_refusal (Line p) (Goals c) h k = absurd (lines_are_exact.not_both p (k.0, k.1) h)
  one_refusal (Goals c) (Line q) h k = absurd (lines_are_exact.not_both q (h.0, h.1) k)
  one_refusal (Goals c) (Goals d) h k =
      ap Goals ((goals_are_exact e k.0).one c d (subst (λ z. IsGoalRefusal e z c) (one_file h.0 k.0 h.1 k.1) h.2) k.2)

pub certificates_are_exact : CertificatesAreExact
certificates_are_exact lengths e bytes = record { decided = decide lengths e bytes; not_both = not_both lengths e bytes; one = one_refusal lengths e bytes }

pub lawful_graphs_agree : LawfulGraphsAgree
lawful_graphs_agree lengths g h bytes well other shape lawful =
    merged_outputs_agree g h well other shape
    (columns_agree (merged g h) lawful.lines (record { in_range = lawful.lawful.in_range; lawful = lawful.lawful.lawful; goals = lawful.shown }))

pub written_is_lawful : WrittenIsLawful
written_is_lawful lengths g h conflicts lines w within = record {
  lines = lines;
  lawful = record { text = written_same_is_read lines w.writable; in_range = w.lawful.in_range; lawful = w.lawful.lawful; within = within };
  shown = w.lawful.goals;
}
