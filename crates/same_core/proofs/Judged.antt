-- The first line of a clause file, and the whole file by what stands after it.
use Rattle.std.specs.Prelude.{◌≡◌, ◌≢◌, ℕ, ◌+◌, ◌++◌, ◌≤◌, List, length, IfSome}
use Rattle.std.specs.declared.option.Option.{Option}
use Rattle.std.proofs.Common.{refl, ap, subst, inl, inr}
use Rattle.graph_core.specs.Graph.Extended.{Extended}
use Rattle.graph_core.specs.Text.JudgedLines.{IsTooLong, Lengths}
use Rattle.clause_core.specs.ClauseLines.{ClauseLine, IsGoalRefusal}
use Rattle.clause_core.specs.GateClauses.{gate_clauses}
use Rattle.clause_judge.specs.ClauseBody.{HasPassed, IsRestFail, IsShownBody, Pass}
use Rattle.clause_judge.specs.ClauseLines.{answer_of_line}
use Rattle.clause_judge.specs.LineRefusals.{IsRefusedLines}
use Rattle.clause_judge.specs.declared.fail.ClauseFail.{ClauseFail}
use Rattle.clause_judge.proofs.Fails.{fails_before}
use Rattle.clause_judge.proofs.Told.{told_more, told_of}
use Rattle.mv_text.specs.CertificateFiles.{FileState, HasFirstLine, IsFirstRefusal}
use Rattle.drup_text.specs.HeaderRefusal.{LineCause, Text, TooLong}
use Rattle.drup_text.specs.SameFiles.{same_line}
use Rattle.drup_text.specs.HeaderSteps.{IsLongIn}
use Rattle.mv_desk.specs.View.{View}
use Rattle.mv_text.specs.declared.line_fail.LineFail.{LineFail}
use Rattle.mv_text.specs.declared.line_fail.LineFail.TheVariants as fail
use Rattle.same_core.specs.Certificates.{HasLawfulMergedLines, IsLawful, IsMergedLineRefusal, IsOutputRefusal}
use Rattle.same_core.specs.Fails.{IsPairClauseFail}
use Rattle.same_core.proofs.Wholes.{body_lawful}

at_first : (line : ℕ) (cause : LineCause) → line ≡ 1 → ◌≡◌ {A = ℕ × LineCause} (line, cause) (1, cause)
at_first line cause first = let at : ℕ → ℕ × LineCause = λ n. (n, cause) in ap at first

module _ (lengths : Lengths) (e : Extended) where
  -- the first line is refused
  pub start_fails : (text : Option (List ℕ)) (before now : View) (line : ℕ) (why : LineFail) → line ≡ 1 → IsFirstRefusal same_line lengths text before.read_faults now.read_faults why → IsPairClauseFail lengths e text before now (answer_of_line line why)
  start_fails text before now line fail.Text first h =
      told_more text (λ bytes. ¬ (IsTooLong lengths (length bytes) bytes) × ((body : List ℕ) → bytes ≢ same_line ++ body)) (λ bytes. IsMergedLineRefusal lengths e bytes (line, Text)) (λ bytes k. inr (k.0, inl (k.1, at_first line Text first))) h
  start_fails text before now line fail.Range first h = absurd h
  start_fails text before now line fail.Fault first h = h
  start_fails text before now line fail.TooLong first h =
      (refl, told_more text (λ bytes. IsTooLong lengths (length bytes) bytes) (λ bytes. (n : ℕ) × IsMergedLineRefusal lengths e bytes (n, TooLong)) (λ bytes k. (1, inl (k, refl))) h)
  start_fails text before now line fail.Memory first h = tt

  -- ---- what stands after it

  module _ (file : FileState) (same : file.lines.lengths ≡ lengths) (number : file.number ≡ 1) (text behind : Option (List ℕ)) (header : IfSome text (λ bytes. HasFirstLine same_line file.lines bytes behind)) where
    module _ (bytes : List ℕ) (h : HasFirstLine same_line file.lines bytes behind) where
      whole : (P : (List ℕ → Type 0) → Type 0) → P (IsLongIn file.lines h.body) → P (IsTooLong lengths (length bytes))
      whole P k = subst (λ (z : Lengths). P (IsTooLong z (length bytes))) same (subst (λ (n : ℕ). P (IsTooLong file.lines.lengths n)) h.taken k)

      short : ¬ (IsTooLong lengths (length bytes) bytes)
      short = subst (λ (z : Lengths). ¬ (IsTooLong z (length bytes) bytes)) same h.short

      good : (xs : List ClauseLine) → HasPassed e file.lines xs h.body → HasLawfulMergedLines lengths e bytes xs
      good xs k = body_lawful lengths e bytes h.body h.begins short (xs, whole (λ IsLong. Pass e IsLong xs (gate_clauses e.gates) h.body) k)

      refused : (p : ℕ × LineCause) → IsRefusedLines (IsLongIn file.lines h.body) e (file.number + 1) h.body p → IsMergedLineRefusal lengths e bytes p
      refused p k = inr (short, inr (h.body, h.begins, subst (λ (n : ℕ). IsRefusedLines (IsTooLong lengths (length bytes)) e (n + 1) h.body p) number (whole (λ IsLong. IsRefusedLines IsLong e (file.number + 1) h.body p) k)))

    pub text_is_lawful : IfSome behind (IsShownBody e file.lines) → IfSome text (IsLawful lengths e)
    text_is_lawful k = told_more text (λ bytes. HasFirstLine same_line file.lines bytes behind) (IsLawful lengths e) (λ bytes h.
        let there = told_of behind h.body (IsShownBody e file.lines) h.left k in
        record { lines = there.0; lawful = good bytes h there.0 there.1; shown = there.2 }) header

    told_refusal : (p : ℕ × LineCause) → IfSome behind (λ body. IsRefusedLines (IsLongIn file.lines body) e (file.number + 1) body p) → IfSome text (λ bytes. IsMergedLineRefusal lengths e bytes p)
    told_refusal p k = told_more text (λ bytes. HasFirstLine same_line file.lines bytes behind) (λ bytes. IsMergedLineRefusal lengths e bytes p)
        (λ bytes h. refused bytes h p (told_of behind h.body (λ body. IsRefusedLines (IsLongIn file.lines body) e (file.number + 1) body p) h.left k)) header

    long_refusal : IfSome behind (λ body. (n : ℕ) × IsRefusedLines (IsLongIn file.lines body) e (file.number + 1) body (n, TooLong)) → IfSome text (λ bytes. (n : ℕ) × IsMergedLineRefusal lengths e bytes (n, TooLong))
    long_refusal k = told_more text (λ bytes. HasFirstLine same_line file.lines bytes behind) (λ bytes. (n : ℕ) × IsMergedLineRefusal lengths e bytes (n, TooLong)) (λ bytes h.
        let there = told_of behind h.body (λ body. (n : ℕ) × IsRefusedLines (IsLongIn file.lines body) e (file.number + 1) body (n, TooLong)) h.left k in
        (there.0, refused bytes h (there.0, TooLong) there.1)) header

    output_refusal : (output : ℕ) → IfSome behind (λ body. (xs : List ClauseLine) × HasPassed e file.lines xs body × IsGoalRefusal e xs output) → IfSome text (λ bytes. IsOutputRefusal lengths e bytes output)
    output_refusal output k = told_more text (λ bytes. HasFirstLine same_line file.lines bytes behind) (λ bytes. IsOutputRefusal lengths e bytes output) (λ bytes h.
        let there = told_of behind h.body (λ body. (xs : List ClauseLine) × HasPassed e file.lines xs body × IsGoalRefusal e xs output) h.left k in
        (there.0, good bytes h there.0 there.1, there.2)) header

    pub rest_fails : (first before now : View) (given : ClauseFail) → first.read_faults ≤ before.read_faults → IsRestFail (file.number + 1) e file.lines behind before now given → IsPairClauseFail lengths e text first now given
    rest_fails first before now given later =
        fails_before text behind (λ body. IsRefusedLines (IsLongIn file.lines body) e (file.number + 1) body) (IsMergedLineRefusal lengths e) (λ body output. (xs : List ClauseLine) × HasPassed e file.lines xs body × IsGoalRefusal e xs output)
        (IsOutputRefusal lengths e) told_refusal long_refusal output_refusal first before now later given
