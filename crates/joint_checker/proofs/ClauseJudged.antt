-- The header of a clause file, and the whole file by what stands after it.
use Rattle.std.specs.Prelude.{◌≡◌, ℕ, ◌+◌, ◌≤◌, Bool, List, length, IfSome}
use Rattle.std.specs.declared.option.Option.{Option}
use Rattle.std.proofs.Common.{refl, subst}
use Rattle.graph_core.specs.Graph.Extended.{Extended}
use Rattle.graph_core.specs.Graph.{Aig}
use Rattle.graph_core.specs.Text.JudgedLines.{IsTooLong, Lengths}
use Rattle.clause_core.specs.Clause.{Clause}
use Rattle.clause_core.specs.ClauseLines.{ClauseLine, IsGoalRefusal, added}
use Rattle.clause_core.specs.GateClauses.{gate_clauses}
use Rattle.drup_checker.specs.declared.keeps.Keeps.TheVariants as keep
use Rattle.drup_text.specs.declared.head.Header.{Header}
use Rattle.mv_text.specs.CertificateFiles.{FileState}
use Rattle.drup_text.specs.PassingHeaders.{HasClauseHeader, IsCause, PassesAnyHeader, header_line_count}
use Rattle.drup_text.specs.HeaderRefusal.{IsClauseHeaderRefusal, LineCause, Range, Text, TooLong}
use Rattle.drup_text.specs.Headers.{extended_with}
use Rattle.drup_text.proofs.CallerLemmas.{behind_header, header_anyhow}
use Rattle.drup_text.specs.HeaderSteps.{IsLongIn}
use Rattle.mv_desk.specs.View.{View}
use Rattle.mv_text.specs.declared.line_fail.LineFail.{LineFail}
use Rattle.mv_text.specs.declared.line_fail.LineFail.TheVariants as fail
use Rattle.clause_judge.specs.ClauseLines.{answer_of_line}
use Rattle.clause_judge.specs.declared.fail.ClauseFail.{ClauseFail}
use Rattle.clause_judge.specs.ClauseBody.{HasPassed, IsRestFail, IsShownWith, Pass}
use Rattle.pair_core.specs.ClauseFiles.{AddsClauses, GivesPremises, HasLawfulLines, importable, premises}
use Rattle.joint_checker.specs.ClauseRefusals.{IsClauseRefusal, IsColumnRefusal}
use Rattle.clause_judge.specs.LineRefusals.{IsRefusedLines}
use Rattle.joint_checker.specs.Fails.{IsClauseFail}
use Rattle.joint_checker.specs.Shown.{keeps_of}
use Rattle.joint_checker.proofs.ClauseWholes.{lawful_lines}
use Rattle.joint_checker.proofs.KeptRecords.{imported_of_kept}
use Rattle.gate_axioms.proofs.CallerLemmas.{same_imports}
use Rattle.clause_judge.proofs.Fails.{fails_before}
use Rattle.clause_judge.proofs.Told.{told_more, told_of}

module _ (lengths : Lengths) (g : Aig) where
  -- ---- the header

  started : (bytes : List ℕ) (p : ℕ × LineCause) → IsClauseHeaderRefusal g lengths bytes p → IsClauseRefusal lengths g bytes p
  started bytes p h = header_anyhow (IsRefusedLines (IsTooLong lengths (length bytes))) g lengths bytes p h

  pub header_fails : (text : Option (List ℕ)) (before now : View) (line : ℕ) (why : LineFail) → IsCause (IsClauseHeaderRefusal g lengths) text before.read_faults now.read_faults line why → IsClauseFail lengths g text before now (answer_of_line line why)
  header_fails text before now line fail.Text h = told_more text (λ bytes. IsClauseHeaderRefusal g lengths bytes (line, Text)) (λ bytes. IsClauseRefusal lengths g bytes (line, Text)) (λ bytes k. started bytes (line, Text) k) h
  header_fails text before now line fail.Range h = told_more text (λ bytes. IsClauseHeaderRefusal g lengths bytes (line, Range)) (λ bytes. IsClauseRefusal lengths g bytes (line, Range)) (λ bytes k. started bytes (line, Range) k) h
  header_fails text before now line fail.Fault h = h
  header_fails text before now line fail.TooLong h =
      (refl, told_more text (λ bytes. IsClauseHeaderRefusal g lengths bytes (line, TooLong)) (λ bytes. (n : ℕ) × IsClauseRefusal lengths g bytes (n, TooLong)) (λ bytes k. (line, started bytes (line, TooLong) k)) h)
  header_fails text before now line fail.Memory h = tt

  -- ---- what stands after it

  module _ (file : FileState) (h : Header) (same : file.lines.lengths ≡ lengths) (count : file.number ≡ header_line_count h)
      (text behind : Option (List ℕ)) (header : IfSome text (λ bytes. HasClauseHeader g file bytes behind h)) where
    abbrev e : Extended
    e = extended_with g h

    module _ (bytes : List ℕ) (there : HasClauseHeader g file bytes behind h) where
      passes : PassesAnyHeader g lengths bytes h there.body
      passes = subst (λ (k : Lengths). PassesAnyHeader g k bytes h there.body) same there.passes

      whole : (P : (List ℕ → Type 0) → Type 0) → P (IsLongIn file.lines there.body) → P (IsTooLong lengths (length bytes))
      whole P k = subst (λ (z : Lengths). P (IsTooLong z (length bytes))) same (subst (λ (n : ℕ). P (IsTooLong file.lines.lengths n)) there.taken k)

      good : (xs : List ClauseLine) → HasPassed e file.lines xs there.body → HasLawfulLines lengths g bytes h xs
      good xs k = lawful_lines g lengths bytes h there.body passes (xs, whole (λ IsLong. Pass e IsLong xs (gate_clauses e.gates) there.body) k)

      refused : (p : ℕ × LineCause) → IsRefusedLines (IsLongIn file.lines there.body) e (file.number + 1) there.body p → IsClauseRefusal lengths g bytes p
      refused p k = behind_header (IsRefusedLines (IsTooLong lengths (length bytes))) g lengths bytes h there.body p passes
          (subst (λ (n : ℕ). IsRefusedLines (IsTooLong lengths (length bytes)) e (n + 1) there.body p) count (whole (λ IsLong. IsRefusedLines IsLong e (file.number + 1) there.body p) k))

    pub text_gives : (chains : Bool) (cs : List Clause) (count : ℕ) → IfSome behind (IsShownWith e file.lines (keeps_of chains h.version) cs count) →
        IfSome text (λ bytes. GivesPremises lengths g bytes (premises h.version e (importable h.version cs)))
    text_gives chains cs count k = told_more text (λ bytes. HasClauseHeader g file bytes behind h) (λ bytes. GivesPremises lengths g bytes (premises h.version e (importable h.version cs))) (λ bytes t.
        let shown = told_of behind t.body (IsShownWith e file.lines (keeps_of chains h.version) cs count) t.left k in
        record {
          header = h;
          lines = shown.0;
          lawful = good bytes t shown.0 shown.1;
          shown = shown.2;
          same = record {
            version = refl;
            extended = refl;
            imports = same_imports (importable h.version cs) (importable h.version (added shown.0)) (imported_of_kept chains h.version cs (added shown.0) shown.3);
          };
        }) header

    pub text_adds : (cs : List Clause) (count : ℕ) → IfSome behind (IsShownWith e file.lines keep.Chains cs count) → IfSome text (λ bytes. AddsClauses lengths g bytes h cs count)
    text_adds cs count k = told_more text (λ bytes. HasClauseHeader g file bytes behind h) (λ bytes. AddsClauses lengths g bytes h cs count) (λ bytes t.
        let shown = told_of behind t.body (IsShownWith e file.lines keep.Chains cs count) t.left k in
        record {
          lines = shown.0;
          lawful = good bytes t shown.0 shown.1;
          shown = shown.2;
          same = shown.3;
          count_is = shown.4;
        }) header

    told_refusal : (p : ℕ × LineCause) → IfSome behind (λ body. IsRefusedLines (IsLongIn file.lines body) e (file.number + 1) body p) → IfSome text (λ bytes. IsClauseRefusal lengths g bytes p)
    told_refusal p k = told_more text (λ bytes. HasClauseHeader g file bytes behind h) (λ bytes. IsClauseRefusal lengths g bytes p)
        (λ bytes t. refused bytes t p (told_of behind t.body (λ body. IsRefusedLines (IsLongIn file.lines body) e (file.number + 1) body p) t.left k)) header

    long_refusal : IfSome behind (λ body. (n : ℕ) × IsRefusedLines (IsLongIn file.lines body) e (file.number + 1) body (n, TooLong)) → IfSome text (λ bytes. (n : ℕ) × IsClauseRefusal lengths g bytes (n, TooLong))
    long_refusal k = told_more text (λ bytes. HasClauseHeader g file bytes behind h) (λ bytes. (n : ℕ) × IsClauseRefusal lengths g bytes (n, TooLong)) (λ bytes t.
        let long = told_of behind t.body (λ body. (n : ℕ) × IsRefusedLines (IsLongIn file.lines body) e (file.number + 1) body (n, TooLong)) t.left k in
        (long.0, refused bytes t (long.0, TooLong) long.1)) header

    column_refusal : (column : ℕ) → IfSome behind (λ body. (xs : List ClauseLine) × HasPassed e file.lines xs body × IsGoalRefusal e xs column) → IfSome text (λ bytes. IsColumnRefusal lengths g bytes column)
    column_refusal column k = told_more text (λ bytes. HasClauseHeader g file bytes behind h) (λ bytes. IsColumnRefusal lengths g bytes column) (λ bytes t.
        let unshown = told_of behind t.body (λ body. (xs : List ClauseLine) × HasPassed e file.lines xs body × IsGoalRefusal e xs column) t.left k in
        (h, unshown.0, good bytes t unshown.0 unshown.1, unshown.2)) header

    pub rest_fails : (first before now : View) → first.read_faults ≤ before.read_faults → (given : ClauseFail) → IsRestFail (file.number + 1) e file.lines behind before now given → IsClauseFail lengths g text first now given
    rest_fails first before now later given =
        fails_before text behind (λ body. IsRefusedLines (IsLongIn file.lines body) e (file.number + 1) body) (IsClauseRefusal lengths g) (λ body column. (xs : List ClauseLine) × HasPassed e file.lines xs body × IsGoalRefusal e xs column)
        (IsColumnRefusal lengths g) told_refusal long_refusal column_refusal first before now later given
