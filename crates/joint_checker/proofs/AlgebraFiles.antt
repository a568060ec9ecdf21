-- The header of an algebra file, and the whole file by what stands after it.
use Rattle.std.proofs.Common.{◌≡◌, ℕ, ◌≤◌, List, [], ◌∷◌, ◌++◌, length, Option, IfSome, refl, sym, ap, subst, ◌∙◌, append_assoc, inl, inr}
use Rattle.std.specs.Prelude.{Bool, true, false, cond, codes, ◌==◌}
use Rattle.algebra_core.specs.Refusal as cause
use Rattle.algebra_core.specs.Refusal.{AlgebraCause, IsAlgebraRefusal, IsRefusedBody}
use Rattle.algebra_core.specs.AlgebraLines.{Line}
use Rattle.algebra_core.specs.Certificates.{IsLawfulAlgebra}
use Rattle.algebra_core.specs.Text.{algebra_header, first_line}
use Rattle.graph_core.specs.Graph.Extended.{modulus}
use Rattle.graph_core.specs.Text.JudgedLines.{IsTooLong, Lengths}
use Rattle.graph_core.specs.Text.{newline}
use Rattle.graph_core.proofs.OfTexts.CallerLemmas.{HasNoNewline, ShortFrom, short_next, short_within, start_later, none_in}
use Rattle.mv_desk.specs.View.{View}
use Rattle.mv_text.specs.declared.line_fail.LineFail.{LineFail}
use Rattle.mv_text.specs.declared.line_fail.LineFail.TheVariants as fail
use Rattle.mv_text.specs.CertificateFiles.{FileState, HasFirstLine, IsFirstRefusal}
use Rattle.algebra_judge.specs.AlgebraBody.{IsBodyFail, IsLawfulBody}
use Rattle.algebra_judge.specs.AlgebraLines.{AlgebraTask, IsLongIn}
use Rattle.algebra_judge.specs.Fails.{answer_of_line}
use Rattle.algebra_judge.specs.Records.{IsRecordOf, IsRecordedBody}
use Rattle.algebra_judge.specs.declared.fail.AlgebraFail.{AlgebraFail}
use Rattle.joint_checker.specs.Fails.{IsAlgebraFail}
use Rattle.algebra_judge.proofs.Fails.{fails_before}
use Rattle.clause_judge.proofs.Told.{told_more, told_of}

none_first : (version : ℕ) → HasNoNewline (first_line version)
none_first version = go (version == 1) (version == 2)
  where
    go : (one two : Bool) → HasNoNewline (cond one (codes "pac 1") (cond two (codes "pac 2") (codes "pac 3")))
    go true two = none_in (codes "pac 1") refl
    go false true = none_in (codes "pac 2") refl
    go false false = none_in (codes "pac 3") refl

module _ (lengths : Lengths) (t : AlgebraTask) where
  -- the first line isn't the header
  pub header_fails : (text : Option (List ℕ)) (before now : View) (why : LineFail) → IsFirstRefusal (algebra_header t.premises.version) lengths text before.read_faults now.read_faults why → IsAlgebraFail lengths t.premises t.sides text before now (answer_of_line 1 why)
  header_fails text before now fail.Text h =
      told_more text _ (λ bytes. IsAlgebraRefusal t.premises t.sides lengths bytes (1, cause.Text)) (λ bytes k. inr (k.0, inl (k.1, refl))) h
  header_fails text before now fail.Range h = absurd h
  header_fails text before now fail.Fault h = h
  header_fails text before now fail.TooLong h =
      (refl, told_more text (λ bytes. IsTooLong lengths (length bytes) bytes) (λ bytes. (line : ℕ) × IsAlgebraRefusal t.premises t.sides lengths bytes (line, cause.TooLong)) (λ bytes k. (1, inl (k, refl))) h)
  header_fails text before now fail.Memory h = tt

  module _ (file : FileState) (same : file.lines.lengths ≡ lengths) (bytes : List ℕ) (behind : Option (List ℕ)) (header : HasFirstLine (algebra_header t.premises.version) file.lines bytes behind) where
    whole : (P : (List ℕ → Type 0) → Type 0) → P (IsLongIn file.lines header.body) → P (IsTooLong lengths (length bytes))
    whole P h = subst (λ (k : Lengths). P (IsTooLong k (length bytes))) same (subst (λ (n : ℕ). P (IsTooLong file.lines.lengths n)) header.taken h)

    short : ¬ (IsTooLong lengths (length bytes) bytes)
    short = subst (λ (k : Lengths). ¬ (IsTooLong k (length bytes) bytes)) same header.short

    pub file_is_lawful : IsLawfulBody t file.lines header.body → IsLawfulAlgebra lengths t.premises t.sides bytes
    file_is_lawful h =
        let first = first_line t.premises.version in
        let is : bytes ≡ first ++ newline ∷ header.body = header.begins ∙ append_assoc first (newline ∷ []) header.body in
        let later : ShortFrom (IsTooLong lengths (length bytes)) header.body = whole (λ IsLong. ShortFrom IsLong header.body) h.short in
        let all : ShortFrom (IsTooLong lengths (length bytes)) bytes =
        subst (ShortFrom (IsTooLong lengths (length bytes))) (sym is)
        (short_next (IsTooLong lengths (length bytes)) first header.body (none_first t.premises.version) (subst (λ (l : List ℕ). ¬ (IsTooLong lengths (length bytes) l)) is short) later) in (
          record {
            lines = h.lines;
            closing = h.closing;
            text = (header.body, h.last, h.close.1.0, h.close.1.1, h.texts, h.close.2 ∙ ap (λ (l : List ℕ). l ++ newline ∷ []) h.close.1.2, is);
            in_range = h.in_range;
            closing_in_range = h.closing_in_range;
            lawful = (h.lawful, h.closes);
          },
          short_within lengths bytes all (start_later bytes header.body [] (inr (first, is)) h.ends),
        )

    pub file_is_refused : (line : ℕ) (c : AlgebraCause) → IsRefusedBody t.premises t.sides (IsLongIn file.lines header.body) header.body (line, c) → IsAlgebraRefusal t.premises t.sides lengths bytes (line, c)
    file_is_refused line c h = inr (short, inr (header.body, header.begins, whole (λ IsLong. IsRefusedBody t.premises t.sides IsLong header.body (line, c)) h))

  -- ---- where the file is told

  module _ (file : FileState) (same : file.lines.lengths ≡ lengths) (text : Option (List ℕ)) (behind : Option (List ℕ)) (header : IfSome text (λ bytes. HasFirstLine (algebra_header t.premises.version) file.lines bytes behind)) where
    pub text_is_lawful : IfSome behind (IsLawfulBody t file.lines) → IfSome text (IsLawfulAlgebra lengths t.premises t.sides)
    text_is_lawful h = told_more text (λ bytes. HasFirstLine (algebra_header t.premises.version) file.lines bytes behind) (IsLawfulAlgebra lengths t.premises t.sides)
        (λ bytes k. file_is_lawful file same bytes behind k (told_of behind k.body (IsLawfulBody t file.lines) k.left h)) header

    refused_text : (line : ℕ) (c : AlgebraCause) → IfSome behind (λ body. IsRefusedBody t.premises t.sides (IsLongIn file.lines body) body (line, c)) →
        IfSome text (λ bytes. IsAlgebraRefusal t.premises t.sides lengths bytes (line, c))
    refused_text line c h = told_more text (λ bytes. HasFirstLine (algebra_header t.premises.version) file.lines bytes behind) (λ bytes. IsAlgebraRefusal t.premises t.sides lengths bytes (line, c))
        (λ bytes k. file_is_refused file same bytes behind k line c (told_of behind k.body (λ body. IsRefusedBody t.premises t.sides (IsLongIn file.lines body) body (line, c)) k.left h)) header

    long_text : IfSome behind (λ body. (line : ℕ) × IsRefusedBody t.premises t.sides (IsLongIn file.lines body) body (line, cause.TooLong)) →
        IfSome text (λ bytes. (line : ℕ) × IsAlgebraRefusal t.premises t.sides lengths bytes (line, cause.TooLong))
    long_text h = told_more text (λ bytes. HasFirstLine (algebra_header t.premises.version) file.lines bytes behind) (λ bytes. (line : ℕ) × IsAlgebraRefusal t.premises t.sides lengths bytes (line, cause.TooLong))
        (λ bytes k. let there = told_of behind k.body (λ body. (line : ℕ) × IsRefusedBody t.premises t.sides (IsLongIn file.lines body) body (line, cause.TooLong)) k.left h in
        (there.0, file_is_refused file same bytes behind k there.0 cause.TooLong there.1)) header

    -- what is after the header isn't lawful
    pub body_fails : (first before now : View) → first.read_faults ≤ before.read_faults → (given : AlgebraFail) → IsBodyFail t file.lines behind before now given → IsAlgebraFail lengths t.premises t.sides text first now given
    body_fails first before now later given =
        fails_before text behind (λ body. IsRefusedBody t.premises t.sides (IsLongIn file.lines body) body) (IsAlgebraRefusal t.premises t.sides lengths) refused_text long_text first before now later given

    -- what is recorded of the lines after the header is so of the file
    pub text_is_recorded : (recorded : List Line) (closing count : ℕ) → IfSome behind (IsRecordedBody t recorded closing count) → IfSome text (λ bytes. IsRecordOf t.records t.premises.version (modulus t.premises.extended) bytes recorded closing count)
    text_is_recorded recorded closing count h = told_more text (λ bytes. HasFirstLine (algebra_header t.premises.version) file.lines bytes behind) (λ bytes. IsRecordOf t.records t.premises.version (modulus t.premises.extended) bytes recorded closing count) (λ bytes k.
        let b = told_of behind k.body (IsRecordedBody t recorded closing count) k.left h in
        record {
          lines = b.lines;
          text = (
            k.body,
            b.last,
            b.close.1.0,
            b.close.1.1,
            b.texts,
            b.close.2 ∙ ap (λ (l : List ℕ). l ++ newline ∷ []) b.close.1.2,
            k.begins ∙ append_assoc (first_line t.premises.version) (newline ∷ []) k.body,
          );
          alike = b.alike;
          counted = b.counted;
        }) header
