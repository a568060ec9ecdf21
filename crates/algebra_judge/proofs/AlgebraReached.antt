-- How far an algebra file is judged: one lawful line more, its end, and each line at which it is refused.
use Rattle.std.proofs.Common.{◌≡◌, ℕ, suc, ◌+◌, ◌^◌, ◌<◌, ◌≤◌, List, [], ◌∷◌, ◌++◌, length, Option, Some, None, IfSome, refl, ap, subst, ◌∙◌, arith, length-append}
use Rattle.algebra_core.specs.AlgebraLines.{Combination, Delete, Import, Ledger, Line, IsLawfulLine, Product, Sum, after, beginning}
use Rattle.graph_core.specs.Graph.Extended.{modulus}
use Rattle.algebra_core.specs.Refusal as cause
use Rattle.algebra_core.specs.Refusal.{AlgebraCause, IsRefusedBody, IsRefusedEnd, IsRefusedNext}
use Rattle.algebra_core.specs.Text.{IsLineText}
use Rattle.graph_core.specs.Text.JudgedLines.{IsTooLong, Lengths}
use Rattle.graph_core.specs.Text.{newline}
use Rattle.algebra_core.proofs.CallerLemmas.{none_line, after_agrees, agree_trans, closes_agrees, lawful_agrees, next_agrees}
use Rattle.mv_desk.specs.View.{View}
use Rattle.algebra_core.specs.Agreement.{LedgersAgree}
use Rattle.mv_text.specs.CertificateFiles.{IsAtEnd}
use Rattle.mv_text.specs.LineReading.{IsLongAhead, Lines}
use Rattle.mv_text.proofs.CallerLemmas.{short_of, told_from}
use Rattle.algebra_judge.specs.AlgebraBody.{IsBodyFail, IsLawfulBody, IsLedgerReached}
use Rattle.algebra_judge.specs.AlgebraLines.{AlgebraTask, IsEndFail, IsLineFail, IsLongIn, IsRefusedAt, TakesClosing, TakesLawful}
use Rattle.algebra_judge.specs.declared.fail.AlgebraFail.{AlgebraFail}
use Rattle.algebra_judge.proofs.AlgebraRests.{lawful_close, lawful_turn, refused_body, refused_end, refused_here, refused_turn}
use Rattle.algebra_judge.proofs.Fails.{fails_before}
use Rattle.algebra_judge.proofs.LineEnds.{within_behind}

longer : (left line rest : List ℕ) → left ≡ line ++ newline ∷ rest → length left ≡ length line + suc (length rest)
longer left line rest is = ap length is ∙ length-append line (newline ∷ rest)

-- a line has bytes
empty_is_no_line : (version : ℕ) (x : Line) → IsLineText version [] x → ⊥
empty_is_no_line version (Sum id i j p) h = absurd (omega (arith, simp length-append at (ap length h.8)))
empty_is_no_line version (Product id i q p) h = absurd (omega (arith, simp length-append at (ap length h.8)))
empty_is_no_line version (Combination id parts p) h = absurd (omega (arith, simp length-append at (ap length h.6)))
empty_is_no_line version (Import id number p) h = absurd (omega (arith, simp length-append at (ap length h.1.6)))
empty_is_no_line version (Delete id) h = absurd (omega (arith, simp length-append at (ap length h.2)))

line_has_bytes : (version : ℕ) (line : List ℕ) (x : Line) → IsLineText version line x → 1 ≤ length line
line_has_bytes version [] x h = absurd (empty_is_no_line version x h)
line_has_bytes version (b ∷ line) x h = omega arith

module _ (t : AlgebraTask) (start : Lines) where
  -- no line is judged yet
  pub begin : (known : Ledger) (left : Option (List ℕ)) → LedgersAgree known (beginning t.premises) → IfSome left (IsLedgerReached t start known 0 start left)
  begin known None agrees = tt
  begin known (Some body) agrees = record {
    rest = body;
    left_is = refl;
    count = refl;
    turns = omega arith;
    room = λ below. absurd (omega (arith, below));
    ledger = beginning t.premises;
    agrees = agrees;
    lawful = λ h. h;
    refused = λ k cause h. refused_body t (IsLongIn start body) body k cause h;
  }

  -- the same lines are judged, and the ledger says the same
  pub reached_again : (known next : Ledger) (count : ℕ) (lines : Lines) (left body : Option (List ℕ)) → LedgersAgree next known → IfSome body (IsLedgerReached t start known count lines left) → IfSome body (IsLedgerReached t start next count lines left)
  reached_again known next count lines left body agrees reached = told_from body (IsLedgerReached t start known count lines left) (IsLedgerReached t start next count lines left) (λ bytes is r. record {
    rest = r.rest;
    left_is = r.left_is;
    count = r.count;
    turns = r.turns;
    room = r.room;
    ledger = r.ledger;
    agrees = agree_trans next known r.ledger agrees r.agrees;
    lawful = r.lawful;
    refused = r.refused;
  }) reached

  -- a refusal at a line that is numbered in another way
  at_line : (body : List ℕ) (n m : ℕ) (c : AlgebraCause) → n ≡ m → IsRefusedBody t.premises t.sides (IsLongIn start body) body (n, c) → IsRefusedBody t.premises t.sides (IsLongIn start body) body (m, c)
  at_line body n m c is h = subst (λ (k : ℕ). IsRefusedBody t.premises t.sides (IsLongIn start body) body (k, c)) is h

  module _ (known : Ledger) (count : ℕ) (lines : Lines) (left : Option (List ℕ)) (same : lines.lengths ≡ start.lengths) (body : List ℕ) (reached : IsLedgerReached t start known count lines left body) where
    short_here : ¬ (IsLongAhead lines reached.rest) → ¬ (IsLongIn start body reached.rest)
    short_here short = short_of start.lengths (start.taken + length body) lines reached.rest same reached.count short

    -- one lawful line more
    pub step_in : (next : Ledger) (new : Lines) (behind : Option (List ℕ)) → TakesLawful t known next lines new reached.rest behind → IsLedgerReached t start next (count + 1) new behind body
    step_in next new behind h =
        let m = modulus t.premises.extended in
        let l = reached.ledger in
        let begins = h.takes.begins in
        let rest = h.takes.rest in
        let short = short_here h.takes.short in
        let here : IsLawfulLine m l h.line = lawful_agrees m known l reached.agrees h.line h.lawful in
        let within = within_behind start.lengths (start.taken + length body) reached.rest begins.0 rest (none_line t.premises.version begins.0 h.line begins.1) begins.2 short in
        let fewer = longer reached.rest begins.0 rest begins.2 in
        let some = line_has_bytes t.premises.version begins.0 h.line begins.1 in
        record {
          rest = rest;
          left_is = h.takes.left_is;
          count = omega (arith, h.takes.taken, reached.count);
          turns = omega (arith, h.takes.taken, reached.turns, fewer, some);
          room = λ below. omega (arith, h.takes.taken, reached.count, within);
          ledger = after m l h.line;
          agrees = agree_trans next (after m known h.line) (after m l h.line) h.ledger (after_agrees m known l reached.agrees h.line);
          lawful = λ end. reached.lawful (lawful_turn t (IsLongIn start body) l h.line reached.rest rest begins h.in_range here short end);
          refused = λ k c end. at_line body (2 + count + suc k) (2 + (count + 1) + k) c (omega arith)
              (reached.refused (suc k) c (refused_turn t (IsLongIn start body) l h.line reached.rest rest begins h.in_range here short k c end));
        }

    -- the line there is refused
    pub line_refused : (n : ℕ) (c : AlgebraCause) → IsRefusedAt (2 + count) t (IsLongIn lines reached.rest) known reached.rest (n, c) → IsRefusedBody t.premises t.sides (IsLongIn start body) body (n, c)
    line_refused n c h =
        let Refused : (List ℕ → Type 0) → Type 0 = λ IsLong. IsRefusedNext t.premises.version t.premises.extended t.sides IsLong known reached.rest (0, c) in
        let line : n ≡ 2 + count = h.line in
        let one : Refused (IsLongIn start body) = subst (λ (k : ℕ). Refused (λ l. IsTooLong start.lengths k l)) reached.count
        (subst (λ (k : Lengths). Refused (λ l. IsTooLong k (lines.taken + length reached.rest) l)) same h.next) in
        at_line body (2 + count + 0) n c (omega (arith, line))
        (reached.refused 0 c (refused_here t (IsLongIn start body) reached.ledger reached.rest (0, c) (next_agrees t.premises.version t.premises.extended t.sides (IsLongIn start body) known reached.ledger reached.agrees reached.rest (0, c) one)))

    -- the closing line, and what stands after it
    module _ (new : Lines) (behind : Option (List ℕ)) (keeps : new.lengths ≡ lines.lengths) (h : TakesClosing t known lines new reached.rest behind) where
      behind_count : new.taken + length h.takes.rest ≡ start.taken + length body
      behind_count = omega (arith, h.takes.taken, reached.count)

      pub closed_is_lawful : IsAtEnd new h.takes.rest → IsLawfulBody t start body
      closed_is_lawful end =
          reached.lawful (lawful_close t (IsLongIn start body) reached.ledger h.id reached.rest h.takes.rest h.takes.begins end.none h.in_range
          (closes_agrees t.premises.extended t.sides known reached.ledger reached.agrees h.id h.closes) (short_here h.takes.short)
          (subst (λ (b : List ℕ). ¬ (IsLongIn start body b)) end.none (short_of start.lengths (start.taken + length body) new h.takes.rest (keeps ∙ same) behind_count end.short)))

      pub end_refused : (n : ℕ) (c : AlgebraCause) → (n ≡ 3 + count) × IsRefusedEnd (IsLongIn new h.takes.rest) h.takes.rest (1, c) → IsRefusedBody t.premises t.sides (IsLongIn start body) body (n, c)
      end_refused n c k =
          let Refused : (List ℕ → Type 0) → Type 0 = λ IsLong. IsRefusedEnd IsLong h.takes.rest (1, c) in
          let line : n ≡ 3 + count = k.0 in
          let one : Refused (IsLongIn start body) = subst (λ (m : ℕ). Refused (λ l. IsTooLong start.lengths m l)) behind_count
          (subst (λ (z : Lengths). Refused (λ l. IsTooLong z (new.taken + length h.takes.rest) l)) (keeps ∙ same) k.1) in
          at_line body (2 + count + 1) n c (omega (arith, line))
          (reached.refused 1 c (refused_end t (IsLongIn start body) reached.ledger h.id reached.rest h.takes.rest (1, c) h.takes.begins h.in_range
          (closes_agrees t.premises.extended t.sides known reached.ledger reached.agrees h.id h.closes) (short_here h.takes.short) one))

-- ---- the loop over lines, where the file is told

module _ (t : AlgebraTask) (start : Lines) (body : Option (List ℕ)) (known : Ledger) (count : ℕ) (lines : Lines) (left : Option (List ℕ)) (same : lines.lengths ≡ start.lengths)
    (reached : IfSome body (IsLedgerReached t start known count lines left)) where
  -- a fact of what is left, as one of the body
  carried : (P Q : List ℕ → Type 0) → ((bytes : List ℕ) (r : IsLedgerReached t start known count lines left bytes) → P r.rest → Q bytes) → IfSome left P → IfSome body Q
  carried P Q more h = told_from body (IsLedgerReached t start known count lines left) Q (λ bytes is r. more bytes r (subst (λ (o : Option (List ℕ)). IfSome o P) r.left_is h)) reached

  abbrev Refused : List ℕ → ℕ × AlgebraCause → Type 0
  Refused bytes = IsRefusedBody t.premises t.sides (IsLongIn start bytes) bytes

  pub step : (next : Ledger) (new : Lines) (behind : Option (List ℕ)) → IfSome left (λ bytes. TakesLawful t known next lines new bytes behind) → IfSome body (IsLedgerReached t start next (count + 1) new behind)
  step next new behind = carried (λ bytes. TakesLawful t known next lines new bytes behind) (IsLedgerReached t start next (count + 1) new behind)
      (λ bytes r h. step_in t start known count lines left same bytes r next new behind h)

  -- a line isn't taken
  pub line_fails : (first before now : View) (answer : AlgebraFail) → first.read_faults ≤ before.read_faults → IsLineFail (2 + count) t known lines left before now answer → IsBodyFail t start body first now answer
  line_fails first before now answer later =
      let There : List ℕ → ℕ × AlgebraCause → Type 0 = λ rest. IsRefusedAt (2 + count) t (IsLongIn lines rest) known rest in
      fails_before body left There Refused (λ n c. carried (λ rest. There rest (n, c)) (λ bytes. Refused bytes (n, c)) (λ bytes r h. line_refused t start known count lines left same bytes r n c h))
      (carried (λ rest. (n : ℕ) × There rest (n, cause.TooLong)) (λ bytes. (n : ℕ) × Refused bytes (n, cause.TooLong)) (λ bytes r h. (h.0, line_refused t start known count lines left same bytes r h.0 cause.TooLong h.1)))
      first before now later answer

  -- so many lines have more bytes than a file may have
  pub too_many : 2 ^ 63 ≤ count → start.lengths.file < 2 ^ 64 → IfSome body (λ bytes. (n : ℕ) × Refused bytes (n, cause.TooLong))
  too_many many limit = told_from body (IsLedgerReached t start known count lines left) (λ bytes. (n : ℕ) × Refused bytes (n, cause.TooLong))
      (λ bytes is r. let room = r.room (omega (arith, many)) in absurd (omega (arith, room, r.turns, many, limit))) reached

  -- ---- after the closing line

  module _ (new : Lines) (behind : Option (List ℕ)) (keeps : new.lengths ≡ lines.lengths) (closing : IfSome left (λ bytes. TakesClosing t known lines new bytes behind)) where
    carried_end : (P Q : List ℕ → Type 0) → ((bytes : List ℕ) (r : IsLedgerReached t start known count lines left bytes) (c : TakesClosing t known lines new r.rest behind) → P c.takes.rest → Q bytes) → IfSome behind P → IfSome body Q
    carried_end P Q more h = carried (λ bytes. TakesClosing t known lines new bytes behind) Q (λ bytes r c. more bytes r c (subst (λ (o : Option (List ℕ)). IfSome o P) c.takes.left_is h)) closing

    pub ends : IfSome behind (IsAtEnd new) → IfSome body (IsLawfulBody t start)
    ends = carried_end (IsAtEnd new) (IsLawfulBody t start) (λ bytes r c h. closed_is_lawful t start known count lines left same bytes r new behind keeps c h)

    -- the file doesn't end there
    pub end_fails : (first before now : View) (answer : AlgebraFail) → first.read_faults ≤ before.read_faults → IsEndFail (3 + count) new behind before now answer → IsBodyFail t start body first now answer
    end_fails first before now answer later =
        let There : List ℕ → ℕ × AlgebraCause → Type 0 = λ rest p. (p.0 ≡ 3 + count) × IsRefusedEnd (IsLongIn new rest) rest (1, p.1) in
        fails_before body behind There Refused (λ n c. carried_end (λ rest. There rest (n, c)) (λ bytes. Refused bytes (n, c)) (λ bytes r k h. end_refused t start known count lines left same bytes r new behind keeps k n c h))
        (carried_end (λ rest. (n : ℕ) × There rest (n, cause.TooLong)) (λ bytes. (n : ℕ) × Refused bytes (n, cause.TooLong)) (λ bytes r k h. (h.0, end_refused t start known count lines left same bytes r new behind keeps k h.0 cause.TooLong h.1)))
        first before now later answer
