-- What the answers of the reader of a line and of the checker say of what is left of the file.
use Rattle.std.proofs.Common.{◌≡◌, ◌≢◌, ℕ, List, [], Option, Some, refl, sym, subst, inl, inr}
use Rattle.std.specs.Prelude.{IfSome}
use Rattle.std.specs.Option.{IsSomeAnd}
use Rattle.algebra_core.specs.Agreement.{LedgersAgree}
use Rattle.algebra_core.specs.AlgebraLines.{Line, Ledger, Closes, after}
use Rattle.algebra_core.specs.InRange.{IsRefusedCloseInRange, IsRefusedInRange}
use Rattle.algebra_core.specs.Likeness.{AreAlike}
use Rattle.algebra_core.specs.Refusal as cause
use Rattle.algebra_core.specs.Refusal.{AlgebraCause, IsRefusedEnd}
use Rattle.algebra_core.specs.Text.{IsLineInRange, IsLineText}
use Rattle.algebra_core.proofs.CallerLemmas.{after_agrees, agree_trans, closes_agrees, lawful_agrees, refused_close_in_range_agrees, refused_in_range_agrees, likeness_is_kept}
use Rattle.graph_core.specs.Graph.Extended as graphs
use Rattle.graph_core.specs.Text.JudgedLines.{BeginsWith}
use Rattle.mv_desk.specs.View.{View}
use Rattle.mv_text.specs.CertificateFiles.{BeginsOutOfRange, BeginsWithNone, IsEndRefusal, IsLineRefusal, TakesText}
use Rattle.mv_text.specs.LineReading.{IsLongAhead, Lines}
use Rattle.mv_text.specs.declared.line_fail.LineFail.{LineFail}
use Rattle.mv_text.specs.declared.line_fail.LineFail.TheVariants as text
use Rattle.mv_text.proofs.CallerLemmas.{told_from}
use Rattle.pac_checker.specs.Checking.{AlgebraChecking, ledger_of, TakesAlgebraLine}
use Rattle.pac_checker.specs.Faults.{IsCloseFault, IsRuleFault}
use Rattle.pac_checker.specs.declared.fault.LineFault.{LineFault}
use Rattle.pac_checker.specs.declared.fault.LineFault.TheVariants as rule
use Rattle.pac_checker.specs.declared.fault.CloseFault.{CloseFault}
use Rattle.pac_checker.specs.declared.fault.CloseFault.TheVariants as close
use Rattle.poly_terms.specs.Tables.{modulus_in}
use Rattle.poly_text.specs.LineTexts.{IsAnyInRange, IsAnyText, IsTextOf}
use Rattle.poly_text.specs.Lines.{line_in}
use Rattle.poly_text.specs.declared.line.PacLine.{PacLine}
use Rattle.poly_text.specs.declared.line.PacLine.TheVariants as pac
use Rattle.poly_text.proofs.CallerLemmas.{close_there, line_there, no_line_is_refused, out_of_range_is_refused}
use Rattle.algebra_judge.specs.AlgebraLines.{AlgebraTask, IsEndFail, IsJudged, IsLineFail, IsLongIn, IsRefusedAt, IsUnlawful, TakesClosing, TakesLawful, Turns, task_of}
use Rattle.algebra_judge.specs.Fails.{answer_of_close, answer_of_line, answer_of_rule}
use Rattle.algebra_judge.specs.declared.algebra_line.Turn.{Turn}
use Rattle.algebra_judge.specs.declared.algebra_line.Turn.TheVariants as turn
use Rattle.algebra_judge.specs.declared.fail.AlgebraFail.{AlgebraFail}

-- no line is read
pub text_fails : (n : ℕ) (t : AlgebraTask) (l : Ledger) (max : ℕ) (lines : Lines) (left : Option (List ℕ)) (before now : View) (given : LineFail) → max ≡ t.premises.extended.max →
    IsLineRefusal (IsAnyText t.premises.version) (IsAnyInRange max) lines left before.read_faults now.read_faults given → IsLineFail n t l lines left before now (answer_of_line n given)
text_fails n t l max lines left before now text.Text same h =
    told_from left (λ bytes. ¬ (IsLongAhead lines bytes) × BeginsWithNone (IsAnyText t.premises.version) bytes) (λ bytes. IsRefusedAt n t (IsLongIn lines bytes) l bytes (n, cause.Text))
    (λ bytes is k. record { line = refl; next = no_line_is_refused t.premises.version t.premises.extended t.sides (IsLongIn lines bytes) l bytes k.0 k.1 }) h
text_fails n t l max lines left before now text.Range same h =
    told_from left (λ bytes. ¬ (IsLongAhead lines bytes) × BeginsOutOfRange (IsAnyText t.premises.version) (IsAnyInRange max) bytes) (λ bytes. IsRefusedAt n t (IsLongIn lines bytes) l bytes (n, cause.Range))
    (λ bytes is k. record {
      line = refl;
      next = out_of_range_is_refused t.premises.version t.premises.extended t.sides (IsLongIn lines bytes) l bytes k.0 (subst (λ (m : ℕ). BeginsOutOfRange (IsAnyText t.premises.version) (IsAnyInRange m) bytes) same k.1);
    }) h
text_fails n t l max lines left before now text.Fault same h = h
text_fails n t l max lines left before now text.TooLong same h = (
  refl,
  told_from left (IsLongAhead lines) (λ bytes. (m : ℕ) × IsRefusedAt n t (IsLongIn lines bytes) l bytes (m, cause.TooLong)) (λ bytes is long. (n, record { line = refl; next = inl (long, refl) })) h,
)
text_fails n t l max lines left before now text.Memory same h = tt

-- the file doesn't end
pub end_fails : (n : ℕ) (lines : Lines) (left : Option (List ℕ)) (before now : View) (given : LineFail) → IsEndRefusal lines left before.read_faults now.read_faults given → IsEndFail n lines left before now (answer_of_line n given)
end_fails n lines left before now text.Text h =
    told_from left (λ bytes. ¬ (IsLongAhead lines bytes) × (bytes ≢ [])) (λ bytes. (n ≡ n) × IsRefusedEnd (IsLongIn lines bytes) bytes (1, cause.Text)) (λ bytes is k. (refl, inr (k.0, inl (k.1, refl)))) h
end_fails n lines left before now text.Range h = absurd h
end_fails n lines left before now text.Fault h = h
end_fails n lines left before now text.TooLong h = (
  refl,
  told_from left (IsLongAhead lines) (λ bytes. (m : ℕ) × ((m ≡ n) × IsRefusedEnd (IsLongIn lines bytes) bytes (1, cause.TooLong))) (λ bytes is long. (n, (refl, inl (long, refl)))) h,
)
end_fails n lines left before now text.Memory h = tt

-- A checker that was lent to a reader: its table has grown, and its ledger agrees with the one before.
module _ (grown : AlgebraChecking) (l : Ledger) (agrees : LedgersAgree (ledger_of grown) l) (same_modulus : modulus_in grown.table ≡ graphs.modulus grown.extended) (version max : ℕ) (same_max : max ≡ grown.extended.max)
    (old new : Lines) (left behind : Option (List ℕ)) where
  abbrev task : AlgebraTask
  task = task_of version grown

  -- a line that is no closing line
  module _ (line : PacLine) (given : IfSome left (λ bytes. TakesText (IsTextOf grown.table version max) old new bytes behind line)) where
    record IsThere (y : Line) (bytes rest : List ℕ) : Type 0 where
      x : Line
      begins : BeginsWith (IsLineText version) bytes x rest
      in_range : IsLineInRange grown.extended.max x
      alike : AreAlike (graphs.modulus grown.extended) x y

    there : (y : Line) → line_in grown.table line ≡ Some y → (bytes : List ℕ) (h : TakesText (IsTextOf grown.table version max) old new bytes behind line) → IsThere y bytes h.rest
    there y is bytes h =
        let t = line_there grown.table version max bytes h.rest line y is h.begins in
        record {
          x = t.0;
          begins = t.1;
          in_range = subst (λ (m : ℕ). IsLineInRange m t.0) same_max t.2;
          alike = subst (λ (m : ℕ). AreAlike m t.0 y) same_modulus (subst (λ (o : Option Line). IsSomeAnd o (AreAlike (modulus_in grown.table) t.0)) is t.3.alike);
        }

    -- it was lawful
    pub line_is_taken : (next : AlgebraChecking) (y : Line) → line_in grown.table line ≡ Some y → TakesAlgebraLine y grown next → IfSome left (λ bytes. TakesLawful task l (ledger_of next) old new bytes behind)
    line_is_taken next y is takes = told_from left (λ bytes. TakesText (IsTextOf grown.table version max) old new bytes behind line) (λ bytes. TakesLawful task l (ledger_of next) old new bytes behind) (λ bytes at h.
        let t = there y is bytes h in
        let m = graphs.modulus grown.extended in
        let known = ledger_of grown in
        record {
          line = t.x;
          takes = record { rest = h.rest; begins = t.begins; short = h.short; left_is = h.left_is; taken = h.taken };
          in_range = t.in_range;
          lawful = lawful_agrees m known l agrees t.x (likeness_is_kept.lawful m known t.x y t.alike takes.lawful);
          ledger = agree_trans (ledger_of next) (after m known y) (after m l t.x) takes.ledger
              (agree_trans (after m known y) (after m known t.x) (after m l t.x) (likeness_is_kept.after m known t.x y t.alike) (after_agrees m known l agrees t.x));
        }) given

    module _ (n : ℕ) (before now : View) where
      refused_of : (c : AlgebraCause) (y : Line) → line_in grown.table line ≡ Some y → IsRefusedInRange grown.extended (ledger_of grown) y c → IfSome left (λ bytes. IsRefusedAt n task (IsLongIn old bytes) l bytes (n, c))
      refused_of c y is refused = told_from left (λ bytes. TakesText (IsTextOf grown.table version max) old new bytes behind line) (λ bytes. IsRefusedAt n task (IsLongIn old bytes) l bytes (n, c)) (λ bytes at h.
          let t = there y is bytes h in
          let here : IsRefusedInRange grown.extended l t.x c = refused_in_range_agrees grown.extended (ledger_of grown) l agrees t.x c (likeness_is_kept.refused grown.extended (ledger_of grown) t.x y c t.alike refused) in
          record { line = refl; next = inr (h.short, inr (inl (t.x, h.rest, t.begins, (c, inr (t.in_range, here), refl)))) }) given

      -- it breaks its rule
      pub rule_fails : (y : Line) (fault : LineFault) → line_in grown.table line ≡ Some y → IsRuleFault grown.extended (ledger_of grown) y fault → IsLineFail n task l old left before now (answer_of_rule n fault)
      rule_fails y rule.Id is h = refused_of cause.Id y is h
      rule_fails y (rule.NoSuchLine id) is h = refused_of (cause.NoSuchLine id) y is h
      rule_fails y (rule.NoSuchClause number) is h = refused_of (cause.NoSuchClause number) y is h
      rule_fails y rule.NotEqual is h = refused_of cause.NotEqual y is h
      rule_fails y rule.Memory is h = tt

  -- a closing line
  module _ (id : ℕ) (given : IfSome left (λ bytes. TakesText (IsTextOf grown.table version max) old new bytes behind (pac.Close id))) where
    pub line_is_closing : Closes grown.extended grown.sides (ledger_of grown).live id → IfSome left (λ bytes. TakesClosing task l old new bytes behind)
    line_is_closing closes = told_from left (λ bytes. TakesText (IsTextOf grown.table version max) old new bytes behind (pac.Close id)) (λ bytes. TakesClosing task l old new bytes behind) (λ bytes at h.
        let t = close_there grown.table version max bytes h.rest id h.begins in
        record {
          id = id;
          takes = record { rest = h.rest; begins = t.0; short = h.short; left_is = h.left_is; taken = h.taken };
          in_range = t.1;
          closes = closes_agrees grown.extended grown.sides (ledger_of grown) l agrees id closes;
        }) given

    module _ (n : ℕ) (before now : View) where
      refused_close : (c : AlgebraCause) → IsRefusedCloseInRange grown.extended grown.sides (ledger_of grown) id c → IfSome left (λ bytes. IsRefusedAt n task (IsLongIn old bytes) l bytes (n, c))
      refused_close c refused = told_from left (λ bytes. TakesText (IsTextOf grown.table version max) old new bytes behind (pac.Close id)) (λ bytes. IsRefusedAt n task (IsLongIn old bytes) l bytes (n, c)) (λ bytes at h.
          let t = close_there grown.table version max bytes h.rest id h.begins in
          record {
            line = refl;
            next = inr (h.short, inr (inr (id, h.rest, t.0, inl (c, inr (t.1, refused_close_in_range_agrees grown.extended grown.sides (ledger_of grown) l agrees id c refused), refl))));
          }) given

      -- it doesn't close
      pub close_fails : (fault : CloseFault) → IsCloseFault grown.extended grown.sides (ledger_of grown) id fault → IsLineFail n task l old left before now (answer_of_close n fault)
      close_fails (close.NoSuchLine missing) h = refused_close (cause.NoSuchLine missing) h
      close_fails close.NotSpec h = refused_close cause.NotSpecification h
      close_fails close.Memory h = tt

-- ---- a line that was read and judged

module _ (grown : AlgebraChecking) (l : Ledger) (agrees : LedgersAgree (ledger_of grown) l) (same_modulus : modulus_in grown.table ≡ graphs.modulus grown.extended) (version max : ℕ) (same_max : max ≡ grown.extended.max)
    (old new : Lines) (left behind : Option (List ℕ)) (line : PacLine) (given : IfSome left (λ bytes. TakesText (IsTextOf grown.table version max) old new bytes behind line)) where
  given_close : (id : ℕ) → line ≡ pac.Close id → IfSome left (λ bytes. TakesText (IsTextOf grown.table version max) old new bytes behind (pac.Close id))
  given_close id is = subst (λ (x : PacLine). IfSome left (λ bytes. TakesText (IsTextOf grown.table version max) old new bytes behind x)) is given

  pub turn_is : (next : AlgebraChecking) (given_turn : Turn) → IsJudged line grown next given_turn → Turns (task_of version grown) l (ledger_of next) old new left behind given_turn
  turn_is next turn.Taken h = line_is_taken grown l agrees same_modulus version max same_max old new left behind line given next h.0 h.1 h.2
  turn_is next (turn.Closed id) h = (line_is_closing grown l agrees same_modulus version max same_max old new left behind id (given_close id h.0) h.1, h.2)

  pub turn_fails : (n : ℕ) (before now : View) (answer : AlgebraFail) → IsUnlawful n line grown answer → IsLineFail n (task_of version grown) l old left before now answer
  turn_fails n before now answer (inl h) =
      subst (IsLineFail n (task_of version grown) l old left before now) (sym h.4) (rule_fails grown l agrees same_modulus version max same_max old new left behind line given n before now h.0 h.1 h.2 h.3)
  turn_fails n before now answer (inr h) =
      subst (IsLineFail n (task_of version grown) l old left before now) (sym h.4) (close_fails grown l agrees same_modulus version max same_max old new left behind h.0 (given_close h.0 h.2) n before now h.1 h.3)
