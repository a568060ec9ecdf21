-- What is recorded of the lines of an algebra file, one line more, and at its end.
use Rattle.std.proofs.Common.{◌≡◌, ℕ, ◌+◌, ◌^◌, ◌≤◌, Bool, true, false, List, [], ◌∷◌, ◌++◌, Option, Some, None, IfSome, refl, sym, ap, subst, ◌∙◌, append_assoc, append-nil, arith, length-append}
use Rattle.std.specs.Option.{IsSomeAnd}
use Rattle.std.specs.Prelude.{Result, Ok, Err, IfOk}
use Rattle.algebra_core.specs.AlgebraLines.{Combination, Delete, Import, Line, Product, Sum}
use Rattle.algebra_core.specs.Likeness.{AreAlike}
use Rattle.algebra_core.specs.Text.{AreLineTexts, IsCloseText, IsLineInRange, IsLineText}
use Rattle.graph_core.specs.Graph.Extended.{modulus}
use Rattle.graph_core.specs.Text.JudgedLines.{BeginsWith}
use Rattle.mv_text.specs.CertificateFiles.{IsAtEnd, TakesText}
use Rattle.mv_text.specs.LineReading.{Lines}
use Rattle.mv_text.proofs.CallerLemmas.{told_from}
use Rattle.pac_checker.specs.Checking.{AlgebraChecking, GrowsCheckedTable, IsRecordable, recorded_of}
use Rattle.poly_terms.specs.Tables.{Table, modulus_in}
use Rattle.poly_text.specs.LineTexts.{IsTextOf}
use Rattle.poly_text.specs.Lines.{line_in}
use Rattle.poly_text.specs.Recorded.{AreAllAlike}
use Rattle.poly_text.specs.declared.line.PacLine.{PacLine}
use Rattle.poly_text.specs.declared.line.PacLine.TheVariants as pac
use Rattle.poly_text.proofs.CallerLemmas.{close_there, line_there, read_again}
use Rattle.poly_text.proofs.WritableLines.{read_is_writable}
use Rattle.algebra_judge.specs.AlgebraLines.{AlgebraTask, IsJudged, task_of}
use Rattle.algebra_judge.specs.Records.{ClosesAt, ClosesRecord, ClosesText, IsRecordedBody, IsRecordedTo, RecordsText, RecordsTurn, all_recorded}
use Rattle.algebra_judge.specs.declared.algebra_line.Turn.{Turn}
use Rattle.algebra_judge.specs.declared.algebra_line.Turn.TheVariants as turn
use Rattle.algebra_judge.proofs.Tasks.{grows_task, task_is}

-- ---- likeness

module _ (m : ℕ) where
  recorded_alike : (records : Bool) (x y : Line) → AreAlike m x y → AreAllAlike m (recorded_of records x) (recorded_of records y)
  recorded_alike false x y h = refl
  recorded_alike true (Sum id i j p) y h = subst (λ z. AreAllAlike m (Sum id i j p ∷ []) (recorded_of true z)) (sym h.1) ((h.0, refl, h.2), refl)
  recorded_alike true (Product id i q p) y h = subst (λ z. AreAllAlike m (Product id i q p ∷ []) (recorded_of true z)) (sym h.2) ((h.0, h.1, refl, h.3, h.4), refl)
  recorded_alike true (Combination id parts p) y h = subst (λ z. AreAllAlike m (Combination id parts p ∷ []) (recorded_of true z)) (sym h.2) ((h.0, h.1, refl, h.3, h.4), refl)
  recorded_alike true (Import id number p) y h = subst (λ z. AreAllAlike m (Import id number p ∷ []) (recorded_of true z)) (sym h.1) ((h.0, refl, h.2), refl)
  recorded_alike true (Delete id) y h = subst (λ z. AreAllAlike m [] (recorded_of true z)) (sym h) refl

  alike_append : (xs others more : List Line) (ys : List Line) → AreAllAlike m xs others → AreAllAlike m more ys → AreAllAlike m (xs ++ more) (others ++ ys)
  alike_append [] others more ys one two = subst (λ os. AreAllAlike m more (os ++ ys)) (sym one) two
  alike_append (x ∷ xs) [] more ys one two = absurd one
  alike_append (x ∷ xs) (other ∷ others) more ys one two = (one.0, alike_append xs others more ys one.1 two)

recorded_behind : (records : Bool) (xs : List Line) (x : Line) → all_recorded records (xs ++ x ∷ []) ≡ all_recorded records xs ++ recorded_of records x
recorded_behind records [] x = append-nil (recorded_of records x)
recorded_behind records (y ∷ xs) x = ap (λ zs. recorded_of records y ++ zs) (recorded_behind records xs x) ∙ sym (append_assoc (recorded_of records y) (all_recorded records xs) (recorded_of records x))

texts_behind : (version : ℕ) (bytes : List ℕ) (xs : List Line) (left : List ℕ) (x : Line) (rest : List ℕ) → AreLineTexts version bytes xs left → BeginsWith (IsLineText version) left x rest →
    AreLineTexts version bytes (xs ++ x ∷ []) rest
texts_behind version bytes [] left x rest h begins = (begins.0, rest, begins.1, refl, h ∙ begins.2)
texts_behind version bytes (y ∷ xs) left x rest h begins = (h.0, h.1, h.2, texts_behind version h.1 xs left x rest h.3 begins, h.4)

-- ---- one line

-- two facts of what is answered
pub both_of : {T E : Type 0} (r : Result T E) (P Q R : T → Type 0) → ((x : T) → P x → Q x → R x) → IfOk r P → IfOk r Q → IfOk r R
both_of (Ok x) P Q R f p q = f x p q
both_of (Err x) P Q R f p q = tt

-- a line that was read and judged
pub turn_records : (version max : ℕ) (grown next : AlgebraChecking) (lines then : Lines) (left behind : Option (List ℕ)) (text : PacLine) (given : Turn) → modulus_in grown.table ≡ modulus grown.extended →
    ClosesRecord grown next given → IfSome left (λ bytes. TakesText (IsTextOf grown.table version max) lines then bytes behind text) → IsJudged text grown next given →
    RecordsTurn (task_of version grown) grown.recorded next.recorded left behind given
turn_records version max grown next lines then left behind text turn.Taken same closes read h =
    told_from left (λ bytes. TakesText (IsTextOf grown.table version max) lines then bytes behind text) (λ bytes. RecordsText (task_of version grown) grown.recorded next.recorded bytes behind) (λ bytes is t.
    let x = line_there grown.table version max bytes t.rest text h.0 h.1 t.begins in
    let alike : AreAlike (modulus_in grown.table) x.0 h.0 = subst (λ o. IsSomeAnd o (AreAlike (modulus_in grown.table) x.0)) h.1 x.3.alike in
    record {
      line = x.0;
      rest = t.rest;
      begins = x.1;
      left_is = t.left_is;
      more = recorded_of grown.records h.0;
      alike = recorded_alike (modulus grown.extended) grown.records x.0 h.0 (subst (λ k. AreAlike k x.0 h.0) same alike);
      recorded = h.2.recorded;
    }) read
turn_records version max grown next lines then left behind text (turn.Closed id) same closes read h = (
  closes.0,
  told_from left (λ bytes. TakesText (IsTextOf grown.table version max) lines then bytes behind (pac.Close id)) (λ bytes. ClosesText id bytes behind) (λ bytes is t.
      record { rest = t.rest; begins = (close_there grown.table version max bytes t.rest id t.begins).0; left_is = t.left_is })
      (subst (λ (x : PacLine). IfSome left (λ bytes. TakesText (IsTextOf grown.table version max) lines then bytes behind x)) h.0 read),
)

-- what closes a checker that was lent to a reader
pub closes_grown : (old grown new : AlgebraChecking) (given : Turn) → GrowsCheckedTable old grown → ClosesRecord grown new given → ClosesRecord old new given
closes_grown old grown new turn.Taken grows h = tt
closes_grown old grown new (turn.Closed id) grows h = (h.0 ∙ grows.recorded, λ version. subst (λ (t : AlgebraTask). ClosesAt t new.recorded id) (task_is version version old grown refl (grows_task grows)) (h.1 version))

-- a line that was read may be recorded
pub read_is_recordable : (t : Table) (version max : ℕ) (bytes : List ℕ) (line : PacLine) → modulus_in t ≤ 2 ^ 128 → IsTextOf t version max bytes line → IsRecordable max t line
read_is_recordable t version max bytes line fits text = record { writable = read_is_writable t version max bytes line text; in_range = go (line_in t line) refl }
  where
    go : (o : Option Line) → line_in t line ≡ o → IfSome o (IsLineInRange max)
    go None is = tt
    go (Some y) is = (read_again t version max bytes line y fits text is).0

-- ---- all lines

module _ (t : AlgebraTask) where
  pub none_recorded : (left : Option (List ℕ)) → IfSome left (IsRecordedTo t [] 0 left)
  none_recorded None = tt
  none_recorded (Some body) = record { lines = []; rest = body; left_is = refl; texts = refl; alike = refl; counted = refl }

  module _ (old recorded : List Line) (count : ℕ) (body left behind : Option (List ℕ)) (so_far : IfSome body (IsRecordedTo t old count left)) where
    pub one_more : IfSome left (λ bytes. RecordsText t old recorded bytes behind) → IfSome body (IsRecordedTo t recorded (count + 1) behind)
    one_more h = told_from body (IsRecordedTo t old count left) (IsRecordedTo t recorded (count + 1) behind) (λ bytes is r.
        let m = modulus t.premises.extended in
        let k : RecordsText t old recorded r.rest behind = subst (λ (o : Option (List ℕ)). IfSome o (λ l. RecordsText t old recorded l behind)) r.left_is h in
        record {
          lines = r.lines ++ k.line ∷ [];
          rest = k.rest;
          left_is = k.left_is;
          texts = texts_behind t.premises.version bytes r.lines r.rest k.line k.rest r.texts k.begins;
          alike = subst (λ xs. AreAllAlike m xs recorded) (sym (recorded_behind t.records r.lines k.line))
              (subst (AreAllAlike m (all_recorded t.records r.lines ++ recorded_of t.records k.line)) (sym k.recorded) (alike_append m (all_recorded t.records r.lines) old (recorded_of t.records k.line) k.more r.alike k.alike));
          counted = omega (arith, r.counted, length-append r.lines (k.line ∷ []));
        }) so_far

    pub at_end : (closing : ℕ) (after : Lines) → (recorded ≡ old) → IfSome left (λ bytes. ClosesText closing bytes behind) → IfSome behind (IsAtEnd after) → IfSome body (IsRecordedBody t recorded closing count)
    at_end closing after same h end = told_from body (IsRecordedTo t old count left) (IsRecordedBody t recorded closing count) (λ bytes is r.
        let k : ClosesText closing r.rest behind = subst (λ (o : Option (List ℕ)). IfSome o (λ l. ClosesText closing l behind)) r.left_is h in
        let none : IsAtEnd after k.rest = subst (λ (o : Option (List ℕ)). IfSome o (IsAtEnd after)) k.left_is end in
        record {
          lines = r.lines;
          last = r.rest;
          texts = r.texts;
          close = subst (BeginsWith IsCloseText r.rest closing) none.none k.begins;
          alike = subst (AreAllAlike (modulus t.premises.extended) (all_recorded t.records r.lines)) (sym same) r.alike;
          counted = r.counted;
        }) so_far
