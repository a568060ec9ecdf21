-- What the next line of a certificate says, why there is none, and what its first line is.
use Rattle.std.specs.Prelude.{⊤, ◌≡◌, ◌≢◌, ◌+◌, ℕ, List, [], ◌∷◌, ◌++◌, length, IfSome}
use Rattle.std.specs.List.{All}
use Rattle.std.specs.declared.option.Option.{Option}
use Rattle.std.specs.declared.option.Option.TheVariants.{None, Some}
use Rattle.std.proofs.Common.{refl, sym, ap, subst, ◌∙◌, append_assoc, arith}
use Rattle.std.proofs.lemmas.List.Elements.{recursion_from_All}
use Rattle.mv_text.specs.declared.line_fail.LineFail.{LineFail}
use Rattle.mv_text.specs.declared.line_fail.LineFail.TheVariants as fail
use Rattle.graph_core.specs.Text.{newline}
use Rattle.graph_core.specs.Text.JudgedLines.{BeginsWith, IsTooLong, Lengths}
use Rattle.graph_core.proofs.OfTexts.CallerLemmas.{HasNoNewline, begins_front}
use Rattle.mv_text.specs.LineReading.{EndsIn, IsLineFault, IsLongAhead, Lines, TakesLine}
use Rattle.mv_text.specs.CertificateFiles.{BeginsOutOfRange, BeginsWithNone, HasFirstLine, IsEndRefusal, IsFirstRefusal, IsLineRefusal, IsNeededFault, IsNextRefusal, SaysNothing, TakesText}
use Rattle.mv_text.proofs.LineLengths.{end_is_short, line_is_taken, long_of, short_of}

-- whatever bytes begin with is said by the line in front of their first line feed
one_front : {X : Type 0} (IsText : List ℕ → X → Type 0) → ((line : List ℕ) (x : X) → IsText line x → HasNoNewline line) →
    (bytes line rest : List ℕ) → HasNoNewline line → bytes ≡ line ++ newline ∷ rest → (x : X) (more : List ℕ) → BeginsWith IsText bytes x more → IsText line x
one_front IsText none bytes line rest whole e x more b =
    let front = begins_front IsText none bytes x more b in
    let here = begins_front (λ z (t : ⊤). z ≡ line) (λ z t is. subst HasNoNewline (sym is) whole) bytes tt rest (line, refl, e) in
    subst (λ z. IsText z x) here.0 front.0

-- bytes with no line feed have no line in front of one
no_line_there : (bytes line rest : List ℕ) → HasNoNewline bytes → bytes ≢ line ++ newline ∷ rest
no_line_there [] [] rest h e = absurd (cc)
no_line_there [] (b ∷ line) rest h e = absurd (cc)
no_line_there (b ∷ bytes) [] rest h e = let f : b ≡ newline = cc in h.0 f
no_line_there (b ∷ bytes) (c ∷ line) rest h e = let f : bytes ≡ line ++ newline ∷ rest = cc in no_line_there bytes line rest h.1 f

no_end : (bytes : List ℕ) → All (λ b. b ≢ newline) bytes → HasNoNewline bytes
no_end bytes h = recursion_from_All (λ b. b ≢ newline) bytes h

pub some_left : (line rest : List ℕ) → line ++ newline ∷ rest ≢ []
some_left [] rest e = absurd (cc)
some_left (b ∷ line) rest e = absurd (cc)

-- a fact of what is left, where that is told
pub told_from : (left : Option (List ℕ)) (P Q : List ℕ → Type 0) → ((bytes : List ℕ) → left ≡ Some bytes → P bytes → Q bytes) → IfSome left P → IfSome left Q
told_from None P Q f h = h
told_from (Some bytes) P Q f h = f bytes refl h

pub told : (left : Option (List ℕ)) (Q : List ℕ → Type 0) → ((bytes : List ℕ) → left ≡ Some bytes → Q bytes) → IfSome left Q
told None Q f = tt
told (Some bytes) Q f = f bytes refl

-- ---- a line that was taken

-- what a text says is what its line says
pub text_is_taken : {X : Type 0} (IsText : List ℕ → X → Type 0) (old new : Lines) (before after : Option (List ℕ)) (bytes : List ℕ) (x : X) → TakesLine old new before after bytes → IsText bytes x →
    IfSome before (λ left. TakesText IsText old new left after x)
text_is_taken IsText old new before after bytes x takes is = told before (λ left. TakesText IsText old new left after x) (λ left e.
    let l = line_is_taken old new before after bytes left takes e in
    record { rest = l.0; begins = (bytes, is, l.2); short = l.3; left_is = l.1; taken = l.4 })

module _ {X : Type 0} (IsText : List ℕ → X → Type 0) (InRange : X → Type 0) (none_text : (line : List ℕ) (x : X) → IsText line x → HasNoNewline line) where
  none_begins : (bytes left rest : List ℕ) → HasNoNewline bytes → left ≡ bytes ++ newline ∷ rest → ((x : X) → IsText bytes x → ⊥) → BeginsWithNone IsText left
  none_begins bytes left rest none e refused x more b = refused x (one_front IsText none_text left bytes rest none e x more b)

  -- the text of a line that was taken is refused
  pub refused_text : (old new : Lines) (before after : Option (List ℕ)) (bytes : List ℕ) (first then : ℕ) (f : LineFail) → TakesLine old new before after bytes → SaysNothing IsText InRange bytes f → IsLineRefusal IsText InRange old before first then f
  refused_text old new before after bytes first then fail.Text takes refused = told before (λ left. ¬ (IsLongAhead old left) × BeginsWithNone IsText left) (λ left e.
      let l = line_is_taken old new before after bytes left takes e in
      (l.3, none_begins bytes left l.0 (no_end bytes takes.no_end) l.2 refused))
  refused_text old new before after bytes first then fail.Range takes refused = told before (λ left. ¬ (IsLongAhead old left) × BeginsOutOfRange IsText InRange left) (λ left e.
      let l = line_is_taken old new before after bytes left takes e in
      (l.3, (refused.0, l.0, (bytes, refused.1, l.2), refused.2)))
  refused_text old new before after bytes first then fail.Fault takes refused = absurd refused
  refused_text old new before after bytes first then fail.TooLong takes refused = absurd refused
  refused_text old new before after bytes first then fail.Memory takes refused = tt

  -- a needed line isn't had
  pub needed_refused : (lines : Lines) (left : Option (List ℕ)) (first then : ℕ) (f : LineFail) → IsNeededFault lines left first then f → IsLineRefusal IsText InRange lines left first then f
  needed_refused lines left first then fail.Text h = told_from left (EndsIn lines) (λ bytes. ¬ (IsLongAhead lines bytes) × BeginsWithNone IsText bytes)
      (λ bytes e ends. (end_is_short lines bytes ends, λ x rest b. no_line_there bytes b.0 rest (no_end bytes ends.no_end) b.2)) h
  needed_refused lines left first then fail.Range h = absurd h
  needed_refused lines left first then fail.Fault h = h
  needed_refused lines left first then fail.TooLong h = h
  needed_refused lines left first then fail.Memory h = h

  -- ---- a line that needn't be there

  pub next_refused_text : (old new : Lines) (before after : Option (List ℕ)) (bytes : List ℕ) (first then : ℕ) (f : LineFail) → TakesLine old new before after bytes → SaysNothing IsText InRange bytes f → IsNextRefusal IsText InRange old before first then f
  next_refused_text old new before after bytes first then fail.Text takes refused = told before (λ left. ¬ (IsLongAhead old left) × (left ≢ []) × BeginsWithNone IsText left) (λ left e.
      let l = line_is_taken old new before after bytes left takes e in
      (l.3, λ n. some_left bytes l.0 (sym l.2 ∙ n), none_begins bytes left l.0 (no_end bytes takes.no_end) l.2 refused))
  next_refused_text old new before after bytes first then fail.Range takes refused = refused_text old new before after bytes first then fail.Range takes refused
  next_refused_text old new before after bytes first then fail.Fault takes refused = absurd refused
  next_refused_text old new before after bytes first then fail.TooLong takes refused = absurd refused
  next_refused_text old new before after bytes first then fail.Memory takes refused = tt

  pub next_fault : (lines : Lines) (left : Option (List ℕ)) (first then : ℕ) (f : LineFail) → IsLineFault lines left first then f → IsNextRefusal IsText InRange lines left first then f
  next_fault lines left first then fail.Text h = told_from left (λ bytes. (bytes ≢ []) × EndsIn lines bytes) (λ bytes. ¬ (IsLongAhead lines bytes) × (bytes ≢ []) × BeginsWithNone IsText bytes)
      (λ bytes e cut. (end_is_short lines bytes cut.1, cut.0, λ x rest b. no_line_there bytes b.0 rest (no_end bytes cut.1.no_end) b.2)) h
  next_fault lines left first then fail.Range h = absurd h
  next_fault lines left first then fail.Fault h = h
  next_fault lines left first then fail.TooLong h = h
  next_fault lines left first then fail.Memory h = h

-- ---- the end

pub line_is_no_end : (old new : Lines) (before after : Option (List ℕ)) (line : List ℕ) → TakesLine old new before after line → IfSome before (λ bytes. ¬ (IsLongAhead old bytes) × (bytes ≢ []))
line_is_no_end old new before after line takes = told before (λ bytes. ¬ (IsLongAhead old bytes) × (bytes ≢ [])) (λ left e.
    let l = line_is_taken old new before after line left takes e in (l.3, λ n. some_left line l.0 (sym l.2 ∙ n)))

pub fault_is_no_end : (lines : Lines) (left : Option (List ℕ)) (first then : ℕ) (f : LineFail) → IsLineFault lines left first then f → IsEndRefusal lines left first then f
fault_is_no_end lines left first then fail.Text h = told_from left (λ bytes. (bytes ≢ []) × EndsIn lines bytes) (λ bytes. ¬ (IsLongAhead lines bytes) × (bytes ≢ [])) (λ bytes e cut. (end_is_short lines bytes cut.1, cut.0)) h
fault_is_no_end lines left first then fail.Range h = h
fault_is_no_end lines left first then fail.Fault h = h
fault_is_no_end lines left first then fail.TooLong h = h
fault_is_no_end lines left first then fail.Memory h = h

-- ---- the first line

-- a reader of lines that took nothing yet
pub record IsNew (lengths : Lengths) (lines : Lines) : Type 0 where
  pub taken : lines.taken ≡ 0
  pub lengths_are : lines.lengths ≡ lengths

module _ (lengths : Lengths) (lines : Lines) (fresh : IsNew lengths lines) (line : List ℕ) where
  pub total_new : (bytes : List ℕ) → lines.taken + length bytes ≡ length bytes
  total_new bytes = let none = fresh.taken in omega arith

  long : (bytes : List ℕ) → IsLongAhead lines bytes → IsTooLong lengths (length bytes) bytes
  long bytes = long_of lengths (length bytes) lines bytes fresh.lengths_are (total_new bytes)

  short : (bytes : List ℕ) → ¬ (IsLongAhead lines bytes) → ¬ (IsTooLong lengths (length bytes) bytes)
  short bytes = short_of lengths (length bytes) lines bytes fresh.lengths_are (total_new bytes)

  -- the line is another one, or the file ends before its line feed
  pub other_first : (new : Lines) (left after : Option (List ℕ)) (bytes : List ℕ) → HasNoNewline line → TakesLine lines new left after bytes → bytes ≢ line →
      IfSome left (λ text. ¬ (IsTooLong lengths (length text) text) × ((body : List ℕ) → text ≢ (line ++ newline ∷ []) ++ body))
  other_first new left after bytes none takes other = told left (λ text. ¬ (IsTooLong lengths (length text) text) × ((body : List ℕ) → text ≢ (line ++ newline ∷ []) ++ body)) (λ text e.
      let l = line_is_taken lines new left after bytes text takes e in (
        short text l.3,
        λ body is. other (one_front (λ z (t : ⊤). z ≡ line) (λ z t same. subst HasNoNewline (sym same) none) text bytes l.0 (no_end bytes takes.no_end) l.2 tt body (line, refl, is ∙ append_assoc line (newline ∷ []) body)),
      ))

  pub first_fault : (left : Option (List ℕ)) (first then : ℕ) (f : LineFail) → IsNeededFault lines left first then f → IsFirstRefusal (line ++ newline ∷ []) lengths left first then f
  first_fault left first then fail.Text h =
      told_from left (EndsIn lines) (λ bytes. ¬ (IsTooLong lengths (length bytes) bytes) × ((body : List ℕ) → bytes ≢ (line ++ newline ∷ []) ++ body))
      (λ bytes e ends. (short bytes (end_is_short lines bytes ends), λ body is. no_line_there bytes line body (no_end bytes ends.no_end) (is ∙ append_assoc line (newline ∷ []) body))) h
  first_fault left first then fail.Range h = h
  first_fault left first then fail.Fault h = h
  first_fault left first then fail.TooLong h = told_from left (IsLongAhead lines) (λ bytes. IsTooLong lengths (length bytes) bytes) (λ bytes e t. long bytes t) h
  first_fault left first then fail.Memory h = h

  -- it is there
  pub first_there : (new : Lines) (left after : Option (List ℕ)) (bytes : List ℕ) → TakesLine lines new left after bytes → bytes ≡ line → IfSome left (λ text. HasFirstLine (line ++ newline ∷ []) new text after)
  first_there new left after bytes takes is = told left (λ text. HasFirstLine (line ++ newline ∷ []) new text after) (λ text e.
      let l = line_is_taken lines new left after bytes text takes e in
      record {
        body = l.0;
        begins = l.2 ∙ ap (λ z. z ++ newline ∷ l.0) is ∙ sym (append_assoc line (newline ∷ []) l.0);
        short = subst (λ k. ¬ (IsTooLong k (length text) text)) (sym (takes.lengths ∙ fresh.lengths_are)) (short text l.3);
        left = l.1;
        taken = l.4 ∙ total_new text;
      })
