-- Lines of what is left of a file, and lengths that are met within them.
use Rattle.std.specs.Prelude.{◌≡◌, ◌≢◌, ◌==◌, ◌+◌, ◌≤◌, ℕ, Bool, true, false, cond, List, [], ◌∷◌, ◌++◌, length, IfNone, IfSome}
use Rattle.std.specs.Io.KnownBytes.{Consumes, IsAtEnd}
use Rattle.std.specs.List.{All}
use Rattle.std.specs.Option.{option_to_list}
use Rattle.std.proofs.KnownBytes.{Consumes-trans, Consumes-whole}
use Rattle.std.specs.declared.option.Option.{Option}
use Rattle.std.specs.declared.option.Option.TheVariants.{None, Some}
use Rattle.std.proofs.Common.{refl, sym, ap, subst, ◌∙◌, arith, append_assoc, length-append, inl, inr, ⊎_elim, eqb-true}
use Rattle.std.proofs.lemmas.List.{append-nil}
use Rattle.std.proofs.lemmas.List.Elements.{All-nil, recursion_from_All, All-append, All-push}
use Rattle.mv_text.specs.declared.line_fail.LineFail.{LineFail}
use Rattle.mv_text.specs.declared.line_fail.LineFail.TheVariants as fail
use Rattle.graph_core.specs.Text.{newline}
use Rattle.graph_core.specs.Text.JudgedLines.{Lengths, IsTooLong, front_line, behind_line}
use Rattle.graph_core.proofs.OfTexts.CallerLemmas.{HasNoNewline}
use Rattle.mv_text.specs.LineReading.{Lines, TakesPlain, known_from, IsLongAhead, TakesLine, EndsIn, IsByteFault, IsLineFault}

-- ---- the first line of a text

front_behind : (line rest : List ℕ) → HasNoNewline line → (front_line (line ++ rest) ≡ line ++ front_line rest) × (behind_line (line ++ rest) ≡ behind_line rest)
front_behind [] rest h = (refl, refl)
front_behind (b ∷ line) rest h = go (b == newline) refl (front_behind line rest h.1)
  where
    go : (c : Bool) → (b == newline) ≡ c → (front_line (line ++ rest) ≡ line ++ front_line rest) × (behind_line (line ++ rest) ≡ behind_line rest) →
        (cond c [] (b ∷ front_line (line ++ rest)) ≡ b ∷ line ++ front_line rest) × (cond c (line ++ rest) (behind_line (line ++ rest)) ≡ behind_line rest)
    go true e same = absurd (h.0 (eqb-true b newline e))
    go false e same = (ap (λ z. b ∷ z) same.0, same.1)

behind_few : (bytes : List ℕ) → length (behind_line bytes) ≤ length bytes
behind_few [] = omega arith
behind_few (b ∷ bytes) = go (b == newline) (behind_few bytes)
  where
    go : (c : Bool) → length (behind_line bytes) ≤ length bytes → length (cond c bytes (behind_line bytes)) ≤ length (b ∷ bytes)
    go true h = omega arith
    go false h = omega arith

behind_fewer : (b : ℕ) (bytes : List ℕ) → length (behind_line (b ∷ bytes)) ≤ length bytes
behind_fewer b bytes = go (b == newline)
  where
    go : (c : Bool) → length (cond c bytes (behind_line bytes)) ≤ length bytes
    go true = omega arith
    go false = behind_few bytes

-- ---- lengths that are met

-- one more byte than a line may have, and no line feed
pub long_line : (lines : Lines) (before after : Option (List ℕ)) (line : List ℕ) (b : ℕ) → Consumes before after (line ++ b ∷ []) → All (λ x. x ≢ newline) line → b ≢ newline → lines.lengths.line ≤ length line → IfSome before (IsLongAhead lines)
long_line lines None after line b taken none other long = tt
long_line lines (Some xs) None line b taken none other long = absurd taken
long_line lines (Some xs) (Some ys) line b taken none other long =
    let no_end : HasNoNewline (line ++ b ∷ []) = both line (recursion_from_All (λ x. x ≢ newline) line none) in
    let front : length (front_line xs) ≡ length (line ++ b ∷ []) + length (front_line ys) = ap length (ap front_line taken ∙ (front_behind (line ++ b ∷ []) ys no_end).0) ∙ length-append (line ++ b ∷ []) (front_line ys) in
    let one : length (line ++ b ∷ []) ≡ length line + 1 = length-append line (b ∷ []) in
    inl (omega arith)
  where
    both : (xs : List ℕ) → HasNoNewline xs → HasNoNewline (xs ++ b ∷ [])
    both [] h = (other, tt)
    both (x ∷ xs) h = (h.0, both xs h.1)

-- the first byte past the file's limit
long_file : (lines : Lines) (left line rest : List ℕ) → left ≡ line ++ rest → All (λ x. x ≢ newline) line → lines.taken + length line ≡ lines.lengths.file → rest ≢ [] → IsLongAhead lines left
long_file lines left line [] e none full some = absurd (some refl)
long_file lines left line (b ∷ rest) e none full some =
    let behind : behind_line left ≡ behind_line (b ∷ rest) = ap behind_line e ∙ (front_behind line (b ∷ rest) (recursion_from_All (λ x. x ≢ newline) line none)).1 in
    let few : length (behind_line left) ≤ length rest = subst (λ z. length z ≤ length rest) (sym behind) (behind_fewer b rest) in
    let all : length left ≡ length line + length (b ∷ rest) = ap length e ∙ length-append line (b ∷ rest) in
    inr (omega arith)

-- why the next byte isn't given is why there is no line
pub byte_fault : (old mid : Lines) (before now : Option (List ℕ)) (line : List ℕ) (first then last : ℕ) (f : LineFail) → Consumes before now line → All (λ x. x ≢ newline) line → mid.taken ≡ old.taken + length line → mid.lengths ≡ old.lengths → first ≤ then →
    IsByteFault mid now then last f → IsLineFault old before first last f
byte_fault old mid before now line first then last fail.Text taken none count lengths later h = absurd h
byte_fault old mid before now line first then last fail.Range taken none count lengths later h = h
byte_fault old mid before now line first then last fail.Fault taken none count lengths later h = omega (arith, h)
byte_fault old mid before now line first then last fail.TooLong taken none count lengths later h = met before now taken h.1
  where
    full : old.taken + length line ≡ old.lengths.file
    full = sym count ∙ h.0 ∙ ap (λ l. l.file) lengths

    met : (before now : Option (List ℕ)) → Consumes before now line → IfSome now (λ bytes. bytes ≢ []) → IfSome before (IsLongAhead old)
    met None now taken some = tt
    met (Some xs) None taken some = absurd taken
    met (Some xs) (Some ys) taken some = long_file old xs line ys taken none full some
byte_fault old mid before now line first then last fail.Memory taken none count lengths later h = absurd h

-- ---- what callers learn

pub long_of : (lengths : Lengths) (total : ℕ) (lines : Lines) (left : List ℕ) → lines.lengths ≡ lengths → lines.taken + length left ≡ total → IsLongAhead lines left → IsTooLong lengths total left
long_of lengths total lines left e f h = subst (λ k. IsTooLong k total left) e (subst (λ n. IsTooLong lines.lengths n left) f h)

pub short_of : (lengths : Lengths) (total : ℕ) (lines : Lines) (left : List ℕ) → lines.lengths ≡ lengths → lines.taken + length left ≡ total → ¬ (IsLongAhead lines left) → ¬ (IsTooLong lengths total left)
short_of lengths total lines left e f h = λ long. h (subst (λ n. IsTooLong lines.lengths n left) (sym f) (subst (λ k. IsTooLong k total left) (sym e) long))

-- a line that was taken isn't too long, and the bytes after it are left
pub line_is_taken : (old new : Lines) (before after : Option (List ℕ)) (line left : List ℕ) → TakesLine old new before after line → before ≡ Some left →
    (rest : List ℕ) × (after ≡ Some rest) × (left ≡ line ++ newline ∷ rest) × ¬ (IsLongAhead old left) × (new.taken + length rest ≡ old.taken + length left)
line_is_taken old new before after line left t e = go after (subst (λ z. Consumes z after (line ++ newline ∷ [])) e t.bytes)
  where
    go : (after : Option (List ℕ)) → Consumes (Some left) after (line ++ newline ∷ []) →
        (rest : List ℕ) × (after ≡ Some rest) × (left ≡ line ++ newline ∷ rest) × ¬ (IsLongAhead old left) × (new.taken + length rest ≡ old.taken + length left)
    go None h = absurd h
    go (Some rest) h =
        let is : left ≡ line ++ newline ∷ rest = h ∙ append_assoc line (newline ∷ []) rest in
        let all : length left ≡ length line + length (newline ∷ rest) = ap length is ∙ length-append line (newline ∷ rest) in
        let parts = front_behind line (newline ∷ rest) (recursion_from_All (λ x. x ≢ newline) line t.no_end) in
        let front : length (front_line left) ≡ length line = ap length (ap front_line is ∙ parts.0 ∙ append-nil line) in
        let behind : length (behind_line left) ≡ length rest = ap length (ap behind_line is ∙ parts.1) in
        let short = t.short in
        let within = t.within in
        let count = t.taken in
        (rest, refl, is, λ long. ⊎_elim (λ l. absurd (omega (arith, l))) (λ f. absurd (omega (arith, f))) long, omega arith)

-- a file that ends within a line isn't too long
pub end_is_short : (lines : Lines) (bytes : List ℕ) → EndsIn lines bytes → ¬ (IsLongAhead lines bytes)
end_is_short lines bytes h long =
    let parts = front_behind bytes [] (recursion_from_All (λ x. x ≢ newline) bytes h.no_end) in
    let front : length (front_line bytes) ≡ length bytes = ap length (ap front_line (sym (append-nil bytes)) ∙ parts.0 ∙ append-nil bytes) in
    let behind : length (behind_line bytes) ≡ 0 = ap length (ap behind_line (sym (append-nil bytes)) ∙ parts.1) in
    let short = h.short in
    let within = h.within in
    ⊎_elim (λ l. absurd (omega (arith, l))) (λ f. absurd (omega (arith, f))) long

-- a line with one more byte, which is no line feed
pub one_more : (line longer : List ℕ) (b most : ℕ) → longer ≡ line ++ b ∷ [] → All (λ x. x ≢ newline) line → b ≢ newline → length line ≤ most → length line ≢ most →
    All (λ x. x ≢ newline) longer × (length longer ≤ most) × (length longer ≡ length line + 1)
one_more line longer b most e none other short room =
    let count : length longer ≡ length line + 1 = ap length e ∙ length-append line (b ∷ []) in
    (subst (All (λ x. x ≢ newline)) (sym e) (All-push (λ x. x ≢ newline) line b none other), omega (arith, room), count)

pub one_byte : (a b c : Option (List ℕ)) (line : List ℕ) (byte : ℕ) (o : Option ℕ) → o ≡ Some byte → Consumes a b line → Consumes b c (option_to_list o) → Consumes a c (line ++ byte ∷ [])
one_byte a b c line byte o e first second = Consumes-trans a b c line (byte ∷ []) first (subst (λ p. Consumes b c (option_to_list p)) e second)

-- ---- bytes of the piece in hand

-- The bytes of a line that were taken so far.
pub record LineSoFar (old now : Lines) (before after : Option (List ℕ)) (line : List ℕ) : Type 0 where
  pub lengths : now.lengths ≡ old.lengths
  pub taken : now.taken ≡ old.taken + length line
  pub no_end : All (λ b. b ≢ newline) line
  pub short : length line ≤ now.lengths.line
  pub bytes : Consumes before after line

pub none_so_far : (lines : Lines) (before : Option (List ℕ)) (line : List ℕ) → line ≡ [] → LineSoFar lines lines before before line
none_so_far lines before line none = rw none (record { lengths = refl; taken = omega arith; no_end = All-nil (λ b. b ≢ newline); short = omega arith; bytes = same before })
  where
    same : (o : Option (List ℕ)) → Consumes o o []
    same None = tt
    same (Some xs) = refl

pub plain_goes_on : (old mid new : Lines) (before left : Option (List ℕ)) (line longer : List ℕ) → LineSoFar old mid before (known_from mid.ahead left) line → TakesPlain mid new line longer →
    LineSoFar old new before (known_from new.ahead left) longer
plain_goes_on old mid new before left line longer h t =
    let count : length longer ≡ length line + length t.part = ap length t.items ∙ length-append line t.part in
    let first = h.taken in
    let second = t.taken in
    record {
      lengths = t.lengths ∙ h.lengths;
      taken = omega arith;
      no_end = subst (All (λ b. b ≢ newline)) (sym t.items) (All-append (λ b. b ≢ newline) line t.part h.no_end t.no_end);
      short = t.short;
      bytes = subst (Consumes before (known_from new.ahead left)) (sym t.items) (Consumes-trans before (known_from mid.ahead left) (known_from new.ahead left) line t.part h.bytes (rest left));
    }
  where
    rest : (left : Option (List ℕ)) → Consumes (known_from mid.ahead left) (known_from new.ahead left) t.part
    rest None = tt
    rest (Some xs) = ap (λ l. l ++ xs) t.ahead ∙ append_assoc t.part new.ahead xs

-- ---- where a line ends

-- a line feed comes next
pub line_ends : (old mid new : Lines) (before now after : Option (List ℕ)) (line : List ℕ) (next : Option ℕ) → LineSoFar old mid before now line → next ≡ Some newline → Consumes now after (option_to_list next) →
    new.taken ≡ mid.taken + length (option_to_list next) → new.taken ≤ new.lengths.file → new.lengths ≡ mid.lengths → TakesLine old new before after line
line_ends old mid new before now after line next h is bytes taken within lengths =
    let one : new.taken ≡ mid.taken + 1 = subst (λ o. new.taken ≡ mid.taken + length (option_to_list o)) is taken in
    let most = ap (λ l. l.file) (lengths ∙ h.lengths) in
    let long = ap (λ l. l.line) h.lengths in
    record {
      no_end = h.no_end;
      short = omega (arith, h.short, long);
      within = omega (arith, h.taken, one, within, most);
      taken = omega (arith, h.taken, one);
      lengths = lengths ∙ h.lengths;
      bytes = one_byte before now after line newline next is h.bytes bytes;
    }

-- the file ends
pub file_ends : (old mid new : Lines) (before now after : Option (List ℕ)) (line : List ℕ) (next : Option ℕ) → LineSoFar old mid before now line → next ≡ None → Consumes now after (option_to_list next) → IfNone next (IsAtEnd after) →
    new.taken ≡ mid.taken + length (option_to_list next) → new.taken ≤ new.lengths.file → new.lengths ≡ mid.lengths → (P : List ℕ → Type 0) → (EndsIn old line → P line) → IfSome before P
file_ends old mid new before now after line next h is bytes end taken within lengths P so =
    let none : new.taken ≡ mid.taken + 0 = subst (λ o. new.taken ≡ mid.taken + length (option_to_list o)) is taken in
    let most = ap (λ l. l.file) (lengths ∙ h.lengths) in
    let long = ap (λ l. l.line) h.lengths in
    let rest : Consumes now after [] = subst (λ o. Consumes now after (option_to_list o)) is bytes in
    let whole : Consumes before after line = subst (Consumes before after) (append-nil line) (Consumes-trans before now after line [] h.bytes rest) in
    Consumes-whole before after line P whole (subst (λ o. IfNone o (IsAtEnd after)) is end)
    (so (record { no_end = h.no_end; short = omega (arith, h.short, long); within = omega (arith, h.taken, none, within, most) }))

-- a byte comes next
pub not_over : (before after : Option (List ℕ)) (b : ℕ) → Consumes before after (b ∷ []) → IfSome before (λ bytes. bytes ≢ [])
not_over None after b taken = tt
not_over (Some xs) None b taken = absurd taken
not_over (Some xs) (Some ys) b taken = λ none. absurd (omega (arith, ap length (sym none ∙ taken)))
