-- Reading finds the lists of a text, or its first refusal before those of the lists' faults.
use Rattle.std.specs.Prelude.{◌≡◌, ℕ, zero, suc, ◌+◌, ◌<◌, ◌≤◌, List, [], ◌∷◌, ◌++◌, length, take, Option, Some, None, Result, Ok, Err}
use Rattle.std.proofs.Common.{refl, sym, ap, subst, ◌∙◌, arith, append_assoc, append-nil, length-append, inl, inr}
use Rattle.std.proofs.Math.Seq.{take-append_seam}
use Rattle.graph_core.specs.declared.fault.Field.{Field}
use Rattle.graph_core.specs.declared.profile.Profile.{Profile}
use Rattle.graph_core.specs.Aiger.{Form, Counts, Listing, Lists}
use Rattle.graph_core.specs.Aiger.Refusal.{refused_field, counts_of, IsHeaderText, HasHeader, IsHeaderLine, Begins, IsLongest, IsRestOrWrong, IsRestRefusal, Refusal, Text, Header, IsRefusal}
use Rattle.graph_core.specs.Aiger.Reading.{Stop, Stops, Wrong, left_of, header_at, rest_at, offset_of, or_text, behind_fields, behind_header, lists_at, ListsAreRead}
use Rattle.graph_core.proofs.OfTexts.Steady.{Outcome, Sound, Whole, same_Ok, same_Err}
use Rattle.graph_core.proofs.OfAiger.Readers.{header_steady}
use Rattle.graph_core.proofs.OfAiger.Tail.{Some_listing, rest_sound}
use Rattle.graph_core.proofs.OfTexts.Lines.{header_takes, header_again, header_not_wrong}
use Rattle.graph_core.proofs.OfAiger.Rests.{rest_takes, rest_again, rest_wrong, rest_wrong_again}
use Rattle.graph_core.proofs.OfAiger.Fields.{Splits, lists_split, lists_join}

-- ---- the longest front

take_beyond : (front : List ℕ) (b : ℕ) (tail : List ℕ) (k : ℕ) → length front < k → (t : List ℕ) × (take k (front ++ b ∷ tail) ≡ front ++ b ∷ t)
take_beyond front b tail zero h = absurd (omega arith)
take_beyond [] b tail (suc k) h = (take k tail, refl)
take_beyond (f ∷ front) b tail (suc k) h = let r = take_beyond front b tail k (omega arith) in (r.0, ap (λ ys. f ∷ ys) r.1)

module _ {B : Type 0} (P : B → Type 0) (R : List ℕ → Result B Stop) (sound : Sound P R) (IsText : List ℕ → Type 0)
    (into : (text : List ℕ) → Outcome P R text → IsText text) (out : (text rest : List ℕ) → IsText text → R text ≡ Err (Stops rest) → ⊥) where
  longest_at : (bytes rest front : List ℕ) → bytes ≡ front ++ rest → Begins IsText front → ((b : ℕ) (tail : List ℕ) → rest ≡ b ∷ tail → (more : List ℕ) → R (front ++ b ∷ more) ≡ Err (Stops (b ∷ more))) → IsLongest IsText bytes (length front)
  longest_at bytes rest front is begins blocked = (
    omega (arith, ap length is, length-append front rest),
    subst (Begins IsText) (sym (ap (take (length front)) is ∙ take-append_seam front rest)) begins,
    λ k more within. go rest is blocked k more within,
  )
    where
      go : (rs : List ℕ) → bytes ≡ front ++ rs → ((b : ℕ) (tail : List ℕ) → rs ≡ b ∷ tail → (more : List ℕ) → R (front ++ b ∷ more) ≡ Err (Stops (b ∷ more))) → (k : ℕ) → length front < k → k ≤ length bytes → Begins IsText (take k bytes) → ⊥
      go [] e stop k high within begun = omega (arith, ap length e, length-append front [])
      go (b ∷ tail) e stop k high within begun =
          let t = take_beyond front b tail k high in
          let text : take k bytes ++ begun.0 ≡ front ++ b ∷ (t.0 ++ begun.0) = ap (λ ys. take k ys ++ begun.0) e ∙ ap (λ ys. ys ++ begun.0) t.1 ∙ append_assoc front (b ∷ t.0) begun.0 in
          out (front ++ b ∷ (t.0 ++ begun.0)) (b ∷ (t.0 ++ begun.0)) (subst IsText text begun.1) (stop b tail refl (t.0 ++ begun.0))

  pub longest : (bytes rest : List ℕ) → R bytes ≡ Err (Stops rest) → (n : ℕ) × IsLongest IsText bytes n × (n + length rest ≡ length bytes)
  longest bytes rest h =
      let s = sound.stuck bytes rest h in (
        length s.front,
        longest_at bytes rest s.front s.is (s.open_end.0, into (s.front ++ s.open_end.0) s.open_end.1) s.blocked,
        sym (ap length s.is ∙ length-append s.front rest),
      )

pub longest_one : (IsText : List ℕ → Type 0) (bytes : List ℕ) (n m : ℕ) → IsLongest IsText bytes n → IsLongest IsText bytes m → n ≡ m
longest_one IsText bytes n m p q =
    let a : ¬ (n < m) = λ l. p.2 m l q.0 q.1 in
    let b : ¬ (m < n) = λ l. q.2 n l p.0 p.1 in
    omega arith

-- ---- the header

header_into : (text : List ℕ) → Outcome Whole header_at text → IsHeaderLine text
header_into text (inl o) =
    let t = header_takes text o.0.0.0 o.0.0.1 o.0.1 o.2 in
    (o.0.0.0, o.0.0.1, subst (λ ys. IsHeaderText ys o.0.0.0 o.0.0.1) (sym (t.2 ∙ ap (λ ys. t.0 ++ ys) o.1 ∙ append-nil t.0)) t.1)
header_into text (inr o) = absurd (header_not_wrong text o.0 o.1)

header_out : (text rest : List ℕ) → IsHeaderLine text → header_at text ≡ Err (Stops rest) → ⊥
header_out text rest h e =
    let again = ap header_at (sym (append-nil text)) ∙ header_again text h.0 h.1 [] h.2 in
    let both = sym again ∙ e in
    cc

pub header_longest : (bytes rest : List ℕ) → header_at bytes ≡ Err (Stops rest) → (n : ℕ) × IsLongest IsHeaderLine bytes n × (n + length rest ≡ length bytes)
header_longest = longest Whole header_at header_steady.sound IsHeaderLine header_into header_out

pub has_header_read : (bytes : List ℕ) (form : Form) (numbers rest : List ℕ) → HasHeader bytes form numbers rest → header_at bytes ≡ Ok ((form, numbers), rest)
has_header_read bytes form numbers rest h = ap header_at h.2 ∙ header_again h.0 form numbers rest h.1

-- ---- the rest

module _ (form : Form) (c : Counts) where
  rest_into : (text : List ℕ) → Outcome Some_listing (rest_at form c) text → IsRestOrWrong form c text
  rest_into text (inl o) = inl (o.0, rest_takes form c text o.0 o.2)
  rest_into text (inr o) = inr (o.0, rest_wrong form c text o.0 o.1)

  rest_out : (text rest : List ℕ) → IsRestOrWrong form c text → rest_at form c text ≡ Err (Stops rest) → ⊥
  rest_out text rest (inl o) e = let both = sym (rest_again form c text o.0 o.1) ∙ e in cc
  rest_out text rest (inr o) e = let both = sym (rest_wrong_again form c text o.0 o.1) ∙ e in cc

  pub rest_longest : (bytes rest : List ℕ) → rest_at form c bytes ≡ Err (Stops rest) → (n : ℕ) × IsLongest (IsRestOrWrong form c) bytes n × (n + length rest ≡ length bytes)
  rest_longest = longest Some_listing (rest_at form c) (rest_sound form c) (IsRestOrWrong form c) rest_into rest_out

  -- reading ends after the first n bytes exactly where the rest is refused there
  pub rest_refused : (bytes : List ℕ) (e : Stop) → rest_at form c bytes ≡ Err e → (n : ℕ) × IsRestRefusal form c bytes n × (n + length (left_of e) ≡ length bytes)
  rest_refused bytes (Wrong here) h =
      let m = (rest_sound form c).misfit bytes here h in
      let len : length m.front + length here ≡ length bytes =
      ap (λ n. length m.front + n) (ap length m.here_is) ∙ sym (length-append m.front (m.number ++ m.after)) ∙ sym (ap length m.is) in
      (length m.front, inl (here, rest_wrong form c bytes here h, len), len)
  rest_refused bytes (Stops rest) h =
      let l = rest_longest bytes rest h in (
        l.0,
        inr ((λ here w. let both = sym (rest_wrong_again form c bytes here w) ∙ h in cc), (λ g r. let both = sym (rest_again form c bytes g r) ∙ h in cc), l.1),
        l.2,
      )

  pub rest_refusal : (bytes : List ℕ) (n : ℕ) → IsRestRefusal form c bytes n → (e : Stop) × (rest_at form c bytes ≡ Err e) × (n + length (left_of e) ≡ length bytes)
  rest_refusal bytes n (inl w) = (Wrong w.0, rest_wrong_again form c bytes w.0 w.1, w.2)
  rest_refusal bytes n (inr l) = go (rest_at form c bytes) refl
    where
      go : (o : Result Listing Stop) → rest_at form c bytes ≡ o → (e : Stop) × (rest_at form c bytes ≡ Err e) × (n + length (left_of e) ≡ length bytes)
      go (Ok g) e = absurd (l.1 g (rest_takes form c bytes g e))
      go (Err (Wrong here)) e = absurd (l.0 here (rest_wrong form c bytes here e))
      go (Err (Stops rest)) e =
          let m = rest_longest bytes rest e in
          (Stops rest, e, ap (λ k. k + length rest) (longest_one (IsRestOrWrong form c) bytes n m.0 l.2 m.1) ∙ m.2)

-- ---- the file

pub lists_take : (p : Profile) (bytes : List ℕ) (g : Listing) → lists_at p bytes ≡ Ok g → Lists p bytes g
lists_take p bytes g h = go (header_at bytes) refl h
  where
    rest_step : (form : Form) (numbers rest : List ℕ) (o : Result Listing Stop) → or_text bytes o ≡ Ok g → o ≡ Ok g
    rest_step form numbers rest (Ok x) f = ap Ok (same_Ok x g f)
    rest_step form numbers rest (Err e) f = absurd (cc)

    field_step : (form : Form) (numbers rest : List ℕ) → HasHeader bytes form numbers rest → (o : Option Field) → refused_field p form numbers ≡ o → behind_fields bytes form numbers rest o ≡ Ok g → Splits p bytes g
    field_step form numbers rest header None e f = (form, numbers, rest, header, e, rest_takes form (counts_of numbers) rest g (rest_step form numbers rest (rest_at form (counts_of numbers) rest) f))
    field_step form numbers rest header (Some x) e f = absurd (cc)

    go : (o : Result ((Form × List ℕ) × List ℕ) Stop) → header_at bytes ≡ o → behind_header p bytes o ≡ Ok g → Lists p bytes g
    go (Ok x) e f = lists_join p bytes g (field_step x.0.0 x.0.1 x.1 (header_takes bytes x.0.0 x.0.1 x.1 e) (refused_field p x.0.0 x.0.1) refl f)
    go (Err x) e f = absurd (cc)

-- reading after a header of which no field is refused
pub behind_good : (p : Profile) (bytes : List ℕ) (form : Form) (numbers rest : List ℕ) → HasHeader bytes form numbers rest → refused_field p form numbers ≡ None → lists_at p bytes ≡ or_text bytes (rest_at form (counts_of numbers) rest)
behind_good p bytes form numbers rest header none =
    ap (behind_header p bytes) (has_header_read bytes form numbers rest header) ∙ ap (behind_fields bytes form numbers rest) none

pub lists_again : (p : Profile) (bytes : List ℕ) (g : Listing) → Lists p bytes g → lists_at p bytes ≡ Ok g
lists_again p bytes g h =
    let s = lists_split p bytes g h in
    behind_good p bytes s.0 s.1 s.2 s.3 s.4 ∙ ap (or_text bytes) (rest_again s.0 (counts_of s.1) s.2 g s.5)

pub lists_are_read : ListsAreRead
lists_are_read p bytes g = (lists_take p bytes g, lists_again p bytes g)

pub lists_refused : (p : Profile) (bytes : List ℕ) (r : Refusal) → lists_at p bytes ≡ Err r → IsRefusal p bytes r
lists_refused p bytes r h = go (header_at bytes) refl h
  where
    text_at : (n : ℕ) (e : Stop) → n + length (left_of e) ≡ length bytes → n ≡ offset_of bytes (left_of e)
    text_at n e l = omega arith

    rest_step : (form : Form) (numbers rest : List ℕ) → HasHeader bytes form numbers rest → refused_field p form numbers ≡ None → (o : Result Listing Stop) → rest_at form (counts_of numbers) rest ≡ o → or_text bytes o ≡ Err r → IsRefusal p bytes r
    rest_step form numbers rest header none (Ok x) e f = absurd (cc)
    rest_step form numbers rest header none (Err x) e f =
        let d = rest_refused form (counts_of numbers) rest x e in
        let long : length bytes ≡ length header.0 + length rest = ap length header.2 ∙ length-append header.0 rest in
        let len : d.0 + length (left_of x) ≡ length rest = d.2 in
        subst (IsRefusal p bytes) (same_Err (Text (offset_of bytes (left_of x))) r f) (inr (form, numbers, rest, d.0, header, none, d.1, omega arith))

    field_step : (form : Form) (numbers rest : List ℕ) → HasHeader bytes form numbers rest → (o : Option Field) → refused_field p form numbers ≡ o → behind_fields bytes form numbers rest o ≡ Err r → IsRefusal p bytes r
    field_step form numbers rest header None e f = rest_step form numbers rest header e (rest_at form (counts_of numbers) rest) refl f
    field_step form numbers rest header (Some x) e f = subst (IsRefusal p bytes) (same_Err (Header x) r f) (form, numbers, rest, header, e)

    go : (o : Result ((Form × List ℕ) × List ℕ) Stop) → header_at bytes ≡ o → behind_header p bytes o ≡ Err r → IsRefusal p bytes r
    go (Ok x) e f = field_step x.0.0 x.0.1 x.1 (header_takes bytes x.0.0 x.0.1 x.1 e) (refused_field p x.0.0 x.0.1) refl f
    go (Err (Wrong here)) e f = absurd (header_not_wrong bytes here e)
    go (Err (Stops rest)) e f =
        let l = header_longest bytes rest e in
        let none : (form : Form) (numbers left : List ℕ) → HasHeader bytes form numbers left → ⊥ = λ form numbers left header. let both = sym (has_header_read bytes form numbers left header) ∙ e in cc in
        subst (IsRefusal p bytes) (same_Err (Text (offset_of bytes rest)) r f) (inl (none, subst (IsLongest IsHeaderLine bytes) (text_at l.0 (Stops rest) l.2) l.1))

pub text_refused : (p : Profile) (bytes : List ℕ) (at : ℕ) → IsRefusal p bytes (Text at) → lists_at p bytes ≡ Err (Text at)
text_refused p bytes at (inl h) = go (header_at bytes) refl
  where
    go : (o : Result ((Form × List ℕ) × List ℕ) Stop) → header_at bytes ≡ o → lists_at p bytes ≡ Err (Text at)
    go (Ok x) e = absurd (h.0 x.0.0 x.0.1 x.1 (header_takes bytes x.0.0 x.0.1 x.1 e))
    go (Err (Wrong here)) e = absurd (header_not_wrong bytes here e)
    go (Err (Stops rest)) e =
        let l = header_longest bytes rest e in
        let one = longest_one IsHeaderLine bytes at l.0 h.1 l.1 in
        let len : l.0 + length rest ≡ length bytes = l.2 in
        let here : offset_of bytes rest ≡ at = omega arith in
        ap (behind_header p bytes) e ∙ ap (λ n. Err (Text n)) here
text_refused p bytes at (inr (form, numbers, rest, n, header, none, refused, is)) =
    let r = rest_refusal form (counts_of numbers) rest n refused in
    let len : n + length (left_of r.0) ≡ length rest = r.2 in
    let here : offset_of bytes (left_of r.0) ≡ at = omega arith in
    behind_good p bytes form numbers rest header none ∙ ap (or_text bytes) r.1 ∙ ap (λ m. Err (Text m)) here

pub header_refused : (p : Profile) (bytes : List ℕ) (f : Field) → IsRefusal p bytes (Header f) → lists_at p bytes ≡ Err (Header f)
header_refused p bytes f (form, numbers, rest, header, refused) =
    ap (behind_header p bytes) (has_header_read bytes form numbers rest header) ∙ ap (behind_fields bytes form numbers rest) refused
