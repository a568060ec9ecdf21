-- Premises that say the same have the same lawful files and the same refusals.
use Rattle.std.proofs.Common.{◌≡◌, ℕ, zero, suc, List, [], ◌∷◌, refl, sym, ap, subst, ◌∙◌, inl, inr}
use Rattle.std.specs.Prelude.{IsSome}
use Rattle.graph_core.specs.Graph.Assignments.{Assignment}
use Rattle.graph_core.specs.Graph.Extended.{Extended, modulus}
use Rattle.graph_core.specs.Graph.Operands.{Sides}
use Rattle.graph_core.specs.Text.JudgedLines.{Behind, Lengths}
use Rattle.algebra_core.specs.AlgebraLines.{Line, Sum, Product, Combination, Import, Delete, Ledger, Premises, AreLawfulLines, Closes, IsLawfulLine, after, after_all, beginning, import_of}
use Rattle.algebra_core.specs.Text.{IsLawfulAlgebraFile, IsLineText}
use Rattle.algebra_core.specs.Refusal.{AlgebraCause, IsAlgebraRefusal, IsAlgebraStep, IsRefusedNext, IsRefusedText}
use Rattle.algebra_core.specs.Agreement.{AreSameImports, AreSamePremises, LedgersAgree, PremisesAreKept}
use Rattle.algebra_core.proofs.Agreements.{after_agrees, agree_refl, closes_agrees, lawful_agrees, refused_agrees, refused_close_agrees}

-- ---- ledgers that agree

pub lines_agree : (m : ℕ) (l k : Ledger) → LedgersAgree l k → (xs : List Line) → AreLawfulLines m l xs → AreLawfulLines m k xs × LedgersAgree (after_all m l xs) (after_all m k xs)
lines_agree m l k a [] h = (tt, a)
lines_agree m l k a (x ∷ xs) h =
    let more = lines_agree m (after m l x) (after m k x) (after_agrees m l k a x) xs h.1 in
    ((lawful_agrees m l k a x h.0, more.0), more.1)

module _ (version : ℕ) (e : Extended) (sides : Sides) (IsLong : List ℕ → Type 0) where
  module _ (l k : Ledger) (agrees : LedgersAgree l k) (left : List ℕ) (q : ℕ × AlgebraCause) where
    text_agrees : IsRefusedText version e sides IsLong l left q → IsRefusedText version e sides IsLong k left q
    text_agrees (inl h) = inl h
    text_agrees (inr (inl h)) = inr (inl (h.0, h.1, h.2, (h.3.0, refused_agrees e l k agrees h.0 h.3.0 h.3.1, h.3.2)))
    text_agrees (inr (inr (id, rest, begins, inl h))) = inr (inr (id, rest, begins, inl (h.0, refused_close_agrees e sides l k agrees id h.0 h.1, h.2)))
    text_agrees (inr (inr (id, rest, begins, inr h))) = inr (inr (id, rest, begins, inr ((h.0.0, closes_agrees e sides l k agrees id h.0.1), h.1)))

    -- they have the same refusals
    pub next_agrees : IsRefusedNext version e sides IsLong l left q → IsRefusedNext version e sides IsLong k left q
    next_agrees (inl h) = inl h
    next_agrees (inr h) = inr (h.0, text_agrees h.1)

  abbrev RefusedBehind : ℕ × AlgebraCause → List Line → Ledger → List ℕ → Type 0
  RefusedBehind q xs l left = Behind (IsLineText version) (IsAlgebraStep e) IsLong (λ l left. IsRefusedNext version e sides IsLong l left q) xs l left

  behind_agrees : (q : ℕ × AlgebraCause) (xs : List Line) (l k : Ledger) → LedgersAgree l k → (left : List ℕ) → RefusedBehind q xs l left → RefusedBehind q xs k left
  behind_agrees q [] l k a left h = next_agrees l k a left q h
  behind_agrees q (x ∷ xs) l k a left (rest, next, short, begins, step, more) = (
    rest,
    after (modulus e) k x,
    short,
    begins,
    (step.0, lawful_agrees (modulus e) l k a x step.1, refl),
    behind_agrees q xs (after (modulus e) l x) (after (modulus e) k x) (after_agrees (modulus e) l k a x) rest (subst (λ z. RefusedBehind q xs z rest) step.2 more),
  )

-- ---- premises

module _ (version : ℕ) (e : Extended) where
  abbrev over : List (Assignment → ℕ) → Premises
  over imports = record { version = version; extended = e; imports = imports }

  begin_alike : (fs gs : List (Assignment → ℕ)) → AreSameImports fs gs → LedgersAgree (beginning (over fs)) (beginning (over gs))
  begin_alike fs gs same =
      let whole = agree_refl (beginning (over fs)) in
      record { last = whole.last; lines = whole.lines; imports = same }

  lawful_over : (fs gs : List (Assignment → ℕ)) → AreSameImports fs gs → (s : Sides) (bytes : List ℕ) → IsLawfulAlgebraFile (over fs) s bytes → IsLawfulAlgebraFile (over gs) s bytes
  lawful_over fs gs same s bytes h =
      let m = modulus e in
      let lines = lines_agree m (beginning (over fs)) (beginning (over gs)) (begin_alike fs gs same) h.lines h.lawful.0 in
      record {
        lines = h.lines;
        closing = h.closing;
        text = h.text;
        in_range = h.in_range;
        closing_in_range = h.closing_in_range;
        lawful = (lines.0, closes_agrees e s (after_all m (beginning (over fs)) h.lines) (after_all m (beginning (over gs)) h.lines) lines.1 h.closing h.lawful.1);
      }

  refused_over : (fs gs : List (Assignment → ℕ)) → AreSameImports fs gs → (s : Sides) (lengths : Lengths) (bytes : List ℕ) (c : ℕ × AlgebraCause) →
      IsAlgebraRefusal (over fs) s lengths bytes c → IsAlgebraRefusal (over gs) s lengths bytes c
  refused_over fs gs same s lengths bytes c (inl h) = inl h
  refused_over fs gs same s lengths bytes c (inr (short, inl h)) = inr (short, inl h)
  refused_over fs gs same s lengths bytes c (inr (short, inr (body, is, (lines, q, behind, at)))) =
      inr (short, inr (body, is, (lines, q, behind_agrees version e s _ q lines (beginning (over fs)) (beginning (over gs)) (begin_alike fs gs same) body behind, at)))

-- ---- nothing to import

abbrev with_imports : Ledger → List (Assignment → ℕ) → Ledger
with_imports l imports = record { live = l.live; last = l.last; imports = imports }

none_there : (fs : List (Assignment → ℕ)) (number : ℕ) → fs ≡ [] → IsSome (import_of fs number) → ⊥
none_there fs zero none h = absurd (cc)
none_there fs (suc i) none h = let there : IsSome (import_of [] (suc i)) = subst (λ z. IsSome (import_of z (suc i))) none h in absurd (cc)

module _ (m : ℕ) (imports : List (Assignment → ℕ)) where
  lawful_fuller : (l : Ledger) → l.imports ≡ [] → (x : Line) → IsLawfulLine m l x → IsLawfulLine m (with_imports l imports) x
  lawful_fuller l none (Sum id i j p) h = record { new_id = h.new_id; live_operands = h.live_operands; there = tt; equal = h.equal }
  lawful_fuller l none (Product id i q p) h = record { new_id = h.new_id; live_operands = h.live_operands; there = tt; equal = h.equal }
  lawful_fuller l none (Combination id parts p) h = record { new_id = h.new_id; live_operands = h.live_operands; there = tt; equal = h.equal }
  lawful_fuller l none (Import id number p) h = absurd (none_there l.imports number none h.there)
  lawful_fuller l none (Delete id) h = record { new_id = h.new_id; live_operands = h.live_operands; there = tt; equal = h.equal }

  after_fuller : (l : Ledger) (x : Line) → after m (with_imports l imports) x ≡ with_imports (after m l x) imports
  after_fuller l (Sum id i j p) = refl
  after_fuller l (Product id i q p) = refl
  after_fuller l (Combination id parts p) = refl
  after_fuller l (Import id number p) = refl
  after_fuller l (Delete id) = refl

  after_imports : (l : Ledger) (x : Line) → (after m l x).imports ≡ l.imports
  after_imports l (Sum id i j p) = refl
  after_imports l (Product id i q p) = refl
  after_imports l (Combination id parts p) = refl
  after_imports l (Import id number p) = refl
  after_imports l (Delete id) = refl

  lines_fuller : (l : Ledger) → l.imports ≡ [] → (xs : List Line) → AreLawfulLines m l xs →
      AreLawfulLines m (with_imports l imports) xs × (after_all m (with_imports l imports) xs ≡ with_imports (after_all m l xs) imports)
  lines_fuller l none [] h = (tt, refl)
  lines_fuller l none (x ∷ xs) h =
      let more = lines_fuller (after m l x) (after_imports l x ∙ none) xs h.1 in
      let next = sym (after_fuller l x) in (
        (lawful_fuller l none x h.0, subst (λ z. AreLawfulLines m z xs) next more.0),
        ap (λ z. after_all m z xs) (sym next) ∙ more.1,
      )

without_imports : (version : ℕ) (e : Extended) (imports : List (Assignment → ℕ)) (s : Sides) (bytes : List ℕ) → IsLawfulAlgebraFile (over version e []) s bytes → IsLawfulAlgebraFile (over version e imports) s bytes
without_imports version e imports s bytes h =
    let m = modulus e in
    let lines = lines_fuller m imports (beginning (over version e [])) refl h.lines h.lawful.0 in
    record {
      lines = h.lines;
      closing = h.closing;
      text = h.text;
      in_range = h.in_range;
      closing_in_range = h.closing_in_range;
      lawful = (lines.0, subst (λ z. Closes e s z.live h.closing) (sym lines.1) h.lawful.1);
    }

pub premises_are_kept : PremisesAreKept
premises_are_kept = record { lawful = lawful; refused = refused; without_imports = without_imports }
  where
    lawful : (p q : Premises) → AreSamePremises p q → (s : Sides) (bytes : List ℕ) → IsLawfulAlgebraFile p s bytes → IsLawfulAlgebraFile q s bytes
    lawful p q same s bytes h =
        let there : IsLawfulAlgebraFile (over q.version q.extended p.imports) s bytes =
        subst (λ f. IsLawfulAlgebraFile (over q.version f p.imports) s bytes) same.extended (subst (λ v. IsLawfulAlgebraFile (over v p.extended p.imports) s bytes) same.version h) in
        lawful_over q.version q.extended p.imports q.imports same.imports s bytes there

    refused : (p q : Premises) → AreSamePremises p q → (s : Sides) (lengths : Lengths) (bytes : List ℕ) (c : ℕ × AlgebraCause) → IsAlgebraRefusal p s lengths bytes c → IsAlgebraRefusal q s lengths bytes c
    refused p q same s lengths bytes c h =
        let there : IsAlgebraRefusal (over q.version q.extended p.imports) s lengths bytes c =
        subst (λ f. IsAlgebraRefusal (over q.version f p.imports) s lengths bytes c) same.extended (subst (λ v. IsAlgebraRefusal (over v p.extended p.imports) s lengths bytes c) same.version h) in
        refused_over q.version q.extended p.imports q.imports same.imports s lengths bytes c there
