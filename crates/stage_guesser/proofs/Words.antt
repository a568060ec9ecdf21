-- Values by the words of a signature.
use Rattle.std.specs.Prelude.{◌≡◌, ◌≢◌, ℕ, ◌+◌, ◌-◌, ◌*◌, ◌/◌, ◌%◌, ◌^◌, ◌<◌, ◌≤◌, min, max, Bool, true, false, List, length, slice_index, bit_and, bit_or, bit_xor, if◌then◌else◌}
use Rattle.std.specs.Int.{bit_at}
use Rattle.stage_guesser.specs.declared.signature.Signature.{Signature}
use Rattle.std.proofs.Common.{refl, sym, ap, subst, ◌∙◌, arith, set, ⊎_elim}
use Rattle.std.proofs.lemmas.Bool.{cases_eq}
use Rattle.std.proofs.lemmas.Grind.{same_number_lists}
use Rattle.std.proofs.lemmas.List.{get_or-set_other, get_or-set_same}
use Rattle.std.proofs.lemmas.Nat.{one_shl}
use Rattle.std.proofs.lemmas.Nat.Bits.{bit_at_and, bit_at_or, bit_at_xor, bit_at_ones, bit_at-lt, bit_at-pow_other, bit_at-pow_same, bit_at-zero}

-- the value on a pattern
abbrev pub on : List ℕ → ℕ → ℕ
on words p = bit_at (slice_index words (p / 64)) (p % 64)

pub and_values : (xs ys zs : List ℕ) (p : ℕ) → p < 1536 → ((k : ℕ) → k < 24 → slice_index zs k ≡ bit_and (slice_index xs k) (slice_index ys k)) → on zs p ≡ min (on xs p) (on ys p)
and_values xs ys zs p below each =
    let k = p / 64 in
    ap (λ w. bit_at w (p % 64)) (each k (omega arith)) ∙ bit_at_and (slice_index xs k) (slice_index ys k) (p % 64)

flipped : (negated : Bool) (x i : ℕ) → i < 64 → bit_at (bit_xor x (if negated then 2 ^ 64 - 1 else 0)) i ≡ (if negated then 1 - bit_at x i else bit_at x i)
flipped true x i below = bit_at_xor x (2 ^ 64 - 1) i ∙ ap (λ b. (bit_at x i + b) % 2) (bit_at_ones 64 i below) ∙ turned (bit_at x i) (bit_at-lt x i)
  where
    turned : (b : ℕ) → b < 2 → (b + 1) % 2 ≡ 1 - b
    turned b h = omega arith
flipped false x i below = bit_at_xor x 0 i ∙ ap (λ b. (bit_at x i + b) % 2) (bit_at-zero i) ∙ same (bit_at x i) (bit_at-lt x i)
  where
    same : (b : ℕ) → b < 2 → (b + 0) % 2 ≡ b
    same b h = omega arith

pub negated_values : (negated : Bool) (xs zs : List ℕ) (mask p : ℕ) → p < 1536 → mask ≡ (if negated then 2 ^ 64 - 1 else 0) → ((k : ℕ) → k < 24 → slice_index zs k ≡ bit_xor (slice_index xs k) mask) →
    on zs p ≡ (if negated then 1 - on xs p else on xs p)
negated_values negated xs zs mask p below is each =
    let k = p / 64 in
    ap (λ w. bit_at w (p % 64)) (each k (omega arith) ∙ ap (bit_xor (slice_index xs k)) is) ∙ flipped negated (slice_index xs k) (p % 64) (omega arith)

-- ---- a word with one bit more

abbrev pub with_bit : List ℕ → ℕ → List ℕ
with_bit words p = set words (p / 64) (bit_or (slice_index words (p / 64)) (1 * 2 ^ (p % 64) % 2 ^ 64))

bit_set : (x i : ℕ) → bit_at (bit_or x (2 ^ i)) i ≡ 1
bit_set x i = bit_at_or x (2 ^ i) i ∙ ap (max (bit_at x i)) (bit_at-pow_same i) ∙ most (bit_at x i) (bit_at-lt x i)
  where
    most : (b : ℕ) → b < 2 → max b 1 ≡ 1
    most b h = omega arith

bit_other : (x i j : ℕ) → j ≢ i → bit_at (bit_or x (2 ^ i)) j ≡ bit_at x j
bit_other x i j other = bit_at_or x (2 ^ i) j ∙ ap (max (bit_at x j)) (bit_at-pow_other i j other) ∙ same (bit_at x j)
  where
    same : (b : ℕ) → max b 0 ≡ b
    same b = omega arith

word_here : (words : List ℕ) (p k : ℕ) → p / 64 < length words → k ≡ p / 64 → slice_index (with_bit words p) k ≡ bit_or (slice_index words k) (2 ^ (p % 64))
word_here words p k inside is =
    subst (λ n. slice_index (with_bit words p) n ≡ bit_or (slice_index words n) (2 ^ (p % 64))) (sym is)
    (get_or-set_same words (p / 64) _ 0 inside ∙ ap (bit_or (slice_index words (p / 64))) (one_shl (p % 64) 64 (omega arith)))

pub set_here : (words : List ℕ) (p : ℕ) → p / 64 < length words → on (with_bit words p) p ≡ 1
set_here words p inside = ap (λ w. bit_at w (p % 64)) (word_here words p (p / 64) inside refl) ∙ bit_set (slice_index words (p / 64)) (p % 64)

pub set_others : (words : List ℕ) (p q : ℕ) → p / 64 < length words → q ≢ p → on (with_bit words p) q ≡ on words q
set_others words p q inside other = ⊎_elim same_word other_word (cases_eq (q / 64) (p / 64))
  where
    same_word : q / 64 ≡ p / 64 → on (with_bit words p) q ≡ on words q
    same_word e = ap (λ w. bit_at w (q % 64)) (word_here words p (q / 64) inside e) ∙ bit_other (slice_index words (q / 64)) (p % 64) (q % 64) (λ f. other (omega arith))

    other_word : q / 64 ≢ p / 64 → on (with_bit words p) q ≡ on words q
    other_word e = ap (λ w. bit_at w (q % 64)) (get_or-set_other words (p / 64) (q / 64) _ 0 e)

-- ---- word by word

pub done_more : (f : ℕ → ℕ) (xs zs : List ℕ) (i : ℕ) → i < length zs → ((k : ℕ) → k < i → slice_index zs k ≡ f (slice_index xs k)) → ((k : ℕ) → i ≤ k → slice_index zs k ≡ slice_index xs k) →
    (k : ℕ) → k < i + 1 → slice_index (set zs i (f (slice_index zs i))) k ≡ f (slice_index xs k)
done_more f xs zs i inside done rest k below = ⊎_elim here before (cases_eq k i)
  where
    here : k ≡ i → slice_index (set zs i (f (slice_index zs i))) k ≡ f (slice_index xs k)
    here e = subst (λ n. slice_index (set zs i (f (slice_index zs i))) n ≡ f (slice_index xs n)) (sym e) (get_or-set_same zs i _ 0 inside ∙ ap f (rest i (omega arith)))

    before : k ≢ i → slice_index (set zs i (f (slice_index zs i))) k ≡ f (slice_index xs k)
    before e = get_or-set_other zs i k _ 0 e ∙ done k (omega arith)

pub rest_more : (xs zs : List ℕ) (i x : ℕ) → ((k : ℕ) → i ≤ k → slice_index zs k ≡ slice_index xs k) → (k : ℕ) → i + 1 ≤ k → slice_index (set zs i x) k ≡ slice_index xs k
rest_more xs zs i x rest k above = get_or-set_other zs i k x 0 (omega arith) ∙ rest k (omega arith)

-- signatures with equal words
pub same_signatures : (one other : Signature) → length one.words ≡ length other.words → ((k : ℕ) → k < length one.words → slice_index one.words k ≡ slice_index other.words k) → one ≡ other
same_signatures one other long each = ap (λ (words : List ℕ). signature words) (same_number_lists one.words other.words long each)
  where
    signature : List ℕ → Signature
    signature words = record { words = words }
