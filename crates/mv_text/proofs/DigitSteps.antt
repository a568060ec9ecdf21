-- Digits at the front, looked at one after the other.
use Rattle.std.proofs.Common.{◌≡◌, ℕ, ◌+◌, ◌-◌, ◌*◌, ◌<◌, ◌≤◌, ◌^◌, ◌⊎◌, ◌&&◌, suc, Bool, true, false, List, [], ◌∷◌, ◌++◌, Option, None, Some, length, get_or, take, drop, sym, ap, ap₂, ◌∙◌, cond, ltb, leb, lt-ltb, le-leb, lit<, ⊎_elim, arith, refl, append_assoc, length-append}
use Rattle.std.proofs.lemmas.Grind.{pow_more}
use Rattle.std.proofs.Math.Nat.{pow-le-pow_right}
use Rattle.std.proofs.lemmas.Bool.{cases_lt, lt-leb}
use Rattle.std.proofs.lemmas.List.{append-nil, drop_all, drop_more, length-take-le, take_more}
use Rattle.std.proofs.lemmas.List.Sums.{fold_more}
use Rattle.graph_core.specs.Text.{decimal}
use Rattle.graph_core.specs.Text.Numerals.{number_at, is_digit, digits_of, behind_digits}
use Rattle.mv_text.specs.NumbersAhead.{IsNumberAhead}
use Rattle.mv_text.specs.Steps.{IsDigitsOf}

-- what a test of a byte tells
pub is_one : (b : ℕ) → 48 ≤ b → b ≤ 57 → is_digit b ≡ true
is_one b low high = let below : b < 58 = omega arith in ap₂ ◌&&◌ (le-leb 48 b low) (lt-ltb b 58 below)

and_none : (c : Bool) → (c && false) ≡ false
and_none true = refl
and_none false = refl

pub is_none : (b : ℕ) → (b < 48) ⊎ (57 < b) → is_digit b ≡ false
is_none b other = ⊎_elim (λ low. ap (λ c. c && ltb b 58) (lt-leb 48 b low)) (λ high. let past : 58 < suc b = omega arith in ap (λ c. leb 48 b && c) (lt-leb (suc b) 58 past) ∙ and_none (leb 48 b)) other

-- What a loop over the digits keeps: those before a place are digits, and spell the number.
pub record AreDigitsTo (most : ℕ) (bytes : List ℕ) (number i : ℕ) : Type 0 where
  pub within : i ≤ length bytes
  pub few : i ≤ most
  pub front : digits_of bytes ≡ take i bytes ++ digits_of (drop i bytes)
  pub left : behind_digits bytes ≡ behind_digits (drop i bytes)
  pub spelled : number ≡ decimal (take i bytes)
  pub small : number < 10 ^ i

pub no_digits : (most : ℕ) (bytes : List ℕ) → AreDigitsTo most bytes 0 0
no_digits most bytes = record { within = omega arith; few = omega arith; front = refl; left = refl; spelled = refl; small = lit< tt }

-- one of few digits more: the number stays below 2^64
pub more_small : (n i d : ℕ) → n < 10 ^ i → i < 19 → d < 10 → (10 * n + d < 2 ^ 64) × (10 * n + d < 10 ^ (i + 1))
more_small n i d small few digit =
    let last : i ≤ 18 = omega arith in
    let cap : 10 ^ i ≤ 10 ^ 18 = pow-le-pow_right (omega arith) last in
    (omega arith, omega (arith, pow_more 10 i))

pub one_more_digit : (most : ℕ) (bytes : List ℕ) (number i d : ℕ) → i < length bytes → i < most → most ≤ 19 → is_digit (get_or bytes i 0) ≡ true → d ≡ get_or bytes i 0 - 48 → d < 10 → AreDigitsTo most bytes number i →
    AreDigitsTo most bytes (10 * number + d) (i + 1)
one_more_digit most bytes number i d low few cap digit is below at =
    let b : ℕ = get_or bytes i 0 in
    let rest : List ℕ = drop (i + 1) bytes in
    let first : drop i bytes ≡ b ∷ rest = drop_more bytes i 0 low in
    let early : i < 19 = omega arith in
    record {
      within = omega arith;
      few = omega arith;
      front = at.front ∙ ap (λ bs. take i bytes ++ digits_of bs) first ∙ ap (λ c. take i bytes ++ cond c (b ∷ digits_of rest) []) digit ∙
          sym (append_assoc (take i bytes) (b ∷ []) (digits_of rest)) ∙ ap (λ bs. bs ++ digits_of rest) (sym (take_more bytes i 0 low));
      left = at.left ∙ ap behind_digits first ∙ ap (λ c. cond c (behind_digits rest) (b ∷ rest)) digit;
      spelled = ap₂ (λ n k. 10 * n + k) at.spelled is ∙ sym (fold_more (λ n k. 10 * n + (k - 48)) 0 bytes i 0 low);
      small = (more_small number i d at.small early below).1;
    }

-- where no digit comes next, those before are all
none_left : (bytes : List ℕ) (i : ℕ) → (length bytes ≤ i) ⊎ (is_digit (get_or bytes i 0) ≡ false) → (digits_of (drop i bytes) ≡ []) × (behind_digits (drop i bytes) ≡ drop i bytes)
none_left bytes i ends = ⊎_elim at_end (λ other. ⊎_elim (before other) at_end (cases_lt i (length bytes))) ends
  where
    at_end : length bytes ≤ i → (digits_of (drop i bytes) ≡ []) × (behind_digits (drop i bytes) ≡ drop i bytes)
    at_end high = let none : drop i bytes ≡ [] = drop_all i bytes high in (ap digits_of none, ap behind_digits none ∙ sym none)

    before : is_digit (get_or bytes i 0) ≡ false → i < length bytes → (digits_of (drop i bytes) ≡ []) × (behind_digits (drop i bytes) ≡ drop i bytes)
    before other low =
        let b : ℕ = get_or bytes i 0 in
        let rest : List ℕ = drop (i + 1) bytes in
        let first : drop i bytes ≡ b ∷ rest = drop_more bytes i 0 low in
        (ap digits_of first ∙ ap (λ c. cond c (b ∷ digits_of rest) []) other, ap behind_digits first ∙ ap (λ c. cond c (behind_digits rest) (b ∷ rest)) other ∙ sym first)

all_of : (most : ℕ) (bytes : List ℕ) (number i : ℕ) → (length bytes ≤ i) ⊎ (is_digit (get_or bytes i 0) ≡ false) → AreDigitsTo most bytes number i → digits_of bytes ≡ take i bytes
all_of most bytes number i ends at = at.front ∙ ap (λ ds. take i bytes ++ ds) (none_left bytes i ends).0 ∙ append-nil (take i bytes)

pub all_ahead : (most : ℕ) (bytes : List ℕ) (number i : ℕ) → 0 < i → (length bytes ≤ i) ⊎ (is_digit (get_or bytes i 0) ≡ false) → AreDigitsTo most bytes number i → IsNumberAhead most bytes number i
all_ahead most bytes number i some ends at =
    let count : length (take i bytes) ≡ i = length-take-le i bytes at.within in
    record {
      digits = record { digits_are = sym (all_of most bytes number i ends at); some = omega (arith, count); few = omega (arith, count, at.few); left = sym (at.left ∙ (none_left bytes i ends).1) };
      within = at.within;
      spelled = at.spelled;
    }

-- no digit at the front
pub none_ahead : (most : ℕ) (bytes : List ℕ) (number i : ℕ) → i ≡ 0 → (length bytes ≤ i) ⊎ (is_digit (get_or bytes i 0) ≡ false) → AreDigitsTo most bytes number i → number_at most bytes ≡ None
none_ahead most bytes number i none ends at =
    let all : digits_of bytes ≡ [] = all_of most bytes number i ends at ∙ ap (λ k. take k bytes) none in
    ap (λ n. cond (ltb 0 n && leb n most) (Some (decimal (digits_of bytes), behind_digits bytes)) None) (ap length all)

too_long : (most n : ℕ) (x : Option (ℕ × List ℕ)) → most < n → cond (ltb 0 n && leb n most) x None ≡ None
too_long most n x more =
    let some : 0 < n = omega arith in
    ap (λ c. cond c x None) (ap₂ ◌&&◌ (lt-ltb 0 n some) (lt-leb n most more))

-- one digit too many
pub too_many : (most : ℕ) (bytes : List ℕ) (number i : ℕ) → i < length bytes → i ≡ most → is_digit (get_or bytes i 0) ≡ true → AreDigitsTo most bytes number i → number_at most bytes ≡ None
too_many most bytes number i low full digit at =
    let b : ℕ = get_or bytes i 0 in
    let rest : List ℕ = drop (i + 1) bytes in
    let count : length (take i bytes) ≡ i = length-take-le i bytes at.within in
    let next : digits_of (drop i bytes) ≡ b ∷ digits_of rest = ap digits_of (drop_more bytes i 0 low) ∙ ap (λ c. cond c (b ∷ digits_of rest) []) digit in
    let longer : length (digits_of bytes) ≡ length (take i bytes) + length (b ∷ digits_of rest) =
    ap length (at.front ∙ ap (λ ds. take i bytes ++ ds) next) ∙ length-append (take i bytes) (b ∷ digits_of rest) in
    too_long most (length (digits_of bytes)) (Some (decimal (digits_of bytes), behind_digits bytes)) (omega arith)

-- a number of few digits is one of more
pub more_allowed : (few most : ℕ) (bytes digits new : List ℕ) → few ≤ most → IsDigitsOf few bytes digits new → IsDigitsOf most bytes digits new
more_allowed few most bytes digits new less is = record { digits_are = is.digits_are; some = is.some; few = omega (arith, is.few); left = is.left }
