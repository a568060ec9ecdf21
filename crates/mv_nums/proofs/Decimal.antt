-- Std's decimal text is the numeral, and a numeral grows with each digit.
use Rattle.std.proofs.Common.{◌≡◌, ℕ, ◌<◌, ◌+◌, ◌*◌, ◌%◌, ◌/◌, ◌^◌, ◌≤◌, List, [], ◌∷◌, ◌++◌, All, length, decimal, take, drop, Some, slice_get, fold, get_or, refl, sym, ap, ◌∙◌, arith, rules}
use Rattle.std.proofs.Math.Nat.{pow-le-pow_right}
use Rattle.std.proofs.lemmas.Grind.{pow_more}
use Rattle.std.proofs.lemmas.Fmt.{decimal_is_IsNumeral_wide, decimal_by_steps_wide, decimal_digit}
use Rattle.std.proofs.lemmas.Str.Parse.{IsDigitsTest, FoldsDigits, IsNumeralModel, numerals_by_fold}
use Rattle.std.proofs.lemmas.List.Sums.{fold-append, fold_more}
use Rattle.std.proofs.lemmas.List.Elements.{All-nil, All-head, All-tail, All-cons}
use Rattle.std.proofs.lemmas.List.{take-append-drop}
use Rattle.mv_nums.specs.Numeral.{IsDigit, append_digit, decimal_value, IsNumeralOf}

are_digits : IsDigitsTest (All IsDigit)
are_digits = record {
  empty = All-nil IsDigit;
  parts = λ c cs all. let first = All-head IsDigit c cs all in ((first.0, omega arith), All-tail IsDigit c cs all);
  more = λ c cs here all. All-cons IsDigit c cs (here.0, omega arith) all;
}

folds : FoldsDigits (fold append_digit)
folds = record {
  empty = λ n. refl;
  more = λ n c cs h. ap (λ m. fold append_digit m cs) (omega arith);
}

-- our words for numerals are std's
model : IsNumeralModel (All IsDigit) decimal_value
model = numerals_by_fold (All IsDigit) are_digits (fold append_digit) folds

-- a text that begins with 0 only where the number is 0
abbrev LeadsWell : ℕ → List ℕ → Type 0
LeadsWell n ds = (0 < length ds) × (slice_get ds 0 ≡ Some 48 → n ≡ 0)

one_digit : (n : ℕ) → n < 10 → LeadsWell n ((48 + n) ∷ [])
one_digit n h = search rules

more_digits : (n : ℕ) (ds : List ℕ) → 10 ≤ n → LeadsWell (n / 10) ds → LeadsWell n (ds ++ (48 + n % 10) ∷ [])
more_digits n [] h before = absurd (omega (arith, before.0))
more_digits n (d ∷ ds) h before = (omega arith, λ e. let quotient : n / 10 ≡ 0 = before.1 e in absurd (omega arith))

leads_well : (n : ℕ) → n < 10 ^ 64 → LeadsWell n (decimal n)
leads_well n h = decimal_by_steps_wide LeadsWell one_digit more_digits n h

decimal_is_numeral : (n : ℕ) → n < 2 ^ 128 → IsNumeralOf n (decimal n)
decimal_is_numeral n h =
    let small : n < 10 ^ 64 = omega arith in
    let numeral = decimal_is_IsNumeral_wide n small in
    record {
      spells = record { some = numeral.0.0; digits = model.from (decimal n) numeral.0.1; spelled = sym (model.same (decimal n) numeral.0.1 ∙ numeral.1) };
      shortest = λ e. ap decimal ((leads_well n small).1 e) ∙ decimal_digit 0 (omega arith);
    }

pub shown_is_numeral : (n : ℕ) (text : List ℕ) → n < 2 ^ 128 → text ≡ decimal n → IsNumeralOf n text
shown_is_numeral n text h e = rw e (decimal_is_numeral n h)

-- one of few digits more: the number stays below 2^64
pub more_small : (n i d : ℕ) → n < 10 ^ i → i < 19 → d < 10 → (10 * n + d < 2 ^ 64) × (10 * n + d < 10 ^ (i + 1))
more_small n i d small few digit =
    let last : i ≤ 18 = omega arith in
    let cap : 10 ^ i ≤ 10 ^ 18 = pow-le-pow_right (omega arith) last in
    (omega arith, omega (arith, pow_more 10 i))

further : (n : ℕ) (more : List ℕ) → n ≤ fold append_digit n more
further n [] = omega arith
further n (b ∷ more) = omega (arith, further (append_digit n b) more)

-- a number is no smaller than what some of its first digits spell
pub grows : (bytes : List ℕ) (i d : ℕ) → i < length bytes → append_digit (decimal_value (take i bytes)) (get_or bytes i d) ≤ decimal_value bytes
grows bytes i d h =
    let number = λ (k : ℕ). decimal_value (take k bytes) in
    let split : decimal_value bytes ≡ fold append_digit (number (i + 1)) (drop (i + 1) bytes) = ap decimal_value (sym (take-append-drop (i + 1) bytes)) ∙
    fold-append append_digit 0 (take (i + 1) bytes) (drop (i + 1) bytes) in
    omega (arith, split, fold_more append_digit 0 bytes i d h, further (number (i + 1)) (drop (i + 1) bytes))
