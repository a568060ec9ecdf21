-- A number that digits spell, as the definition computes it.
use Rattle.std.proofs.Common.{◌≡◌, ◌≤◌, ◌<◌, ◌^◌, ◌&&◌, ◌∙◌, ◌↔◌, ℕ, Bool, true, false, List, [], ◌∷◌, All, length, Some, None, Result, Ok, Err, nat_lt, refl, sym, ap, arith}
use Rattle.std.specs.Prelude.{Any, IfOk, IsErrOf, if◌then◌else◌}
use Rattle.std.specs.Result.{result_ok}
use Rattle.std.specs.Bool.{Decides}
use Rattle.std.specs.Char.{is_ascii_digit}
use Rattle.std.specs.Str.{all_ascii_digits}
use Rattle.std.proofs.lemmas.Bool.Decides.{Decides-by_and, nat_tests}
use Rattle.mv_nums.specs.declared.number_fault.NumberFault.{NumberFault}
use Rattle.mv_nums.specs.declared.number_fault.NumberFault.TheVariants as fault
use Rattle.mv_nums.specs.Numeral.{IsDigit, SpellsAtLeast, SpellsNumber, decimal_value}
use Rattle.command_line.specs.Asked.{is_numeral, number_of}
use Rattle.command_line.specs.Examples.{NumbersAreNumerals}

digit_decides : (byte : ℕ) → Decides (is_ascii_digit byte) (IsDigit byte)
digit_decides byte = grind (arith, nat_tests)

digits_decide : (text : List ℕ) → Decides (all_ascii_digits text) (All IsDigit text)
digits_decide text = Decides-by_and is_ascii_digit IsDigit all_ascii_digits digit_decides refl (λ _ _. refl) text

numeral_of_digits : (text : List ℕ) → 0 < length text → All IsDigit text → is_numeral text ≡ true
numeral_of_digits [] some digits = absurd (omega arith)
numeral_of_digits (c ∷ cs) some digits = (digits_decide (c ∷ cs)).1 digits

not_all : (text : List ℕ) → Any (λ byte. ¬ IsDigit byte) text → All IsDigit text → ⊥
not_all text (k, x, within, is, other) digits = other (rw is at (digits k x within))

no_numeral : (text : List ℕ) → Any (λ byte. ¬ IsDigit byte) text → is_numeral text ≡ false
no_numeral [] (k, x, within, is, other) = absurd (omega arith)
no_numeral (c ∷ cs) other = go (all_ascii_digits (c ∷ cs)) refl
  where
    go : (t : Bool) → all_ascii_digits (c ∷ cs) ≡ t → all_ascii_digits (c ∷ cs) ≡ false
    go true e = absurd (not_all (c ∷ cs) other ((digits_decide (c ∷ cs)).0 e))
    go false e = e

spelled : (text : List ℕ) → is_numeral text ≡ true → decimal_value text < 2 ^ 128 → number_of text ≡ Some (decimal_value text)
spelled text numeral below =
    let test : nat_lt (decimal_value text) (2 ^ 128) ≡ true = grind (arith, nat_tests) in
    rw (numeral, test) refl

too_big : (text : List ℕ) → SpellsAtLeast (2 ^ 128) text → number_of text ≡ None
too_big text big =
    let least = big.at_least in
    let test : nat_lt (decimal_value text) (2 ^ 128) ≡ false = grind (arith, nat_tests) in
    rw (numeral_of_digits text big.some big.digits, test) refl

not_big : (text : List ℕ) (n : ℕ) → SpellsNumber text n → (IsErrOf {T = ℕ} (Ok n) fault.TooBig ↔ SpellsAtLeast (2 ^ 128) text) → decimal_value text < 2 ^ 128
not_big text n spells big =
    let small : 2 ^ 128 ≤ decimal_value text → ⊥ = λ h. (
    let e : Ok n ≡ Err fault.TooBig = big.1 (record { some = spells.some; digits = spells.digits; at_least = h }) in cc) in
    omega arith

-- what a reader of numerals answers is the number of the definition
pub number_read : (text : List ℕ) (r : Result ℕ NumberFault) → IfOk r (SpellsNumber text) → (IsErrOf r fault.Empty ↔ (text ≡ []))
    → (IsErrOf r fault.Digit ↔ Any (λ byte. ¬ IsDigit byte) text) → (IsErrOf r fault.TooBig ↔ SpellsAtLeast (2 ^ 128) text)
    → result_ok r ≡ number_of text
number_read text (Ok n) ok empty digit big = rw ok.spelled (sym (spelled text (numeral_of_digits text ok.some ok.digits) (not_big text n ok big)))
number_read text (Err fault.Empty) ok empty digit big = sym (ap number_of (empty.0 refl))
number_read text (Err fault.Digit) ok empty digit big = rw (no_numeral text (digit.0 refl)) refl
number_read text (Err fault.TooBig) ok empty digit big = sym (too_big text (big.0 refl))

-- ---- the definition is that of a numeral

numeral_spells : (text : List ℕ) → is_numeral text ≡ true → (0 < length text) × All IsDigit text
numeral_spells [] e = cc
numeral_spells (c ∷ cs) e = (omega arith, (digits_decide (c ∷ cs)).0 e)

pub number_spelled : (text : List ℕ) (number : ℕ) → number_of text ≡ Some number → SpellsNumber text number × (number < 2 ^ 128)
number_spelled text number = go (is_numeral text) (nat_lt (decimal_value text) (2 ^ 128)) refl refl
  where
    go : (t u : Bool) → is_numeral text ≡ t → nat_lt (decimal_value text) (2 ^ 128) ≡ u
        → (if t && u then Some (decimal_value text) else None) ≡ Some number → SpellsNumber text number × (number < 2 ^ 128)
    go true true e f same =
        let is : number ≡ decimal_value text = cc in
        let below : decimal_value text < 2 ^ 128 = grind (arith, nat_tests) in
        let spells = numeral_spells text e in
        (record { some = spells.0; digits = spells.1; spelled = is }, rw is below)
    go true false e f same = cc
    go false u e f same = cc

pub number_there : (text : List ℕ) (number : ℕ) → SpellsNumber text number × (number < 2 ^ 128) → number_of text ≡ Some number
number_there text number (spells, below) =
    spelled text (numeral_of_digits text spells.some spells.digits) (rw spells.spelled at below) ∙ ap (λ n. Some n) (sym spells.spelled)

pub numbers_are_numerals : NumbersAreNumerals
numbers_are_numerals text number = (number_spelled text number, number_there text number)
