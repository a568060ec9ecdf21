-- Digits that were taken are a number of the text.
use Rattle.std.proofs.Common.{◌≡◌, ◌<◌, ◌≤◌, ◌↔◌, ◌^◌, ◌&&◌, ℕ, Bool, true, false, List, [], ◌∷◌, All, None, Some, Err, Any, length, take, drop, subst, sym, ap, ap₂, ◌∙◌, cond, lt-ltb, le-leb, arith, refl}
use Rattle.std.specs.declared.result.Result.{Result}
use Rattle.std.specs.List.{AllByRecursion}
use Rattle.std.proofs.lemmas.List.Elements.{All-from_recursion}
use Rattle.graph_core.specs.Text.{decimal}
use Rattle.graph_core.specs.Text.Numerals.{number_at, is_digit, digits_of, behind_digits}
use Rattle.graph_core.proofs.OfTexts.CallerLemmas.{digit_is}
use Rattle.mv_nums.specs.Numeral.{IsDigit, SpellsAtLeast}
use Rattle.mv_nums.specs.declared.number_fault.NumberFault.{NumberFault}
use Rattle.mv_nums.specs.declared.number_fault.NumberFault.TheVariants as fault
use Rattle.mv_text.specs.NumbersAhead.{IsNumberAhead}
use Rattle.mv_text.specs.Steps.{IsDigitsOf, Takes}
use Rattle.mv_text.proofs.DigitSteps.{more_allowed}

pub taken_number : (most : ℕ) (old digits new : List ℕ) → IsDigitsOf most old digits new → number_at most old ≡ Some (decimal digits, new)
taken_number most old digits new h =
    let some : 0 < length (digits_of old) = subst (λ z. 0 < length z) h.digits_are h.some in
    let few : length (digits_of old) ≤ most = subst (λ z. length z ≤ most) h.digits_are h.few in
    ap (λ c. cond c (Some (decimal (digits_of old), behind_digits old)) None) (ap₂ ◌&&◌ (lt-ltb 0 (length (digits_of old)) some) (le-leb (length (digits_of old)) most few)) ∙
    ap₂ (λ xs ys. Some (decimal xs, ys)) (sym h.digits_are) (sym h.left)

are_digits : (bytes : List ℕ) → AllByRecursion IsDigit (digits_of bytes)
are_digits [] = tt
are_digits (b ∷ bytes) = go (is_digit b) refl (are_digits bytes)
  where
    go : (c : Bool) → is_digit b ≡ c → AllByRecursion IsDigit (digits_of bytes) → AllByRecursion IsDigit (cond c (b ∷ digits_of bytes) [])
    go true e rest = (digit_is b e, rest)
    go false e rest = tt

not_empty : (digits : List ℕ) → 0 < length digits → digits ≡ [] → ⊥
not_empty digits some e = let none : 0 < 0 = subst (λ z. 0 < length z) e some in absurd (omega arith)

all_digits : (digits : List ℕ) → All IsDigit digits → Any (λ byte. ¬ (IsDigit byte)) digits → ⊥
all_digits digits all any = any.4 (subst IsDigit any.3 (all any.0 any.1 any.2))

-- digits that code doesn't read are a number that is too great
pub too_great : (most : ℕ) (old digits new : List ℕ) (r : Result ℕ NumberFault) (f : NumberFault) → IsDigitsOf most old digits new → r ≡ Err f →
    ((r ≡ Err fault.Empty) ↔ (digits ≡ [])) → ((r ≡ Err fault.Digit) ↔ Any (λ byte. ¬ (IsDigit byte)) digits) → ((r ≡ Err fault.TooBig) ↔ SpellsAtLeast (2 ^ 128) digits) →
    Takes (number_at most) (λ n. n < 2 ^ 128) (λ n k. n ≡ k) old new None
too_great most old digits new r fault.Empty h e empty digit big = absurd (not_empty digits h.some (empty.0 e))
too_great most old digits new r fault.Digit h e empty digit big =
    absurd (all_digits digits (subst (All IsDigit) (sym h.digits_are) (All-from_recursion IsDigit (digits_of old) (are_digits old))) (digit.0 e))
too_great most old digits new r fault.TooBig h e empty digit big =
    record { read = decimal digits; taken = taken_number most old digits new h; gives = λ small. let least : 2 ^ 128 ≤ decimal digits = (big.0 e).at_least in absurd (omega arith) }

-- digits that were read as they were counted are a number of the text
pub taken_ahead : (few most : ℕ) (old : List ℕ) (number count : ℕ) → few ≤ most → IsNumberAhead few old number count → number_at most old ≡ Some (number, drop count old)
taken_ahead few most old number count less ahead =
    taken_number most old (take count old) (drop count old) (more_allowed few most old (take count old) (drop count old) less ahead.digits) ∙ ap (λ n. Some (n, drop count old)) (sym ahead.spelled)
