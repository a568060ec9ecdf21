-- The widths that a text says, as the definition computes them.
use Rattle.std.proofs.Common.{◌≡◌, ◌≤◌, ◌&&◌, ◌∙◌, ◌⊎◌, inl, inr, ℕ, Bool, true, false, ◌∷◌, ◌++◌, All, length, get_or, Option, Some, None, nat_le, nat_lt, refl, sym, ap, arith, ltb-true}
use Rattle.std.specs.Prelude.{if◌then◌else◌, option_and_then}
use Rattle.std.specs.List.{after_first, before_first, position_or_len}
use Rattle.std.proofs.lemmas.Bool.{ltb-false}
use Rattle.std.proofs.lemmas.Bool.Decides.{nat_tests}
use Rattle.std.proofs.lemmas.List.Sums.{fails_before_first, passes_at_first, split_at_first}
use Rattle.clap.proofs.CutLemmas.{Lacks, after_first-Lacks, after_first-at, before_first-at}
use Rattle.clap.specs.Words.{Text}
use Rattle.graph_core.specs.declared.widths.Widths.TheVariants.{Given}
use Rattle.mv_nums.specs.Numeral.{IsDigit, SpellsNumber}
use Rattle.command_line.specs.Asked.{AreBits, bits_asked, is_x, number_of, widths_named, widths_with}
use Rattle.command_line.specs.Examples.{SpellsWidths, WidthsAreNumerals}
use Rattle.command_line.proofs.Numerals.{number_spelled, number_there}

-- ---- the x

-- at the first x
pub named_at : (add : Bool) (x y : Text) → Lacks 120 x → widths_named add (x ++ 120 ∷ y) ≡ widths_with add (bits_asked x) (bits_asked y)
named_at add x y lacks =
    ap (λ z. widths_with add (bits_asked z) (bits_asked (after_first is_x (x ++ 120 ∷ y)))) (before_first-at 120 x y lacks)
    ∙ ap (λ z. widths_with add (bits_asked x) (bits_asked z)) (after_first-at 120 x y lacks)

no_second : (add : Bool) (a : Option ℕ) → widths_with add a None ≡ None
no_second add None = refl
no_second add (Some a) = refl

-- without one
pub named_without : (add : Bool) (text : Text) → Lacks 120 text → widths_named add text ≡ None
named_without add text lacks =
    ap (λ z. widths_with add (bits_asked (before_first is_x text)) (bits_asked z)) (after_first-Lacks 120 text lacks)
    ∙ no_second add (bits_asked (before_first is_x text))

-- a text has none, or is what stands before the first, the x, and what stands after it
cut : (text : Text) → Lacks 120 text ⊎ (text ≡ before_first is_x text ++ 120 ∷ after_first is_x text)
cut text = at (nat_lt (position_or_len is_x text) (length text)) refl
  where
    at : (t : Bool) → nat_lt (position_or_len is_x text) (length text) ≡ t → Lacks 120 text ⊎ (text ≡ before_first is_x text ++ 120 ∷ after_first is_x text)
    at true e =
        let within = ltb-true (position_or_len is_x text) (length text) e in
        let passes = passes_at_first is_x text 0 within in
        let is : get_or text (position_or_len is_x text) 0 ≡ 120 = grind (arith, nat_tests) in
        inr (split_at_first is_x text 0 within ∙ ap (λ z. before_first is_x text ++ (z ∷ after_first is_x text)) is)
    at false e = inl (λ i lt same.
        let past = ltb-false (position_or_len is_x text) (length text) e in
        let fails = fails_before_first is_x text i 0 (omega arith) in
        grind (arith, nat_tests))

digits_lack : (text : Text) → All IsDigit text → Lacks 120 text
digits_lack text digits i lt same = let low = (digits i 0 lt).1 in omega arith

-- ---- a number of bits

bits_spelled : (text : Text) (n : ℕ) → bits_asked text ≡ Some n → SpellsNumber text n × AreBits n
bits_spelled text n = at (number_of text) refl
  where
    within : (m : ℕ) → number_of text ≡ Some m → (t u : Bool) → nat_le 1 m ≡ t → nat_le m 64 ≡ u
        → (if t && u then Some m else None) ≡ Some n → SpellsNumber text n × AreBits n
    within m is true true low high e =
        let same : m ≡ n = cc in
        let spelled = number_spelled text m is in
        let one : 1 ≤ m = grind (arith, nat_tests) in
        let most : m ≤ 64 = grind (arith, nat_tests) in
        (rw (sym same) (spelled.0), (omega arith, omega arith))
    within m is true false low high e = cc
    within m is false u low high e = cc

    at : (o : Option ℕ) → number_of text ≡ o → option_and_then (λ bits. if nat_le 1 bits && nat_le bits 64 then Some bits else None) o ≡ Some n
        → SpellsNumber text n × AreBits n
    at None is e = cc
    at (Some m) is e = within m is (nat_le 1 m) (nat_le m 64) refl refl e

bits_there : (text : Text) (n : ℕ) → SpellsNumber text n → AreBits n → bits_asked text ≡ Some n
bits_there text n spells bits =
    let low = bits.0 in
    let high = bits.1 in
    let least : nat_le 1 n ≡ true = grind (arith, nat_tests) in
    let most : nat_le n 64 ≡ true = grind (arith, nat_tests) in
    ap (option_and_then (λ bits. if nat_le 1 bits && nat_le bits 64 then Some bits else None)) (number_there text n (spells, omega arith))
    ∙ ap (λ t. if t && nat_le n 64 then Some n else None) least ∙ ap (λ t. if t then Some n else None) most

-- ---- both

both_there : (add : Bool) (o p : Option ℕ) (a b : ℕ) → widths_with add o p ≡ Some (Given a b add) → (o ≡ Some a) × (p ≡ Some b)
both_there add (Some m) (Some n) a b e =
    let first : m ≡ a = cc in
    let second : n ≡ b = cc in
    (ap (λ k. Some k) first, ap (λ k. Some k) second)
both_there add (Some m) None a b e = cc
both_there add None p a b e = cc

widths_spelled : (add : Bool) (text : Text) (a b : ℕ) → widths_named add text ≡ Some (Given a b add) → SpellsWidths text a b
widths_spelled add text a b e = from (cut text)
  where
    from : Lacks 120 text ⊎ (text ≡ before_first is_x text ++ 120 ∷ after_first is_x text) → SpellsWidths text a b
    from (inl lacks) = let none = named_without add text lacks in cc
    from (inr parts) =
        let both = both_there add (bits_asked (before_first is_x text)) (bits_asked (after_first is_x text)) a b e in
        let first = bits_spelled (before_first is_x text) a both.0 in
        let second = bits_spelled (after_first is_x text) b both.1 in
        record {
          of_a = before_first is_x text;
          of_b = after_first is_x text;
          between = parts;
          first = first.0;
          second = second.0;
          first_bits = first.1;
          second_bits = second.1;
        }

widths_there : (add : Bool) (text : Text) (a b : ℕ) → SpellsWidths text a b → widths_named add text ≡ Some (Given a b add)
widths_there add text a b s =
    ap (widths_named add) s.between
    ∙ named_at add s.of_a s.of_b (digits_lack s.of_a s.first.digits)
    ∙ ap (λ o. widths_with add o (bits_asked s.of_b)) (bits_there s.of_a a s.first s.first_bits)
    ∙ ap (widths_with add (Some a)) (bits_there s.of_b b s.second s.second_bits)

pub widths_are_numerals : WidthsAreNumerals
widths_are_numerals add text a b = (widths_spelled add text a b, widths_there add text a b)
