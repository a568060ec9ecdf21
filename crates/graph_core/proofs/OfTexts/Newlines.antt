-- Texts and numerals have no line feed in them.
use Rattle.std.specs.Prelude.{◌≡◌, ℕ, ◌≤◌, true, not, List, [], ◌∷◌, ◌++◌, ◌==◌}
use Rattle.std.specs.List.{AllByRecursion, list_all}
use Rattle.std.proofs.Common.{sym, subst, arith, eq-eqb}
use Rattle.std.proofs.lemmas.Bool.{and_parts}
use Rattle.std.proofs.lemmas.List.Elements.{recursion_from_All}
use Rattle.graph_core.specs.Text.{newline, IsNumeral, IsDigit}
use Rattle.graph_core.proofs.OfTexts.JudgedLines.{HasNoNewline}

pub none_in : (text : List ℕ) → list_all (λ b. not (b == newline)) text ≡ true → HasNoNewline text
none_in [] h = tt
none_in (b ∷ text) h = let parts = and_parts (not (b == newline)) (list_all (λ x. not (x == newline)) text) h in (λ e. let t = eq-eqb b newline e in let p = parts.0 in absurd (cc), none_in text parts.1)

pub none_append : (xs ys : List ℕ) → HasNoNewline xs → HasNoNewline ys → HasNoNewline (xs ++ ys)
none_append [] ys h i = i
none_append (x ∷ xs) ys h i = (h.0, none_append xs ys h.1 i)

pub none_back : (xs ys : List ℕ) → HasNoNewline (xs ++ ys) → HasNoNewline ys
none_back [] ys h = h
none_back (x ∷ xs) ys h = none_back xs ys h.1

none_digits : (bytes : List ℕ) → AllByRecursion IsDigit bytes → HasNoNewline bytes
none_digits [] h = tt
none_digits (b ∷ bytes) h = (λ e. let low : 48 ≤ b = h.0.0 in absurd (omega arith), none_digits bytes h.1)

pub none_numeral : (d : ℕ) (bytes : List ℕ) (n : ℕ) → IsNumeral d bytes n → HasNoNewline bytes
none_numeral d bytes n h = none_digits bytes (recursion_from_All IsDigit bytes h.digits)

pub none_same : (bytes text : List ℕ) → bytes ≡ text → HasNoNewline text → HasNoNewline bytes
none_same bytes text e h = subst HasNoNewline (sym e) h
