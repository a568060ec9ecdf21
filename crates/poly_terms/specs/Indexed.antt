-- Polynomials that change, each with an index from variables to its terms.
use Rattle.std.specs.Prelude.{◌≡◌, ◌⊎◌, ℕ, ◌+◌, ◌%◌, ◌<◌, cond, ◌==◌, true, List, [], ◌∷◌, get_or, length}
use Rattle.std.specs.List.{AllByRecursion, Contains}
use Rattle.poly_terms.specs.Entries.{Sum, total}
use Rattle.poly_terms.specs.Monomials.{has_in, has_variable}
use Rattle.poly_terms.specs.Tables.{Extends, IsOf, Table}

-- A polynomial, and numbers of terms by variable: a variable's places.
pub record IndexedSum : Type 0 where
  pub sum : Sum
  pub places : List (List ℕ)

-- a number is at a variable's places
abbrev pub IsAtPlace : List (List ℕ) → ℕ → ℕ → Type 0
IsAtPlace places v number = Contains (get_or places v []) number

-- Each term is at the places of each variable that it has. Other numbers may be there too.
unfoldable pub IsIndexed : Table → IndexedSum → Type 0
IsIndexed t x = AllByRecursion (λ e. (v : ℕ) → has_in t.monomials v e ≡ true → IsAtPlace x.places v e.0) x.sum

-- An index in a table is one in each table that extends it.
abbrev pub IndexesStay : Type 0
IndexesStay = (old new : Table) (x : IndexedSum) → Extends old new → IsOf old x.sum → IsIndexed old x → IsIndexed new x

-- ---- coefficients by number

-- the terms of coefficients by number, from a number on: those that aren't 0
abbrev pub terms_from : ℕ → List ℕ → Sum
terms_from n [] = []
terms_from n (c ∷ cs) = cond (c == 0) (terms_from (n + 1) cs) ((n, c) ∷ terms_from (n + 1) cs)

-- 1 for what isn't 0
abbrev pub counted : ℕ → ℕ
counted c = cond (c == 0) 0 1

-- The same coefficients, with more numbers of coefficient 0.
pub record IsLonger (old new : List ℕ) : Type 0 where
  pub terms : terms_from 0 new ≡ terms_from 0 old
  pub same : (n : ℕ) → get_or new n 0 ≡ get_or old n 0

-- Coefficients below m of a table's monomials, each at the places of its variables.
pub record AreIndexed (m : ℕ) (ms : List (List ℕ)) (cs : List ℕ) (places : List (List ℕ)) : Type 0 where
  pub below : (n : ℕ) → get_or cs n 0 < m
  pub within : (n : ℕ) → 0 < get_or cs n 0 → n < length ms
  pub indexed : (n v : ℕ) → 0 < get_or cs n 0 → has_variable v (get_or ms n []) ≡ true → IsAtPlace places v n

-- A number at the places of these variables too.
pub record Enters (number : ℕ) (variables : List ℕ) (old new : List (List ℕ)) : Type 0 where
  pub kept : (v n : ℕ) → IsAtPlace old v n → IsAtPlace new v n
  pub entered : (v : ℕ) → has_variable v variables ≡ true → IsAtPlace new v number

-- the same where its coefficient was 0
pub record EntersNew (before number : ℕ) (variables : List ℕ) (old new : List (List ℕ)) : Type 0 where
  pub kept : (v n : ℕ) → IsAtPlace old v n → IsAtPlace new v n
  pub entered : before ≡ 0 → (v : ℕ) → has_variable v variables ≡ true → IsAtPlace new v number

-- Coefficients to which terms were added, modulo m.
pub record HasAddedTerms (m : ℕ) (ms : List (List ℕ)) (old new : List ℕ) (places : List (List ℕ)) (terms : Sum) : Type 0 where
  pub indexed : AreIndexed m ms new places
  pub sums : (f : ℕ → ℕ) → total f (terms_from 0 new) % m ≡ (total f (terms_from 0 old) + total f terms) % m

-- Terms with the variable that were taken out and put after others.
pub record TakesOut (ms : List (List ℕ)) (v : ℕ) (old new : List ℕ) (before after : Sum) : Type 0 where
  pub sums : (f : ℕ → ℕ) → total f (terms_from 0 new) + total f after ≡ total f (terms_from 0 old) + total f before
  pub less : (n : ℕ) → (get_or new n 0 ≡ get_or old n 0) ⊎ (get_or new n 0 ≡ 0)
  pub taken : AllByRecursion (λ e. (e.0 < length ms) × (has_in ms v e ≡ true)) before → AllByRecursion (λ e. (e.0 < length ms) × (has_in ms v e ≡ true)) after

-- no coefficient is left of a number with the variable
abbrev pub IsGone : List (List ℕ) → ℕ → List ℕ → ℕ → Type 0
IsGone ms v cs n = has_variable v (get_or ms n []) ≡ true → get_or cs n 0 ≡ 0
