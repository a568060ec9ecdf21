-- Lists of truth values of one length with as many ones: the order of their positions, place by place.
use Rattle.std.specs.Prelude.{◌≡◌, ℕ, zero, suc, ◌+◌, ◌^◌, ◌<◌, ◌≤◌, ◌⊎◌, Bool, true, false, List, [], ◌∷◌, ◌++◌, length, replicate}
use Rattle.std.specs.List.{AllByRecursion}
use Rattle.std.proofs.Common.{refl, ap, arith, inl, inr, ⊎_elim, pow-suc}
use Rattle.graph_core.specs.Graph.Assignments.{bit}
use Rattle.frontier_core.specs.LeastDifference.{IsLexicographicallyBelow, ones_from}
use Rattle.frontier_core.proofs.CallerLemmas.{ones_above}
use Rattle.operand_search.specs.Enumeration.{IsEnumeratedBefore, binary}

-- the number of ones
abbrev pub count : List Bool → ℕ
count [] = 0
count (b ∷ bs) = bit b + count bs

pub length-ones_from : (k : ℕ) (xs : List Bool) → length (ones_from k xs) ≡ count xs
length-ones_from k [] = refl
length-ones_from k (true ∷ xs) = omega (arith, length-ones_from (suc k) xs)
length-ones_from k (false ∷ xs) = omega (arith, length-ones_from (suc k) xs)

pub count-append : (xs ys : List Bool) → count (xs ++ ys) ≡ count xs + count ys
count-append [] ys = omega arith
count-append (x ∷ xs) ys = omega (arith, count-append xs ys)

pub count-true : (n : ℕ) → count (replicate n true) ≡ n
count-true zero = refl
count-true (suc n) = omega (arith, count-true n)

pub count-false : (n : ℕ) → count (replicate n false) ≡ 0
count-false zero = refl
count-false (suc n) = omega (arith, count-false n)

-- the one that is true at the first difference is before
abbrev pub IsBefore : List Bool → List Bool → Type 0
IsBefore [] ys = ⊥
IsBefore (x ∷ xs) [] = ⊥
IsBefore (true ∷ xs) (true ∷ ys) = IsBefore xs ys
IsBefore (true ∷ xs) (false ∷ ys) = Unit {0}
IsBefore (false ∷ xs) (true ∷ ys) = ⊥
IsBefore (false ∷ xs) (false ∷ ys) = IsBefore xs ys

no_head : (k : ℕ) (js ks : List ℕ) → AllByRecursion (λ j. suc k ≤ j) js → IsLexicographicallyBelow js (k ∷ ks) → ⊥
no_head k [] ks a h = h
no_head k (j ∷ js) ks a h = let here = a.0 in ⊎_elim (λ lt. absurd (omega arith)) (λ e. let same = e.0 in absurd (omega arith)) h

pub before_from : (k : ℕ) (xs ys : List Bool) → length xs ≡ length ys → IsLexicographicallyBelow (ones_from k xs) (ones_from k ys) → IsBefore xs ys
before_from k [] [] l h = h
before_from k [] (y ∷ ys) l h = absurd (omega arith)
before_from k (x ∷ xs) [] l h = absurd (omega arith)
before_from k (true ∷ xs) (true ∷ ys) l h = ⊎_elim (λ lt. absurd (omega arith)) (λ e. before_from (suc k) xs ys (omega arith) e.1) h
before_from k (true ∷ xs) (false ∷ ys) l h = tt
before_from k (false ∷ xs) (true ∷ ys) l h = no_head k (ones_from (suc k) xs) (ones_from (suc k) ys) (ones_above (suc k) xs) h
before_from k (false ∷ xs) (false ∷ ys) l h = before_from (suc k) xs ys (omega arith) h

head : (k : ℕ) (js ks : List ℕ) → AllByRecursion (λ j. suc k ≤ j) js → suc (length ks) ≡ length js → IsLexicographicallyBelow (k ∷ ks) js
head k [] ks h l = absurd (omega arith)
head k (j ∷ js) ks h l = let here = h.0 in inl (omega arith)

pub below_from : (k : ℕ) (xs ys : List Bool) → length (ones_from k xs) ≡ length (ones_from k ys) → IsBefore xs ys → IsLexicographicallyBelow (ones_from k xs) (ones_from k ys)
below_from k [] ys l h = absurd h
below_from k (x ∷ xs) [] l h = absurd h
below_from k (true ∷ xs) (true ∷ ys) l h = inr (refl, below_from (suc k) xs ys (omega arith) h)
below_from k (true ∷ xs) (false ∷ ys) l h = head k (ones_from (suc k) ys) (ones_from (suc k) xs) (ones_above (suc k) ys) l
below_from k (false ∷ xs) (true ∷ ys) l h = absurd h
below_from k (false ∷ xs) (false ∷ ys) l h = below_from (suc k) xs ys l h

-- the parts of an order of values
pub comes_before_cases : (xs ys : List Bool) → length xs ≡ length ys → IsEnumeratedBefore xs ys → (count xs < count ys) ⊎ ((count xs ≡ count ys) × IsBefore xs ys)
comes_before_cases xs ys l h =
    let m = length-ones_from 0 xs in
    let n = length-ones_from 0 ys in
    ⊎_elim (λ lt. inl (omega arith)) (λ e. let same = e.0 in inr (omega arith, before_from 0 xs ys l e.1)) h

pub comes_before_fewer : (xs ys : List Bool) → count xs < count ys → IsEnumeratedBefore xs ys
comes_before_fewer xs ys h = let m = length-ones_from 0 xs in let n = length-ones_from 0 ys in inl (omega arith)

pub comes_before_same : (xs ys : List Bool) → count xs ≡ count ys → IsBefore xs ys → IsEnumeratedBefore xs ys
comes_before_same xs ys e h =
    let m = length-ones_from 0 xs in
    let n = length-ones_from 0 ys in
    let same : length (ones_from 0 xs) ≡ length (ones_from 0 ys) = omega arith in
    inr (same, below_from 0 xs ys same h)

-- ---- the number that falls

pub binary-low : (xs : List Bool) → binary xs < 2 ^ length xs
binary-low [] = omega arith
binary-low (true ∷ xs) = omega (arith, binary-low xs, pow-suc 2 (length xs))
binary-low (false ∷ xs) = omega (arith, binary-low xs, pow-suc 2 (length xs))

pub binary_falls : (xs ys : List Bool) → length xs ≡ length ys → IsBefore xs ys → binary ys < binary xs
binary_falls [] ys l h = absurd h
binary_falls (x ∷ xs) [] l h = absurd h
binary_falls (true ∷ xs) (true ∷ ys) l h = let e : 2 ^ length xs ≡ 2 ^ length ys = ap (λ n. 2 ^ n) (omega arith) in omega (arith, binary_falls xs ys (omega arith) h)
binary_falls (true ∷ xs) (false ∷ ys) l h = let e : 2 ^ length xs ≡ 2 ^ length ys = ap (λ n. 2 ^ n) (omega arith) in omega (arith, binary-low ys)
binary_falls (false ∷ xs) (true ∷ ys) l h = absurd h
binary_falls (false ∷ xs) (false ∷ ys) l h = omega (arith, binary_falls xs ys (omega arith) h)
