-- Coefficients by number, and the terms that they are.
use Rattle.std.proofs.Common.{◌≡◌, ◌≢◌, ℕ, zero, suc, ◌+◌, ◌*◌, ◌<◌, ◌≤◌, Bool, true, false, cond, ◌==◌, Option, Some, List, [], ◌∷◌, ◌++◌, length, get_or, set, refl, sym, ap, subst, ◌∙◌, arith, eqb-true}
use Rattle.std.specs.Cmp.{nat_cmp_is}
use Rattle.std.specs.List.{AllByRecursion}
use Rattle.std.specs.declared.cmp.Ordering.TheVariants.{Less}
use Rattle.poly_terms.specs.Entries.{Entry, Sum, entry_order, total}
use Rattle.poly_terms.specs.Indexed.{IsLonger, counted, terms_from}
use Rattle.poly_terms.specs.Merges.{AreAfter, IsAfter}
use Rattle.poly_terms.proofs.Values.{not_zero}

-- ---- what is said of all terms, by number

all_from : (P : Entry → Type 0) (k : ℕ) (cs : List ℕ) → ((n : ℕ) → 0 < get_or cs n 0 → P (k + n, get_or cs n 0)) → AllByRecursion P (terms_from k cs)
all_from P k [] h = tt
all_from P k (c ∷ cs) h =
    go
    (all_from P (k + 1) cs (λ n some. let e : k + suc n ≡ k + 1 + n = omega arith in subst (λ j. P (j, get_or cs n 0)) e (h (suc n) some)))
    (c == 0) refl
  where
    go : AllByRecursion P (terms_from (k + 1) cs) → (b : Bool) → (c == 0) ≡ b → AllByRecursion P (cond b (terms_from (k + 1) cs) ((k, c) ∷ terms_from (k + 1) cs))
    go rest true e = rest
    go rest false e = let same : k + 0 ≡ k = omega arith in (subst (λ j. P (j, c)) same (h 0 (not_zero c e)), rest)

each_from : (P : Entry → Type 0) (k : ℕ) (cs : List ℕ) → AllByRecursion P (terms_from k cs) → (n : ℕ) → 0 < get_or cs n 0 → P (k + n, get_or cs n 0)
each_from P k [] h n some = absurd (omega arith)
each_from P k (c ∷ cs) h zero some = go (c == 0) refl h
  where
    go : (b : Bool) → (c == 0) ≡ b → AllByRecursion P (cond b (terms_from (k + 1) cs) ((k, c) ∷ terms_from (k + 1) cs)) → P (k + 0, c)
    go true e all = let none = eqb-true c 0 e in absurd (omega arith)
    go false e all = let same : k ≡ k + 0 = omega arith in subst (λ j. P (j, c)) same all.0
each_from P k (c ∷ cs) h (suc n) some =
    let e : k + 1 + n ≡ k + suc n = omega arith in
    subst (λ j. P (j, get_or cs n 0)) e (each_from P (k + 1) cs (behind (c == 0) h) n some)
  where
    behind : (b : Bool) → AllByRecursion P (cond b (terms_from (k + 1) cs) ((k, c) ∷ terms_from (k + 1) cs)) → AllByRecursion P (terms_from (k + 1) cs)
    behind true all = all
    behind false all = all.1

from_zero : (n : ℕ) → 0 + n ≡ n
from_zero n = omega arith

pub all_terms : (P : Entry → Type 0) (cs : List ℕ) → ((n : ℕ) → 0 < get_or cs n 0 → P (n, get_or cs n 0)) → AllByRecursion P (terms_from 0 cs)
all_terms P cs h = all_from P 0 cs (λ n some. subst (λ j. P (j, get_or cs n 0)) (sym (from_zero n)) (h n some))

pub each_term : (P : Entry → Type 0) (cs : List ℕ) → AllByRecursion P (terms_from 0 cs) → (n : ℕ) → 0 < get_or cs n 0 → P (n, get_or cs n 0)
each_term P cs h n some = subst (λ j. P (j, get_or cs n 0)) (from_zero n) (each_from P 0 cs h n some)

-- the terms rise
pub after-terms : (bound : Option Entry) (k : ℕ) (cs : List ℕ) → ((e : Entry) → k ≤ e.0 → IsAfter entry_order bound e) → AreAfter entry_order bound (terms_from k cs)
after-terms bound k [] h = tt
after-terms bound k (c ∷ cs) h =
    go (after-terms bound (k + 1) cs (λ e low. h e (omega arith))) (after-terms (Some (k, c)) (k + 1) cs (λ e low. let up : k < e.0 = omega arith in sym (nat_cmp_is k e.0 Less up))) (c == 0)
  where
    go : AreAfter entry_order bound (terms_from (k + 1) cs) → AreAfter entry_order (Some (k, c)) (terms_from (k + 1) cs) → (b : Bool) →
        AreAfter entry_order bound (cond b (terms_from (k + 1) cs) ((k, c) ∷ terms_from (k + 1) cs))
    go without with true = without
    go without with false = (let low : k ≤ k = omega arith in h (k, c) low, with)

-- ---- one coefficient changed

total-front : (f : ℕ → ℕ) (k c : ℕ) (cs : List ℕ) → total f (terms_from k (c ∷ cs)) ≡ c * f k + total f (terms_from (k + 1) cs)
total-front f k c cs = go (c == 0) refl
  where
    go : (b : Bool) → (c == 0) ≡ b → total f (cond b (terms_from (k + 1) cs) ((k, c) ∷ terms_from (k + 1) cs)) ≡ c * f k + total f (terms_from (k + 1) cs)
    go true e = let none = eqb-true c 0 e in omega (arith, ap (λ n. n * f k) none)
    go false e = refl

total-set : (f : ℕ → ℕ) (k : ℕ) (cs : List ℕ) (n c : ℕ) → n < length cs → total f (terms_from k (set cs n c)) + get_or cs n 0 * f (k + n) ≡ total f (terms_from k cs) + c * f (k + n)
total-set f k [] n c h = absurd (omega arith)
total-set f k (x ∷ xs) zero c h =
    let same : k ≡ k + 0 = omega arith in
    omega (arith, total-front f k c xs, total-front f k x xs, ap (λ j. x * f j) same, ap (λ j. c * f j) same)
total-set f k (x ∷ xs) (suc n) c h =
    let e : k + 1 + n ≡ k + suc n = omega arith in
    omega (arith, total-front f k x (set xs n c), total-front f k x xs, total-set f (k + 1) xs n c (omega arith), ap (λ j. get_or xs n 0 * f j) e, ap (λ j. c * f j) e)

pub total-put : (f : ℕ → ℕ) (cs : List ℕ) (n c : ℕ) → n < length cs → total f (terms_from 0 (set cs n c)) + get_or cs n 0 * f n ≡ total f (terms_from 0 cs) + c * f n
total-put f cs n c h =
    subst (λ j. total f (terms_from 0 (set cs n c)) + get_or cs n 0 * f j ≡ total f (terms_from 0 cs) + c * f j) (from_zero n) (total-set f 0 cs n c h)

count-front : (k c : ℕ) (cs : List ℕ) → length (terms_from k (c ∷ cs)) ≡ counted c + length (terms_from (k + 1) cs)
count-front k c cs = go (c == 0)
  where
    go : (b : Bool) → length (cond b (terms_from (k + 1) cs) ((k, c) ∷ terms_from (k + 1) cs)) ≡ cond b 0 1 + length (terms_from (k + 1) cs)
    go true = omega arith
    go false = omega arith

pub count-put : (k : ℕ) (cs : List ℕ) (n c : ℕ) → n < length cs → length (terms_from k (set cs n c)) + counted (get_or cs n 0) ≡ length (terms_from k cs) + counted c
count-put k [] n c h = absurd (omega arith)
count-put k (x ∷ xs) zero c h = omega (arith, count-front k c xs, count-front k x xs)
count-put k (x ∷ xs) (suc n) c h = omega (arith, count-front k x (set xs n c), count-front k x xs, count-put (k + 1) xs n c (omega arith))

counted_most : (c : ℕ) → counted c ≤ 1
counted_most c = go (c == 0)
  where
    go : (b : Bool) → cond b 0 1 ≤ 1
    go true = omega arith
    go false = omega arith

pub counted_some : (c : ℕ) → c ≢ 0 → counted c ≡ 1
counted_some c some = go (c == 0) refl
  where
    go : (b : Bool) → (c == 0) ≡ b → let k : ℕ = cond b 0 1 in k ≡ 1
    go true e = absurd (some (eqb-true c 0 e))
    go false e = refl

pub counted_none : (c : ℕ) → c ≡ 0 → counted c ≡ 0
counted_none c none = ap counted none

count_most : (k : ℕ) (cs : List ℕ) → length (terms_from k cs) ≤ length cs
count_most k [] = omega arith
count_most k (c ∷ cs) = omega (arith, count-front k c cs, counted_most c, count_most (k + 1) cs)

-- where one is 0 there are fewer terms than numbers
pub count_below : (k : ℕ) (cs : List ℕ) (n : ℕ) → n < length cs → length (terms_from k cs) + 1 ≤ length cs + counted (get_or cs n 0)
count_below k [] n h = absurd (omega arith)
count_below k (c ∷ cs) zero h = omega (arith, count-front k c cs, count_most (k + 1) cs)
count_below k (c ∷ cs) (suc n) h = omega (arith, count-front k c cs, counted_most c, count_below (k + 1) cs n (omega arith))

-- where one isn't 0 there is a term
pub count_some : (k : ℕ) (cs : List ℕ) (n : ℕ) → n < length cs → counted (get_or cs n 0) ≤ length (terms_from k cs)
count_some k [] n h = absurd (omega arith)
count_some k (c ∷ cs) zero h = omega (arith, count-front k c cs)
count_some k (c ∷ cs) (suc n) h = omega (arith, count-front k c cs, count_some (k + 1) cs n (omega arith))

-- ---- more coefficients at the end

terms-more : (k : ℕ) (cs : List ℕ) (c : ℕ) → terms_from k (cs ++ c ∷ []) ≡ terms_from k cs ++ terms_from (k + length cs) (c ∷ [])
terms-more k [] c = let e : k ≡ k + 0 = omega arith in ap (λ j. terms_from j (c ∷ [])) e
terms-more k (x ∷ xs) c =
    let e : k + 1 + length xs ≡ k + suc (length xs) = omega arith in
    go (terms-more (k + 1) xs c ∙ ap (λ j. terms_from (k + 1) xs ++ terms_from j (c ∷ [])) e) (x == 0)
  where
    go : terms_from (k + 1) (xs ++ c ∷ []) ≡ terms_from (k + 1) xs ++ terms_from (k + suc (length xs)) (c ∷ []) → (b : Bool) →
        cond b (terms_from (k + 1) (xs ++ c ∷ [])) ((k, x) ∷ terms_from (k + 1) (xs ++ c ∷ [])) ≡
        cond b (terms_from (k + 1) xs) ((k, x) ∷ terms_from (k + 1) xs) ++ terms_from (k + suc (length xs)) (c ∷ [])
    go rest true = rest
    go rest false = ap (λ es. (k, x) ∷ es) rest

pub terms-push : (cs : List ℕ) (n c : ℕ) → length cs ≡ n → terms_from 0 (cs ++ c ∷ []) ≡ terms_from 0 cs ++ terms_from n (c ∷ [])
terms-push cs n c long = terms-more 0 cs c ∙ ap (λ j. terms_from 0 cs ++ terms_from j (c ∷ [])) (from_zero (length cs) ∙ long)

-- what isn't there is as the default
pub get_or-more : {X : Type 0} (xs : List X) (n : ℕ) (d : X) → get_or (xs ++ d ∷ []) n d ≡ get_or xs n d
get_or-more [] zero d = refl
get_or-more [] (suc n) d = refl
get_or-more (x ∷ xs) zero d = refl
get_or-more (x ∷ xs) (suc n) d = get_or-more xs n d

pub longer_itself : (cs : List ℕ) → IsLonger cs cs
longer_itself cs = record { terms = refl; same = λ n. refl }

pub longer_more : (old mid new : List ℕ) → new ≡ mid ++ 0 ∷ [] → IsLonger old mid → IsLonger old new
longer_more old mid new is h = record {
  terms = ap (terms_from 0) is ∙ terms-more 0 mid 0 ∙ no_more (terms_from 0 mid) ∙ h.terms;
  same = λ n. ap (λ xs. get_or xs n 0) is ∙ get_or-more mid n 0 ∙ h.same n;
}
  where
    no_more : (es : Sum) → es ++ [] ≡ es
    no_more [] = refl
    no_more (e ∷ es) = ap (λ xs. e ∷ xs) (no_more es)

-- an element that is there is so whatever the default is
pub any_default : {X : Type 0} (xs : List X) (n : ℕ) (a b : X) → n < length xs → get_or xs n a ≡ get_or xs n b
any_default [] n a b h = absurd (omega arith)
any_default (x ∷ xs) zero a b h = refl
any_default (x ∷ xs) (suc n) a b h = any_default xs n a b (omega arith)

-- a number with a coefficient is within
pub some_within : (cs : List ℕ) (n : ℕ) → 0 < get_or cs n 0 → n < length cs
some_within [] n h = absurd (omega arith)
some_within (c ∷ cs) zero h = omega arith
some_within (c ∷ cs) (suc n) h = let low = some_within cs n h in omega arith
