-- From values of inputs to the next ones: nothing lies between.
use Rattle.std.specs.Prelude.{◌≡◌, ℕ, zero, suc, ◌+◌, ◌-◌, ◌*◌, ◌^◌, ◌<◌, ◌≤◌, ◌⊎◌, Bool, true, false, List, [], ◌∷◌, ◌++◌, length, replicate}
use Rattle.std.proofs.Common.{refl, sym, ap, ap₂, ◌∙◌, arith, inl, inr, ⊎_elim, suc-mul, length-append}
use Rattle.std.proofs.lemmas.List.{length-replicate}
use Rattle.std.proofs.lemmas.Bool.{cases_lt}
use Rattle.operand_search.specs.Enumeration.{ones, IsEnumeratedBefore, IsStep, left_over}
use Rattle.operand_search.proofs.Orders.{count, length-ones_from, count-append, count-true, count-false, IsBefore, comes_before_cases, comes_before_fewer, comes_before_same, binary-low, binary_falls}

-- zeros and then ones, and the other way round
abbrev pub last : ℕ → ℕ → List Bool
last p q = replicate p false ++ replicate q true

abbrev pub first : ℕ → ℕ → List Bool
first q p = replicate q true ++ replicate p false

count_few : (xs : List Bool) → count xs ≤ length xs
count_few [] = omega arith
count_few (true ∷ xs) = omega (arith, count_few xs)
count_few (false ∷ xs) = omega (arith, count_few xs)

all_ones : (zs : List Bool) (q : ℕ) → length zs ≡ q → count zs ≡ q → zs ≡ replicate q true
all_ones [] zero l c = refl
all_ones [] (suc q) l c = absurd (omega arith)
all_ones (z ∷ zs) zero l c = absurd (omega arith)
all_ones (true ∷ zs) (suc q) l c = ap (λ xs. true ∷ xs) (all_ones zs q (omega arith) (omega arith))
all_ones (false ∷ zs) (suc q) l c = absurd (omega (arith, count_few zs))

-- zeros before ones are the last with so many ones
pub none_after_last : (zs : List Bool) (p q : ℕ) → length zs ≡ p + q → count zs ≡ q → (zs ≡ last p q) ⊎ IsBefore zs (last p q)
none_after_last zs zero q l c = inl (all_ones zs q (omega arith) c)
none_after_last [] (suc p) q l c = absurd (omega arith)
none_after_last (true ∷ zs) (suc p) q l c = inr tt
none_after_last (false ∷ zs) (suc p) q l c = ⊎_elim (λ e. inl (ap (λ xs. false ∷ xs) e)) (λ b. inr b) (none_after_last zs p q (omega arith) (omega arith))

-- ones before zeros are the first with so many ones
none_before_zeros : (zs : List Bool) (p : ℕ) → count zs ≡ 0 → IsBefore zs (replicate p false) → ⊥
none_before_zeros [] p c h = h
none_before_zeros (z ∷ zs) zero c h = h
none_before_zeros (true ∷ zs) (suc p) c h = absurd (omega arith)
none_before_zeros (false ∷ zs) (suc p) c h = none_before_zeros zs p (omega arith) h

pub none_before_first : (zs : List Bool) (q p : ℕ) → count zs ≡ q → IsBefore zs (first q p) → ⊥
none_before_first zs zero p c h = none_before_zeros zs p c h
none_before_first [] (suc q) p c h = h
none_before_first (true ∷ zs) (suc q) p c h = none_before_first zs q p (omega arith) h
none_before_first (false ∷ zs) (suc q) p c h = h

-- the last one that can go on goes one place on, and those after it follow
abbrev pub moved_from : List Bool → ℕ → ℕ → List Bool
moved_from front p q = front ++ true ∷ last (suc p) q

abbrev pub moved_to : List Bool → ℕ → ℕ → List Bool
moved_to front p q = front ++ false ∷ first (suc q) p

nothing_between : (front zs : List Bool) (p q : ℕ) → length zs ≡ length (moved_from front p q) → count zs ≡ count (moved_to front p q) → IsBefore zs (moved_to front p q) →
    (zs ≡ moved_from front p q) ⊎ IsBefore zs (moved_from front p q)
nothing_between [] [] p q l c h = absurd h
nothing_between [] (true ∷ zs) p q l c h =
    let size : length zs ≡ suc p + q = omega (arith, length-append (replicate p false) (replicate q true), length-replicate p false, length-replicate q true) in
    let same : count zs ≡ q = omega (arith, count-append (replicate q true) (replicate p false), count-true q, count-false p) in
    ⊎_elim (λ e. inl (ap (λ xs. true ∷ xs) e)) (λ b. inr b) (none_after_last zs (suc p) q size same)
nothing_between [] (false ∷ zs) p q l c h =
    let same : count zs ≡ suc q = omega (arith, count-append (replicate q true) (replicate p false), count-true q, count-false p) in
    absurd (none_before_first zs (suc q) p same h)
nothing_between (x ∷ front) [] p q l c h = absurd h
nothing_between (true ∷ front) (true ∷ zs) p q l c h = ⊎_elim (λ e. inl (ap (λ xs. true ∷ xs) e)) (λ b. inr b) (nothing_between front zs p q (omega arith) (omega arith) h)
nothing_between (true ∷ front) (false ∷ zs) p q l c h = absurd h
nothing_between (false ∷ front) (true ∷ zs) p q l c h = inr tt
nothing_between (false ∷ front) (false ∷ zs) p q l c h = ⊎_elim (λ e. inl (ap (λ xs. false ∷ xs) e)) (λ b. inr b) (nothing_between front zs p q (omega arith) (omega arith) h)

moved_length : (front : List Bool) (p q : ℕ) → length (moved_to front p q) ≡ length (moved_from front p q)
moved_length [] p q = omega (arith, length-append (replicate p false) (replicate q true), length-append (replicate q true) (replicate p false), length-replicate p false, length-replicate q true)
moved_length (x ∷ front) p q = omega (arith, moved_length front p q)

moved_count : (front : List Bool) (p q : ℕ) → count (moved_to front p q) ≡ count (moved_from front p q)
moved_count [] p q = omega (arith, count-append (replicate q true) (replicate p false), count-append (replicate p false) (replicate q true), count-true q, count-false p)
moved_count (x ∷ front) p q = omega (arith, moved_count front p q)

moved_before : (front : List Bool) (p q : ℕ) → IsBefore (moved_from front p q) (moved_to front p q)
moved_before [] p q = tt
moved_before (true ∷ front) p q = moved_before front p q
moved_before (false ∷ front) p q = moved_before front p q

pub moving_is_step : (most : ℕ) (front : List Bool) (p q : ℕ) → ones (moved_from front p q) ≤ most → IsStep most true (moved_from front p q) (moved_to front p q)
moving_is_step most front p q few =
    let xs = moved_from front p q in
    let ys = moved_to front p q in
    let size = moved_length front p q in
    let same = moved_count front p q in
    let m = length-ones_from 0 xs in
    let n = length-ones_from 0 ys in
    record {
      size = size;
      few = omega arith;
      passed = λ zs l h.
          ⊎_elim (λ lt. inr (comes_before_fewer zs xs (omega arith)))
          (λ e. let count_is = e.0 in ⊎_elim (λ is. inl is) (λ b. inr (comes_before_same zs xs (omega arith) b)) (nothing_between front zs p q l e.0 e.1))
          (comes_before_cases zs ys (omega arith) h);
    }

pub moving_falls : (front : List Bool) (p q : ℕ) → left_over (moved_to front p q) < left_over (moved_from front p q)
moving_falls front p q =
    let xs = moved_from front p q in
    let ys = moved_to front p q in
    let size = moved_length front p q in
    let m = length-ones_from 0 xs in
    let n = length-ones_from 0 ys in
    let same : ones ys ≡ ones xs = omega (arith, moved_count front p q) in
    let falls = binary_falls xs ys (sym size) (moved_before front p q) in
    let e : (length ys - ones ys) * 2 ^ length ys ≡ (length xs - ones xs) * 2 ^ length xs = ap₂ (λ k c. (k - c) * 2 ^ k) size same in
    omega arith

-- one more one
module _ (p q : ℕ) where
  abbrev xs : List Bool
  xs = last (suc p) q

  abbrev ys : List Bool
  ys = first (suc q) p

  more_length : length ys ≡ length xs
  more_length = omega (arith, length-append (replicate p false) (replicate q true), length-append (replicate q true) (replicate p false), length-replicate p false, length-replicate q true)

  xs_length : length xs ≡ suc p + q
  xs_length = omega (arith, length-append (replicate p false) (replicate q true), length-replicate p false, length-replicate q true)

  xs_count : count xs ≡ q
  xs_count = omega (arith, count-append (replicate p false) (replicate q true), count-true q, count-false p)

  ys_count : count ys ≡ suc q
  ys_count = omega (arith, count-append (replicate q true) (replicate p false), count-true q, count-false p)

  passed_more : (zs : List Bool) → length zs ≡ length xs → count zs ≤ q → (zs ≡ xs) ⊎ IsEnumeratedBefore zs xs
  passed_more zs l c =
      let size = xs_length in
      let here = xs_count in
      ⊎_elim (λ lt. inr (comes_before_fewer zs xs (omega arith)))
      (λ ge. ⊎_elim (λ e. inl e) (λ b. inr (comes_before_same zs xs (omega arith) b)) (none_after_last zs (suc p) q (omega arith) (omega arith)))
      (cases_lt (count zs) q)

  pub more_is_step : (most : ℕ) → q < most → IsStep most true xs ys
  more_is_step most few =
      let n = length-ones_from 0 ys in
      let there = ys_count in
      record {
        size = more_length;
        few = omega arith;
        passed = λ zs l h.
            ⊎_elim (λ lt. passed_more zs l (omega arith)) (λ e. absurd (none_before_first zs (suc q) p (omega (arith, e.0)) e.1)) (comes_before_cases zs ys (l ∙ sym more_length) h);
      }

  pub more_falls : left_over ys < left_over xs
  more_falls =
      let size = more_length in
      let here = xs_count in
      let there = ys_count in
      let whole = xs_length in
      let m = length-ones_from 0 xs in
      let n = length-ones_from 0 ys in
      let low = binary-low ys in
      let pow : 2 ^ length ys ≡ 2 ^ length xs = ap (λ k. 2 ^ k) size in
      let less : (length xs - ones xs) ≡ suc (length ys - ones ys) = omega arith in
      let e : (length xs - ones xs) * 2 ^ length xs ≡ (length ys - ones ys) * 2 ^ length ys + 2 ^ length ys =
      ap₂ (λ k m. k * m) less (sym pow) ∙ suc-mul (length ys - ones ys) (2 ^ length ys) in
      omega arith

-- the last of all
pub last_is_end : (most p q : ℕ) → (p ≡ 0) ⊎ (most ≤ q) → IsStep most false (last p q) (last p q)
last_is_end most p q h = record {
  size = refl;
  few = tt;
  passed = λ zs l few.
      let m = length-ones_from 0 zs in
      let c = count-append (replicate p false) (replicate q true) in
      let t = count-true q in
      let f = count-false p in
      let a = length-append (replicate p false) (replicate q true) in
      let u = length-replicate p false in
      let v = length-replicate q true in
      let most_of = count_few zs in
      ⊎_elim (λ lt. inr (comes_before_fewer zs (last p q) (omega arith)))
      (λ ge. let same : count zs ≡ q = ⊎_elim (λ none. omega arith) (λ no_more. omega arith) h in
      ⊎_elim (λ e. inl e) (λ b. inr (comes_before_same zs (last p q) (omega arith) b)) (none_after_last zs p q (omega arith) same))
      (cases_lt (count zs) q);
}
