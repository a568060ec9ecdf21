-- How values of inputs are rewritten as the next ones.
use Rattle.std.specs.Prelude.{◌≡◌, ℕ, zero, suc, ◌+◌, ◌-◌, ◌<◌, ◌≤◌, ◌⊎◌, Bool, true, false, List, [], ◌∷◌, ◌++◌, length, take, drop, replicate, get_or, slice_set}
use Rattle.std.proofs.Common.{refl, sym, ap, ap₂, subst, ◌∙◌, arith, true≢false, append_assoc, length-drop}
use Rattle.std.proofs.lemmas.List.{append-nil, length-set, length-take, length-replicate, take_at, take-take, take_more, take_more_set, drop_all, drop_at, drop-replicate, get_or-take, get_or_default}
use borrow.Rule.Slice.PartMut.{put_mid}
use Rattle.operand_search.specs.Enumeration.{EndsInRun, ones, IsStep, left_over}
use Rattle.operand_search.proofs.Steps.{moved_from, moved_to, first, last, moving_is_step, moving_falls, more_is_step, more_falls, last_is_end}

-- zeros from a place on, and then so many ones
pub rewritten : (xs : List Bool) (a o : ℕ) (fs ts : List Bool) → a + o ≤ length xs → fs ≡ replicate (length (take (length xs - a) (drop a xs))) false →
    ts ≡ replicate (length (take (a + o - a) (drop a (put_mid a (length xs - a) xs fs)))) true →
    put_mid a (a + o - a) (put_mid a (length xs - a) xs fs) ts ≡ take a xs ++ (replicate o true ++ replicate (length xs - (a + o)) false)
rewritten xs a o fs ts low fs_are ts_are =
    let n = length xs in
    let zeros = replicate (n - a) false in
    let inner = put_mid a (n - a) xs fs in
    let fs_is : fs ≡ zeros = fs_are ∙ ap (λ k. replicate k false) (omega (arith, length-take (n - a) (drop a xs), length-drop a xs)) in
    let inner_is : inner ≡ take a xs ++ zeros =
    ap (λ zs. take a xs ++ (zs ++ drop (n - a) (drop a xs))) fs_is ∙
    ap (λ zs. take a xs ++ (zeros ++ zs)) (drop_all (n - a) (drop a xs) (omega (arith, length-drop a xs))) ∙
    ap (λ zs. take a xs ++ zs) (append-nil zeros) in
    let front : length (take a xs) ≡ a = omega (arith, length-take a xs) in
    let back : drop a inner ≡ zeros = ap (drop a) inner_is ∙ drop_at (take a xs) zeros a front in
    let o_is : a + o - a ≡ o = omega arith in
    let ts_is : ts ≡ replicate o true =
    ts_are ∙ ap (λ k. replicate k true) (ap₂ (λ k zs. length (take k zs)) o_is back ∙ omega (arith, length-take o zeros, length-replicate (n - a) false)) in
    let kept : drop (a + o - a) (drop a inner) ≡ replicate (n - (a + o)) false =
    ap₂ drop o_is back ∙ drop-replicate o (n - a) false ∙ ap (λ k. replicate k false) (omega arith) in
    let start : take a inner ≡ take a xs = ap (take a) inner_is ∙ take_at (take a xs) zeros a front in
    ap₂ (λ us vs. us ++ (vs ++ drop (a + o - a) (drop a inner))) start ts_is ∙ ap (λ zs. take a xs ++ (replicate o true ++ zs)) kept

-- What the scan from the end found: so many ones, and so many zeros before them.
pub record IsScanned (xs ts : List Bool) (q p : ℕ) : Type 0 where
  pub within : q ≤ length xs
  pub ones : xs ≡ take (length xs - q) xs ++ replicate q true
  pub one_stop : q < length xs → get_or xs (length xs - q - 1) true ≡ false
  pub part : ts ≡ take (length xs - q) xs
  pub part_within : p ≤ length ts
  pub zeros : ts ≡ take (length ts - p) ts ++ replicate p false
  pub zero_stop : p < length ts → get_or ts (length ts - p - 1) false ≡ true

module _ (xs ts : List Bool) (q p : ℕ) (h : IsScanned xs ts q p) where
  size : length ts ≡ length xs - q
  size = ap length h.part ∙ omega (arith, length-take (length xs - q) xs)

  -- where nothing stands before the zeros
  pub all_last : length xs - q - p ≡ 0 → xs ≡ last p q
  all_last none =
      let e : length ts - p ≡ 0 = omega (arith, size) in
      let zeros : ts ≡ replicate p false = h.zeros ∙ ap (λ k. take k ts ++ replicate p false) e in
      h.ones ∙ ap (λ us. us ++ replicate q true) (sym h.part ∙ zeros)

  some_zeros : 0 < length xs - q - p → 0 < p
  some_zeros some = go p refl
    where
      go : (k : ℕ) → p ≡ k → 0 < p
      go (suc k) e = omega arith
      go zero e =
          let s = size in
          let m = length xs - q in
          let i : length ts - p - 1 ≡ m - 1 = omega arith in
          let one : get_or ts (m - 1) false ≡ true = subst (λ j. get_or ts j false ≡ true) i (h.zero_stop (omega arith)) in
          let other : get_or ts (m - 1) false ≡ false =
          ap (λ us. get_or us (m - 1) false) h.part ∙ get_or-take m xs (m - 1) false (omega arith) ∙ get_or_default xs (m - 1) false true (omega arith) ∙ h.one_stop (omega arith) in
          absurd (true≢false (sym one ∙ other))

  -- where the last one that can go on stands before them
  pub moved : 0 < length xs - q - p → (ys : List Bool) →
      (let at = length xs - q - p in
      let zs = slice_set xs (at - 1) false in
      ys ≡ take at zs ++ (replicate (q + 1) true ++ replicate (length zs - (at + (q + 1))) false)) →
      (front : List Bool) × (k : ℕ) × (xs ≡ moved_from front k q) × (ys ≡ moved_to front k q)
  moved some ys e =
      let s = size in
      let zeros = some_zeros some in
      let at = length xs - q - p in
      let i = at - 1 in
      let k = p - 1 in
      let front = take i xs in
      let zs = slice_set xs i false in
      let p_is : p ≡ suc k = omega arith in
      let q_is : q + 1 ≡ suc q = omega arith in
      let at_is : i + 1 ≡ at = omega arith in
      let at_ts : length ts - p ≡ at = omega arith in
      let i_ts : length ts - p - 1 ≡ i = omega arith in
      let one : get_or ts i false ≡ true = subst (λ j. get_or ts j false ≡ true) i_ts (h.zero_stop (omega arith)) in
      let start : take i ts ≡ front = ap (take i) h.part ∙ take-take i (length xs - q) xs (omega arith) in
      let more : take at ts ≡ front ++ true ∷ [] =
      ap (λ j. take j ts) (sym at_is) ∙ take_more ts i false (omega arith) ∙ ap₂ (λ us b. us ++ b ∷ []) start one in
      let ts_is : ts ≡ (front ++ true ∷ []) ++ replicate (suc k) false =
      h.zeros ∙ ap₂ (λ us j. us ++ replicate j false) (ap (λ j. take j ts) at_ts ∙ more) p_is in
      let old : xs ≡ moved_from front k q =
      h.ones ∙ ap (λ us. us ++ replicate q true) (sym h.part ∙ ts_is) ∙
      append_assoc (front ++ true ∷ []) (replicate (suc k) false) (replicate q true) ∙
      append_assoc front (true ∷ []) (last (suc k) q) in
      let left : length zs - (at + (q + 1)) ≡ k = omega (arith, length-set xs i false) in
      let written : take at zs ≡ front ++ false ∷ [] = ap (λ j. take j zs) (sym at_is) ∙ take_more_set xs i false (omega arith) in
      let new : ys ≡ moved_to front k q =
      e ∙ ap₂ (λ us j. us ++ (replicate (q + 1) true ++ replicate j false)) written left ∙
      ap (λ j. (front ++ false ∷ []) ++ (replicate j true ++ replicate k false)) q_is ∙
      append_assoc front (false ∷ []) (first (suc q) k) in
      (front, k, old, new)

  -- where there is one more one
  pub one_more : length xs - q - p ≡ 0 → 0 < p → (ys : List Bool) → ys ≡ take 0 xs ++ (replicate (q + 1) true ++ replicate (length xs - (0 + (q + 1))) false) →
      (k : ℕ) × (xs ≡ last (suc k) q) × (ys ≡ first (suc q) k)
  one_more none some ys e =
      let s = size in
      let low = h.within in
      let k = p - 1 in
      let p_is : p ≡ suc k = omega arith in
      let q_is : q + 1 ≡ suc q = omega arith in
      let left : length xs - (0 + (q + 1)) ≡ k = omega (arith, h.part_within) in
      (k, all_last none ∙ ap (λ j. last j q) p_is, e ∙ ap₂ (λ i j. replicate i true ++ replicate j false) q_is left)

-- ---- the three ways on

module _ (most : ℕ) (xs ys : List Bool) (q p : ℕ) (some_ones : EndsInRun true xs q) (zeros_before : EndsInRun false (take (length xs - q) xs) p) where
  scanned : IsScanned xs (take (length xs - q) xs) q p
  scanned = record {
    within = some_ones.within;
    ones = some_ones.run;
    one_stop = some_ones.stop;
    part = refl;
    part_within = zeros_before.within;
    zeros = zeros_before.run;
    zero_stop = zeros_before.stop;
  }

  pub moved_on : ones xs ≤ most → 0 < length xs - q - p →
      (let at = length xs - q - p in
      let zs = slice_set xs (at - 1) false in
      ys ≡ take at zs ++ (replicate (q + 1) true ++ replicate (length zs - (at + (q + 1))) false)) →
      IsStep most true xs ys × (left_over ys < left_over xs)
  moved_on few some e =
      let m = moved xs (take (length xs - q) xs) q p scanned some ys e in
      let P : List Bool → List Bool → Type 0 = λ us vs. IsStep most true us vs × (left_over vs < left_over us) in
      subst (λ us. P us ys) (sym m.2)
      (subst (P (moved_from m.0 m.1 q)) (sym m.3) (moving_is_step most m.0 m.1 q (subst (λ us. ones us ≤ most) m.2 few), moving_falls m.0 m.1 q))

  pub one_more_on : length xs - q - p ≤ 0 → 0 < p → q < most → ys ≡ take 0 xs ++ (replicate (q + 1) true ++ replicate (length xs - (0 + (q + 1))) false) →
      IsStep most true xs ys × (left_over ys < left_over xs)
  one_more_on none some fewer e =
      let m = one_more xs (take (length xs - q) xs) q p scanned (omega arith) some ys e in
      let P : List Bool → List Bool → Type 0 = λ us vs. IsStep most true us vs × (left_over vs < left_over us) in
      subst (λ us. P us ys) (sym m.1) (subst (P (last (suc m.0) q)) (sym m.2) (more_is_step m.0 q most fewer, more_falls m.0 q))

  pub ended : length xs - q - p ≤ 0 → (p ≡ 0) ⊎ (most ≤ q) → IsStep most false xs xs
  ended none no_more =
      let is : xs ≡ last p q = all_last xs (take (length xs - q) xs) q p scanned (omega arith) in
      subst (λ us. IsStep most false us us) (sym is) (last_is_end most p q no_more)
