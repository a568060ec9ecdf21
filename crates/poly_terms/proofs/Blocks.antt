-- Coefficients in blocks.
use Rattle.std.proofs.Common.{◌≡◌, ℕ, zero, suc, ◌+◌, ◌*◌, ◌^◌, ◌<◌, List, [], ◌∷◌, ◌++◌, length, get_or, set, replicate, inl, inr, refl, sym, ap, subst, ◌∙◌, ◌-◌, ◌/◌, ◌%◌, arith, mod-lt, length-append, append_assoc}
use Rattle.std.proofs.lemmas.List.{length-replicate, length-set, get_or_append_left, get_or-append-add, set-append_left, set-append_right}
use Rattle.std.proofs.lemmas.Nat.{div-add-mod'}
use Rattle.std.specs.List.{AllByRecursion}
use Rattle.poly_terms.specs.Blocks.{AreBlocks, IsBlock, filled, joined}
use Rattle.poly_terms.specs.Indexed.{IsLonger}
use Rattle.poly_terms.proofs.Sparse.{longer_more}

-- zeros are as what isn't there
pub zeros_at : (k n : ℕ) → get_or {A = ℕ} (replicate k 0) n 0 ≡ 0
zeros_at zero n = refl
zeros_at (suc k) zero = refl
zeros_at (suc k) (suc n) = zeros_at k n

pub filled_at : (cs : List ℕ) (n : ℕ) → get_or (filled cs) n 0 ≡ get_or cs n 0
filled_at [] n = zeros_at 64 n
filled_at (c ∷ cs) n = refl

-- 0 in place of what isn't there, in zeros
pub zeros_set : (k n : ℕ) → set {A = ℕ} (replicate k 0) n 0 ≡ replicate k 0
zeros_set zero n = refl
zeros_set (suc k) zero = refl
zeros_set (suc k) (suc n) = ap (λ xs. 0 ∷ xs) (zeros_set k n)

-- 0 in place of a number's, where a block has nothing
pub filled_set : (cs : List ℕ) (n : ℕ) → length cs ≡ 0 → set (filled cs) n 0 ≡ filled cs
filled_set [] n h = zeros_set 64 n
filled_set (c ∷ cs) n h = absurd (omega (arith, h))

pub filled_length : (cs : List ℕ) → IsBlock cs → length (filled cs) ≡ 64
filled_length [] h = length-replicate {A = ℕ} 64 0
filled_length (c ∷ cs) h = whole h
  where
    whole : IsBlock (c ∷ cs) → length (c ∷ cs) ≡ 64
    whole (inl none) = absurd (omega (arith, ap length none))
    whole (inr all) = all

-- ---- blocks one behind the other

pub joined_length : (blocks : List (List ℕ)) → AllByRecursion (λ block. length block ≡ 64) blocks → length (joined blocks) ≡ length blocks * 64
joined_length [] h = refl
joined_length (b ∷ bs) h = let rest = joined_length bs h.1 in omega (arith, length-append b (joined bs), h.0, rest)

joined_at : (blocks : List (List ℕ)) (i place : ℕ) → AllByRecursion (λ block. length block ≡ 64) blocks → place < 64 →
    get_or (joined blocks) (i * 64 + place) 0 ≡ get_or (get_or blocks i []) place 0
joined_at [] i place h low = refl
joined_at (b ∷ bs) zero place h low =
    let within : place < length b = omega (arith, h.0, low) in
    let is : zero * 64 + place ≡ place = omega arith in
    ap (λ n. get_or (b ++ joined bs) n 0) is ∙ get_or_append_left b (joined bs) 0 place within
joined_at (b ∷ bs) (suc i) place h low =
    let is : suc i * 64 + place ≡ length b + (i * 64 + place) = omega (arith, h.0) in
    ap (λ n. get_or (b ++ joined bs) n 0) is ∙ get_or-append-add b (joined bs) (i * 64 + place) 0 ∙ joined_at bs i place h.1 low

-- a coefficient put into its block
joined_set : (blocks : List (List ℕ)) (i place c : ℕ) → AllByRecursion (λ block. length block ≡ 64) blocks → i < length blocks → place < 64 →
    joined (set blocks i (set (get_or blocks i []) place c)) ≡ set (joined blocks) (i * 64 + place) c
joined_set [] i place c h few low = absurd (omega arith)
joined_set (b ∷ bs) zero place c h few low =
    let within : place < length b = omega (arith, h.0, low) in
    let is : zero * 64 + place ≡ place = omega arith in
    sym (ap (λ n. set (b ++ joined bs) n c) is ∙ set-append_left b (joined bs) place c within)
joined_set (b ∷ bs) (suc i) place c h few low =
    let is : suc i * 64 + place ≡ 64 + (i * 64 + place) = omega arith in
    let less : 64 + (i * 64 + place) - 64 ≡ i * 64 + place = omega arith in
    ap (λ xs. b ++ xs) (joined_set bs i place c h.1 (omega (arith, few)) low) ∙
    sym (ap (λ n. set (b ++ joined bs) n c) is ∙ set-append_right b (joined bs) 64 (64 + (i * 64 + place)) c h.0 (omega arith) ∙ ap (λ n. b ++ set (joined bs) n c) less)

below : (n : ℕ) → n % 64 < 64
below n = let some : 0 < 64 = omega arith in mod-lt n some

pub at_number : (blocks : List (List ℕ)) (n : ℕ) → AllByRecursion (λ block. length block ≡ 64) blocks →
    get_or (joined blocks) n 0 ≡ get_or (get_or blocks (n / 64) []) (n % 64) 0
at_number blocks n h = ap (λ k. get_or (joined blocks) k 0) (sym (div-add-mod' n 64)) ∙ joined_at blocks (n / 64) (n % 64) h (below n)

pub block_of : (blocks : List (List ℕ)) (n : ℕ) → AllByRecursion (λ block. length block ≡ 64) blocks → n < length (joined blocks) → n / 64 < length blocks
block_of blocks n h low = omega (arith, joined_length blocks h, low, div-add-mod' n 64)

pub number_within : (blocks : List (List ℕ)) (n : ℕ) → AllByRecursion (λ block. length block ≡ 64) blocks → n / 64 < length blocks → n < length (joined blocks)
number_within blocks n h low = omega (arith, joined_length blocks h, low, div-add-mod' n 64, below n)

pub set_number : (blocks : List (List ℕ)) (n c : ℕ) → AllByRecursion (λ block. length block ≡ 64) blocks → n < length (joined blocks) →
    joined (set blocks (n / 64) (set (get_or blocks (n / 64) []) (n % 64) c)) ≡ set (joined blocks) n c
set_number blocks n c h low =
    joined_set blocks (n / 64) (n % 64) c h (block_of blocks n h low) (below n) ∙ ap (λ k. set (joined blocks) k c) (div-add-mod' n 64)

pub whole_set : (blocks : List (List ℕ)) (i place c : ℕ) → AllByRecursion (λ block. length block ≡ 64) blocks →
    AllByRecursion (λ block. length block ≡ 64) (set blocks i (set (get_or blocks i []) place c))
whole_set [] i place c h = tt
whole_set (b ∷ bs) zero place c h = (length-set b place c ∙ h.0, h.1)
whole_set (b ∷ bs) (suc i) place c h = (h.0, whole_set bs i place c h.1)

-- ---- one more block, of zeros

whole_more : (blocks : List (List ℕ)) (block : List ℕ) → AllByRecursion (λ b. length b ≡ 64) blocks → length block ≡ 64 →
    AllByRecursion (λ b. length b ≡ 64) (blocks ++ block ∷ [])
whole_more [] block h is = (is, tt)
whole_more (b ∷ bs) block h is = (h.0, whole_more bs block h.1 is)

pub blocks_more : (blocks : List (List ℕ)) (block : List ℕ) (after : List (List ℕ)) → block ≡ replicate 64 0 → after ≡ blocks ++ block ∷ [] → AreBlocks blocks →
    length after * 64 < 2 ^ 64 → AreBlocks after
blocks_more blocks block after zeros is h few = record {
  whole = subst (AllByRecursion (λ b. length b ≡ 64)) (sym is) (whole_more blocks block h.whole (ap length zeros ∙ length-replicate {A = ℕ} 64 0));
  few = few;
}

joined_more : (blocks : List (List ℕ)) (block : List ℕ) → joined (blocks ++ block ∷ []) ≡ joined blocks ++ block
joined_more [] block = no_more block
  where
    no_more : (xs : List ℕ) → xs ++ [] ≡ xs
    no_more [] = refl
    no_more (x ∷ xs) = ap (λ ys. x ∷ ys) (no_more xs)
joined_more (b ∷ bs) block = ap (λ xs. b ++ xs) (joined_more bs block) ∙ sym (append_assoc b (joined bs) block)

longer_zeros : (k : ℕ) (old mid : List ℕ) → IsLonger old mid → IsLonger old (mid ++ replicate k 0)
longer_zeros zero old mid h = subst (IsLonger old) (sym (no_more mid)) h
  where
    no_more : (xs : List ℕ) → xs ++ [] ≡ xs
    no_more [] = refl
    no_more (x ∷ xs) = ap (λ ys. x ∷ ys) (no_more xs)
longer_zeros (suc k) old mid h =
    subst (IsLonger old) (append_assoc mid (0 ∷ []) (replicate k 0)) (longer_zeros k old (mid ++ 0 ∷ []) (longer_more old mid (mid ++ 0 ∷ []) refl h))

pub longer_block : (old : List ℕ) (blocks : List (List ℕ)) (block : List ℕ) (after : List (List ℕ)) → block ≡ replicate 64 0 → after ≡ blocks ++ block ∷ [] →
    IsLonger old (joined blocks) → IsLonger old (joined after)
longer_block old blocks block after zeros is h =
    subst (IsLonger old) (sym (ap joined is ∙ joined_more blocks block ∙ ap (λ xs. joined blocks ++ xs) zeros)) (longer_zeros 64 old (joined blocks) h)
