-- The loops that merge two graphs, one item after the other.
use Rattle.std.specs.Prelude.{◌≡◌, ◌≢◌, ℕ, zero, suc, ◌+◌, ◌<◌, ◌≤◌, cond, List, [], ◌∷◌, ◌++◌, map, length, drop, take, slice_index_or}
use Rattle.std.proofs.Common.{refl, sym, ap, ap₂, subst, ◌∙◌, arith, append_assoc, eq-eqb, ne_eqb}
use Rattle.graph_core.specs.declared.literal.Lit.{Lit}
use Rattle.graph_core.specs.Graph.Literals.{variable_of}
use Rattle.std.proofs.lemmas.List.{take_all, take_more}
use Rattle.same_core.specs.Merged.{input_or, pairs_of}

-- ---- the search for an input

module _ (v other : ℕ) where
  abbrev From : List Lit → List Lit → ℕ → ℕ
  From ls ks n = input_or (drop n ls) (drop n ks) v other

  passes : (ls ks : List Lit) (n : ℕ) (d : Lit) → n < length ls → length ks ≡ length ls → variable_of (slice_index_or ls n d) ≢ v → From ls ks n ≡ From ls ks (suc n)
  passes [] ks n d below size differ = absurd (omega (arith, below))
  passes (l ∷ ls) [] n d below size differ = absurd (omega (arith, size))
  passes (l ∷ ls) (k ∷ ks) zero d below size differ = ap (λ b. cond b (variable_of k) (input_or ls ks v other)) (ne_eqb v (variable_of l) (λ e. differ (sym e)))
  passes (l ∷ ls) (k ∷ ks) (suc n) d below size differ = passes ls ks n d (omega (arith, below)) (omega (arith, size)) differ

  passes_on : (ls ks : List Lit) (n : ℕ) (d : Lit) → n < length ls → length ks ≡ length ls → variable_of (slice_index_or ls n d) ≢ v → From ls ks n ≡ From ls ks (n + 1)
  passes_on ls ks n d below size differ = let one : suc n ≡ n + 1 = omega arith in passes ls ks n d below size differ ∙ ap (From ls ks) one

  -- by equal lists
  pub next_place : (ls xs ks : List Lit) (n : ℕ) (d : Lit) → xs ≡ ls → n < length xs → length ks ≡ length ls → variable_of (slice_index_or xs n d) ≢ v → From ls ks n ≡ From ls ks (n + 1)
  next_place ls xs ks n d is below size differ =
      passes_on ls ks n d (subst (λ (z : List Lit). n < length z) is below) size (subst (λ (z : List Lit). variable_of (slice_index_or z n d) ≢ v) is differ)

  pub found_at : (ls ks : List Lit) (n : ℕ) (d e : Lit) → n < length ls → length ks ≡ length ls → variable_of (slice_index_or ls n d) ≡ v → From ls ks n ≡ variable_of (slice_index_or ks n e)
  found_at [] ks n d e below size same = absurd (omega (arith, below))
  found_at (l ∷ ls) [] n d e below size same = absurd (omega (arith, size))
  found_at (l ∷ ls) (k ∷ ks) zero d e below size same = ap (λ b. cond b (variable_of k) (input_or ls ks v other)) (eq-eqb v (variable_of l) (sym same))
  found_at (l ∷ ls) (k ∷ ks) (suc n) d e below size same = found_at ls ks n d e (omega (arith, below)) (omega (arith, size)) same

  pub none_left : (ls ks : List Lit) (n : ℕ) → length ls ≤ n → From ls ks n ≡ other
  none_left [] ks n end = nothing (drop n ks) n
    where
      nothing : (ys : List Lit) (m : ℕ) → input_or (drop m []) ys v other ≡ other
      nothing ys zero = refl
      nothing ys (suc m) = refl
  none_left (l ∷ ls) ks zero end = absurd (omega (arith, end))
  none_left (l ∷ ls) [] (suc n) end = short (drop n ls)
    where
      short : (xs : List Lit) → input_or xs [] v other ≡ other
      short [] = refl
      short (x ∷ xs) = refl
  none_left (l ∷ ls) (k ∷ ks) (suc n) end = none_left ls ks n (omega (arith, end))

-- ---- lists that grow

pub map_more : {X Y : Type 0} (f : X → Y) (front : List Y) (xs : List X) (n : ℕ) (d : X) → n < length xs → front ++ map f (take (n + 1) xs) ≡ (front ++ map f (take n xs)) ++ f (slice_index_or xs n d) ∷ []
map_more {X} {Y} f front xs n d below =
    let x = slice_index_or xs n d in
    ap (λ (ys : List X). front ++ map f ys) (take_more xs n d below) ∙ ap (λ (ys : List Y). front ++ ys) (mapped (take n xs) x) ∙ sym (append_assoc front (map f (take n xs)) (f x ∷ []))
  where
    mapped : (ys : List X) (y : X) → map f (ys ++ y ∷ []) ≡ map f ys ++ f y ∷ []
    mapped [] y = refl
    mapped (z ∷ ys) y = ap (λ (zs : List Y). f z ∷ zs) (mapped ys y)

pub map_all : {X Y : Type 0} (f : X → Y) (front : List Y) (xs : List X) (n : ℕ) → length xs ≤ n → front ++ map f (take n xs) ≡ front ++ map f xs
map_all {X} f front xs n end = ap (λ (ys : List X). front ++ map f ys) (take_all n xs end)

pairs-append : (xs ys : List Lit) (x y : Lit) → length xs ≡ length ys → pairs_of (xs ++ x ∷ []) (ys ++ y ∷ []) ≡ pairs_of xs ys ++ (x, y) ∷ []
pairs-append [] [] x y size = refl
pairs-append [] (b ∷ ys) x y size = absurd (omega (arith, size))
pairs-append (a ∷ xs) [] x y size = absurd (omega (arith, size))
pairs-append (a ∷ xs) (b ∷ ys) x y size = ap (λ (ps : List (Lit × Lit)). (a, b) ∷ ps) (pairs-append xs ys x y (omega (arith, size)))

same_taken : (f : Lit → Lit) (xs ys : List Lit) (n : ℕ) → length xs ≡ length ys → length (take n xs) ≡ length (map f (take n ys))
same_taken f xs ys zero size = refl
same_taken f [] [] (suc n) size = refl
same_taken f [] (y ∷ ys) (suc n) size = absurd (omega (arith, size))
same_taken f (x ∷ xs) [] (suc n) size = absurd (omega (arith, size))
same_taken f (x ∷ xs) (y ∷ ys) (suc n) size = ap suc (same_taken f xs ys n (omega (arith, size)))

pub pairs_more : (f : Lit → Lit) (xs ys : List Lit) (n : ℕ) (d : Lit) → n < length xs → length xs ≡ length ys →
    pairs_of (take (n + 1) xs) (map f (take (n + 1) ys)) ≡ pairs_of (take n xs) (map f (take n ys)) ++ (slice_index_or xs n d, f (slice_index_or ys n d)) ∷ []
pairs_more f xs ys n d below size =
    ap₂ pairs_of (take_more xs n d below) (map_more f [] ys n d (omega (arith, below, size))) ∙
    pairs-append (take n xs) (map f (take n ys)) (slice_index_or xs n d) (f (slice_index_or ys n d)) (same_taken f xs ys n size)

-- by equal lists
pub pairs_next : (f : Lit → Lit) (xs ys us ws : List Lit) (n : ℕ) (d : Lit) → us ≡ xs → ws ≡ ys → n < length us → length xs ≡ length ys →
    pairs_of (take (n + 1) xs) (map f (take (n + 1) ys)) ≡ pairs_of (take n xs) (map f (take n ys)) ++ (slice_index_or us n d, f (slice_index_or ws n d)) ∷ []
pairs_next f xs ys us ws n d one two below size =
    let longer = pairs_of (take (n + 1) xs) (map f (take (n + 1) ys)) in
    let so_far = pairs_of (take n xs) (map f (take n ys)) in
    subst (λ (z : List Lit). longer ≡ so_far ++ (slice_index_or z n d, f (slice_index_or ws n d)) ∷ []) (sym one)
    (subst (λ (z : List Lit). longer ≡ so_far ++ (slice_index_or xs n d, f (slice_index_or z n d)) ∷ []) (sym two)
    (pairs_more f xs ys n d (subst (λ (z : List Lit). n < length z) one below) size))

pub pairs_all : (f : Lit → Lit) (xs ys : List Lit) (n : ℕ) → length xs ≤ n → length xs ≡ length ys → pairs_of (take n xs) (map f (take n ys)) ≡ pairs_of xs (map f ys)
pairs_all f xs ys n end size = ap₂ pairs_of (take_all n xs end) (ap (map f) (take_all n ys (omega (arith, end, size))))
