-- Gates by rising levels, and how many pairs cover a variable once the gates of some keys are done.
use Rattle.std.specs.Prelude.{◌≡◌, ℕ, zero, suc, ◌+◌, ◌<◌, ◌≤◌, false, List, [], ◌∷◌, map, length, slice_index_or}
use Rattle.std.specs.List.{All, AllByRecursion, Contains}
use Rattle.std.specs.List.Sorted.{IsPermutation}
use Rattle.std.specs.Ordering.{nat_cmp, ordering_then}
use Rattle.std.proofs.Common.{sym, subst, arith, is_lt}
use Rattle.std.proofs.lemmas.List.Elements.{All-contains_itself, All-from_recursion, All-map, recursion_from_All}
use Rattle.std.proofs.lemmas.List.Sorted.{All-permutation, IsPermutation-map, IsPermutation-sym}
use Rattle.graph_core.specs.declared.gate.Gate.{Gate}
use Rattle.graph_core.specs.Graph.{Aig, IsLevel, IsWellFormed}
use Rattle.adder_finder.specs.Cover.{AreKeys}

-- ---- rising keys

rises_of : (a b : ℕ × ℕ) → is_lt (ordering_then (nat_cmp b.0 a.0) (nat_cmp b.1 a.1)) ≡ false → a.0 ≤ b.0
rises_of a b h = grind arith

rises_far : (keys : List (ℕ × ℕ)) (d : ℕ × ℕ) → ((k : ℕ) → k + 1 < length keys → (slice_index_or keys k d).0 ≤ (slice_index_or keys (k + 1) d).0) → (i n : ℕ) → i + n < length keys → (slice_index_or keys i d).0 ≤ (slice_index_or keys (i + n) d).0
rises_far keys d h i zero low = let same : i + 0 ≡ i = omega arith in subst (λ m. (slice_index_or keys i d).0 ≤ (slice_index_or keys m d).0) (sym same) (omega arith)
rises_far keys d h i (suc n) low =
    let before = rises_far keys d h i n (omega arith) in
    let next = h (i + n) (omega arith) in
    let same : i + suc n ≡ i + n + 1 = omega arith in
    subst (λ m. (slice_index_or keys i d).0 ≤ (slice_index_or keys m d).0) (sym same) (omega arith)

apart_sum : (i j : ℕ) → i ≤ j → (n : ℕ) × (i + n ≡ j)
apart_sum zero j h = (j, omega arith)
apart_sum (suc i) zero h = absurd (omega arith)
apart_sum (suc i) (suc j) h = let r = apart_sum i j (omega arith) in let e = r.1 in (r.0, omega arith)

unmap : {X Y : Type 0} (P : Y → Type 0) (f : X → Y) (xs : List X) → AllByRecursion P (map f xs) → AllByRecursion (λ x. P (f x)) xs
unmap P f [] h = tt
unmap P f (x ∷ xs) h = (h.0, unmap P f xs h.1)

pub keys_are : (g : Aig) → IsWellFormed g → (keys sorted : List (ℕ × ℕ)) → IsPermutation keys sorted → All (λ key. IsLevel g.gates key.1 key.0) keys → map (λ key. key.1) keys ≡ map (λ x. x.v) g.gates →
    ((k : ℕ) (d : ℕ × ℕ) → k + 1 < length sorted → is_lt (ordering_then (nat_cmp (slice_index_or sorted (k + 1) d).0 (slice_index_or sorted k d).0) (nat_cmp (slice_index_or sorted (k + 1) d).1 (slice_index_or sorted k d).1)) ≡ false) →
    AreKeys g sorted
keys_are g well keys sorted p levels variables rise =
    let vs : List ℕ = map (λ (key : ℕ × ℕ). key.1) sorted in
    let same : IsPermutation (map (λ x. x.v) g.gates) vs = subst (λ ws. IsPermutation ws vs) variables (IsPermutation-map (λ (key : ℕ × ℕ). key.1) keys sorted p) in
    let has : All (Contains vs) (map (λ x. x.v) g.gates) = All-permutation (Contains vs) vs (map (λ x. x.v) g.gates) (IsPermutation-sym (map (λ x. x.v) g.gates) vs same) (All-contains_itself vs) in
    let low : All (λ v. v ≤ g.max) vs = All-permutation (λ v. v ≤ g.max) (map (λ x. x.v) g.gates) vs same (lows g.gates well.gates_in_range) in
    record {
      levels = All-permutation (λ key. IsLevel g.gates key.1 key.0) keys sorted p levels;
      in_range = unmapped sorted low;
      all = each g.gates vs has;
      rising = λ i j d le below. let n = apart_sum i j le in let e = n.1 in
          subst (λ m. (slice_index_or sorted i d).0 ≤ (slice_index_or sorted m d).0) e (rises_far sorted d (λ k l. rises_of (slice_index_or sorted k d) (slice_index_or sorted (k + 1) d) (rise k d l)) i n.0 (omega arith));
    }
  where
    lows : (xs : List Gate) → All (λ x. x.v ≤ g.max) xs → All (λ v. v ≤ g.max) (map (λ x. x.v) xs)
    lows xs h = All-map (λ v. v ≤ g.max) (λ (x : Gate). x.v) xs h

    unmapped : (ks : List (ℕ × ℕ)) → All (λ v. v ≤ g.max) (map (λ key. key.1) ks) → All (λ key. key.1 ≤ g.max) ks
    unmapped ks h = All-from_recursion (λ key. key.1 ≤ g.max) ks (unmap (λ v. v ≤ g.max) (λ (key : ℕ × ℕ). key.1) ks (recursion_from_All (λ v. v ≤ g.max) (map (λ key. key.1) ks) h))

    each : (xs : List Gate) (vs : List ℕ) → All (Contains vs) (map (λ x. x.v) xs) → All (λ x. Contains vs x.v) xs
    each xs vs h = All-from_recursion (λ x. Contains vs x.v) xs (unmap (Contains vs) (λ (x : Gate). x.v) xs (recursion_from_All (Contains vs) (map (λ x. x.v) xs) h))
