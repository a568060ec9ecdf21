-- The steps of the plain plan.
use Rattle.std.specs.Prelude.{◌≡◌, ◌≢◌, ℕ, zero, suc, ◌+◌, ◌<◌, false, List, [], ◌∷◌, ◌++◌, map, length, reverse, slice_index_or}
use Rattle.std.specs.List.{All, AllByRecursion, AllPairs}
use Rattle.std.specs.List.Sorted.{IsPermutation}
use Rattle.std.specs.Ordering.{nat_cmp, ordering_then}
use Rattle.std.proofs.Common.{refl, sym, ap, ap₂, subst, ◌∙◌, arith, inl, inr, is_lt, ⊎_elim, eqb, ne_eqb, length-append}
use Rattle.std.proofs.lemmas.Bool.{cases_eq}
use Rattle.std.proofs.lemmas.List.{reverse-append}
use Rattle.std.proofs.lemmas.List.Elements.{All-from_recursion, recursion_from_All}
use Rattle.std.proofs.lemmas.List.Quantifiers.{all_pairs_push}
use Rattle.std.proofs.lemmas.List.Sorted.{All-permutation, IsPermutation-map, IsPermutation-reverse, IsPermutation-sym, IsPermutation-trans}
use Rattle.std.proofs.lemmas.Bool.Decides.{Decides-eqb}
use Rattle.std.proofs.lemmas.Map.Keys.{IsDistinct-IsPermutation}
use Rattle.std.proofs.lemmas.Map.Made.{AllPairs-from_IsDistinct, IsDistinct-from_AllPairs}
use Rattle.graph_core.specs.declared.gate.Gate.{Gate}
use Rattle.graph_core.specs.Graph.{IsLevel}
use Rattle.graph_core.proofs.OfGraphs.CallerLemmas.{Apart, all_weaker, apart_from_pairs, one_level}
use Rattle.frontier_core.specs.Sets.{count_from}
use Rattle.frontier_core.specs.PlainOrder.{ComesBefore, IsPlainOrder}
use Rattle.frontier_core.specs.declared.step.Step.{Step}
use Rattle.frontier_core.specs.declared.step.Step.TheVariants.{Add, Eliminate}
use Rattle.graph_core.specs.Graph.Extended.{Extended, without_cut}
use Rattle.ripple_graft.specs.Extension.{IsExtension}
use Rattle.frontier_core.specs.Columns.{all_columns}
use Rattle.frontier_core.specs.Plan.{IsPlan, plain_steps}
use Rattle.frontier_core.proofs.OrderMade.{gates_of_defined}
use Rattle.frontier_core.proofs.Plans.{plain_plan_is_plan}
use Rattle.column_reducer.specs.Reducing.{IsPlanned, planned}
use Rattle.column_reducer.specs.Keys.{AreGateKeys, AreRisingKeys, Rises}

-- ---- columns

counted : (k n : ℕ) → count_from k (suc n) ≡ count_from k n ++ (k + n) ∷ []
counted k zero = ap (λ j. j ∷ []) (omega arith)
counted k (suc n) =
    let same : suc k + n ≡ k + suc n = omega arith in
    ap (λ js. k ∷ js) (counted (suc k) n) ∙ ap (λ j. k ∷ count_from (suc k) n ++ j ∷ []) same

map_pushed : (f : ℕ → Step) (xs : List ℕ) (x : ℕ) → map f (xs ++ x ∷ []) ≡ map f xs ++ f x ∷ []
map_pushed f [] x = refl
map_pushed f (y ∷ xs) x = ap (λ ys. f y ∷ ys) (map_pushed f xs x)

pub columns_more : (n : ℕ) → map Add (count_from 0 n) ++ Add n ∷ [] ≡ map Add (count_from 0 (n + 1))
columns_more n =
    let last : 0 + n ≡ n = omega arith in
    let next : suc n ≡ n + 1 = omega arith in
    sym (map_pushed Add (count_from 0 n) n) ∙ ap (map Add) (sym (subst (λ j. count_from 0 (suc n) ≡ count_from 0 n ++ j ∷ []) last (counted 0 n))) ∙ ap (λ j. map Add (count_from 0 j)) next

-- ---- keys that rise

pub rises_of : (a b : ℕ × ℕ) → is_lt (ordering_then (nat_cmp b.0 a.0) (nat_cmp b.1 a.1)) ≡ false → Rises a b
rises_of a b h = grind arith

rises_on : (a b c : ℕ × ℕ) → Rises a b → Rises b c → Rises a c
rises_on a b c h k =
    ⊎_elim (λ lt. ⊎_elim (λ gt. inl (omega arith)) (λ e. let same = e.0 in inl (omega arith)) k)
    (λ d. let same = d.0 in let low = d.1 in ⊎_elim (λ gt. inl (omega arith)) (λ e. let other = e.0 in let up = e.1 in inr (omega arith, omega arith)) k) h

-- each next one rises
abbrev NextRise : List (ℕ × ℕ) → Type 0
NextRise xs = (k : ℕ) (d : ℕ × ℕ) → k + 1 < length xs → Rises (slice_index_or xs k d) (slice_index_or xs (k + 1) d)

rest_rise : (x : ℕ × ℕ) (xs : List (ℕ × ℕ)) → NextRise (x ∷ xs) → NextRise xs
rest_rise x xs h k d low =
    let next : suc k + 1 ≡ suc (k + 1) = omega arith in
    subst (λ n. Rises (slice_index_or xs k d) (slice_index_or (x ∷ xs) n d)) next (h (suc k) d (omega arith))

from_first : (x : ℕ × ℕ) (xs : List (ℕ × ℕ)) → NextRise (x ∷ xs) → AllByRecursion (Rises x) xs
from_first x [] h = tt
from_first x (y ∷ ys) h =
    let first : Rises x y = h 0 x (omega arith) in
    (first, all_weaker (Rises y) (Rises x) ys (λ z r. rises_on x y z first r) (from_first y ys (rest_rise x (y ∷ ys) h)))

pub all_rise : (xs : List (ℕ × ℕ)) → NextRise xs → AreRisingKeys xs
all_rise [] h = tt
all_rise (x ∷ xs) h = (from_first x xs h, all_rise xs (rest_rise x xs h))

-- ---- the order that they give

module _ (gates : List Gate) (apart : AllPairs ◌≢◌ (map (λ x. x.v) gates)) where
  comes_before : (a b : ℕ × ℕ) → IsLevel gates a.1 a.0 → IsLevel gates b.1 b.0 → Rises a b → a.1 ≢ b.1 → ComesBefore gates b.1 a.1
  comes_before a b p q h ne i j k l =
      let first : i ≡ b.0 = (one_level gates apart b.1 b.0 q).1 i k in
      let second : j ≡ a.0 = (one_level gates apart a.1 a.0 p).1 j l in
      ⊎_elim (λ lt. inl (omega arith)) (λ e. let same = e.0 in let low = e.1 in inr (omega arith, omega (arith, ne))) h

  all_before : (a : ℕ × ℕ) (xs : List (ℕ × ℕ)) → IsLevel gates a.1 a.0 → AllByRecursion (λ k. IsLevel gates k.1 k.0) xs → AllByRecursion (Rises a) xs → AllByRecursion (λ v. a.1 ≢ v) (map (λ k. k.1) xs) →
      AllByRecursion (λ v. ComesBefore gates v a.1) (map (λ k. k.1) xs)
  all_before a [] p ps hs ns = tt
  all_before a (b ∷ xs) p ps hs ns = (comes_before a b p ps.0 hs.0 ns.0, all_before a xs p ps.1 hs.1 ns.1)

  pub comes_reversed : (keys : List (ℕ × ℕ)) → AllByRecursion (λ k. IsLevel gates k.1 k.0) keys → AreRisingKeys keys → Apart (map (λ k. k.1) keys) → AllPairs (ComesBefore gates) (reverse (map (λ k. k.1) keys))
  comes_reversed [] ps hs ns = λ i j d lt within. absurd (omega arith)
  comes_reversed (a ∷ xs) ps hs ns =
      let vs = map (λ (k : ℕ × ℕ). k.1) xs in
      subst (AllPairs (ComesBefore gates)) (sym (reverse-append (a.1 ∷ []) vs))
      (all_pairs_push (ComesBefore gates) (reverse vs) a.1 (comes_reversed xs ps.1 hs.1 ns.1)
      (All-permutation (λ v. ComesBefore gates v a.1) vs (reverse vs) (IsPermutation-reverse vs)
      (All-from_recursion (λ v. ComesBefore gates v a.1) vs (all_before a xs ps.0 ps.1 hs.0 ns.0))))

pub keys_are : (gates : List Gate) (keys sorted : List (ℕ × ℕ)) → IsPermutation keys sorted → All (λ key. IsLevel gates key.1 key.0) keys → map (λ key. key.1) keys ≡ map (λ x. x.v) gates → NextRise sorted →
    AreGateKeys gates sorted
keys_are gates keys sorted p levels variables rise = record {
  levels = All-permutation (λ key. IsLevel gates key.1 key.0) keys sorted p levels;
  variables = subst (λ vs. IsPermutation vs (map (λ key. key.1) sorted)) variables (IsPermutation-map (λ (key : ℕ × ℕ). key.1) keys sorted p);
  rising = all_rise sorted rise;
}

flips : (x y : ℕ) → eqb x y ≡ eqb y x
flips x y = ⊎_elim (λ e. ap₂ eqb e (sym e)) (λ ne. ne_eqb x y ne ∙ sym (ne_eqb y x (λ e. ne (sym e)))) (cases_eq x y)

still_apart : (xs ys : List ℕ) → IsPermutation xs ys → AllPairs ◌≢◌ xs → AllPairs ◌≢◌ ys
still_apart xs ys p h = AllPairs-from_IsDistinct Decides-eqb ys (IsDistinct-IsPermutation eqb flips xs ys p (IsDistinct-from_AllPairs Decides-eqb xs h))

pub plain_order_of : (gates : List Gate) (keys : List (ℕ × ℕ)) → AllPairs ◌≢◌ (map (λ x. x.v) gates) → AreGateKeys gates keys → IsPlainOrder gates (reverse (map (λ key. key.1) keys))
plain_order_of gates keys apart h =
    let vs = map (λ (key : ℕ × ℕ). key.1) keys in
    let ws = map (λ (x : Gate). x.v) gates in (
      IsPermutation-sym ws (reverse vs) (IsPermutation-trans ws vs (reverse vs) h.variables (IsPermutation-reverse vs)),
      comes_reversed gates apart keys (recursion_from_All (λ k. IsLevel gates k.1 k.0) keys h.levels) h.rising (apart_from_pairs vs (still_apart ws vs h.variables apart)),
    )

-- ---- the plan

counts : (k n : ℕ) → length (map Add (count_from k n)) ≡ n
counts k zero = refl
counts k (suc n) = ap suc (counts (suc k) n)

pub plan_made : (e : Extended) (vs : List ℕ) (steps : List Step) (n : ℕ) → IsExtension e → IsPlainOrder e.gates vs → steps ≡ plain_steps e vs → n ≡ length e.graph.outputs → IsPlanned (planned e steps n)
plan_made e vs steps n made order is outputs = record {
  plan = subst (IsPlan e) (sym is) (plain_plan_is_plan e vs made order).0;
  low = omega (arith, ap length is, length-append (map Add (all_columns e)) (map Eliminate vs), counts 0 (length e.graph.outputs));
}

-- the gates of a graph alone are the graph's
pub alone_order : (e : Extended) (gates : List Gate) (keys : List (ℕ × ℕ)) → IsExtension e → e ≡ without_cut e.graph → gates ≡ e.graph.gates → AreGateKeys gates keys → IsPlainOrder e.gates (reverse (map (λ key. key.1) keys))
alone_order e gates keys made alone same h =
    let all : gates ≡ e.gates = same ∙ sym (ap (λ x. x.gates) alone) in
    plain_order_of e.gates keys (gates_of_defined e made) (subst (λ gs. AreGateKeys gs keys) all h)
