-- A plain order of acyclic gates, by putting each gate at its place among the others.
use Rattle.std.specs.Prelude.{◌≡◌, ◌≢◌, ℕ, ◌<◌, ◌⊎◌, true, List, [], ◌∷◌, ◌++◌, map, ◌==◌}
use Rattle.std.specs.List.{AllByRecursion, AllPairs}
use Rattle.std.specs.List.Sorted.{IsPermutation}
use Rattle.std.proofs.Common.{refl, sym, subst, ◌∙◌, arith, inl, inr, ⊎_elim, eqb-true, eq-eqb}
use Rattle.std.proofs.lemmas.Bool.{cases_order, or_cases, or_left, or_right}
use Rattle.std.proofs.lemmas.List.Sorted.{IsPermutation-cons, IsPermutation-middle, IsPermutation-refl, IsPermutation-trans, list_any-IsPermutation}
use Rattle.graph_core.specs.declared.gate.Gate.{Gate}
use Rattle.graph_core.specs.Graph.Literals.{variable_of}
use Rattle.graph_core.specs.Graph.{IsLevel, IsAcyclic, defined}
use Rattle.graph_core.specs.Graph.Extended.{Extended}
use Rattle.ripple_graft.specs.Extension.{IsExtension, whole}
use Rattle.graph_core.proofs.OfGraphs.CallerLemmas.{one_level, all_weaker}
use Rattle.frontier_core.specs.Sets.{has}
use Rattle.frontier_core.specs.PlainOrder.{ComesBefore, PlainOrderExists}
use Rattle.frontier_core.proofs.Everywhere.{all_has}
use Rattle.frontier_core.proofs.PlainOrders.{Pairs, pairs_split, pairs_recursion, pairs_from, has_level}

-- what holds of each number that is had holds of each element
all_from_had : (P : ℕ → Type 0) (us : List ℕ) → ((w : ℕ) → has us w ≡ true → P w) → AllByRecursion P us
all_from_had P [] h = tt
all_from_had P (u ∷ us) h = (h u (or_left (u == u) (has us u) (eq-eqb u u refl)), all_from_had P us (λ w e. h w (or_right (u == w) (has us w) e)))

-- the same elements as another list has with a first one more
had_or : (v w : ℕ) (us ws : List ℕ) → IsPermutation us (v ∷ ws) → has us w ≡ true → (v ≡ w) ⊎ (has ws w ≡ true)
had_or v w us ws p h = ⊎_elim (λ e. inl (eqb-true v w e)) (λ e. inr e) (or_cases (v == w) (has ws w) (sym (list_any-IsPermutation (λ u. u == w) us (v ∷ ws) p) ∙ h))

pub pairs_rest : (R : ℕ → ℕ → Type 0) (xs ys : List ℕ) → Pairs R (xs ++ ys) → Pairs R ys
pairs_rest R [] ys h = h
pairs_rest R (x ∷ xs) ys h = pairs_rest R xs ys h.1

pub pairs_front : (R : ℕ → ℕ → Type 0) (xs ys : List ℕ) → Pairs R (xs ++ ys) → Pairs R xs
pairs_front R xs ys h = (pairs_split R xs ys h).0

module _ (gates : List Gate) (acyclic : IsAcyclic gates) (apart : AllPairs ◌≢◌ (map (λ x. x.v) gates)) where
  -- by levels i of v and j of w
  comes_by : (v w i j : ℕ) → IsLevel gates v i → IsLevel gates w j → (j < i) ⊎ ((i ≡ j) × (w < v)) → ComesBefore gates v w
  comes_by v w i j p q h a b k l =
      let first : a ≡ i = (one_level gates apart v i p).1 a k in
      let second : b ≡ j = (one_level gates apart w j q).1 b l in
      ⊎_elim (λ lt. inl (omega arith)) (λ e. let same = e.0 in inr (omega arith, e.1)) h

  decide : (v w : ℕ) → v ≢ w → ComesBefore gates v w ⊎ ComesBefore gates w v
  decide v w ne =
      let i = has_level gates acyclic v in
      let j = has_level gates acyclic w in
      ⊎_elim
      (λ same. ⊎_elim (λ e. absurd (ne e))
      (λ o. ⊎_elim (λ lt. inr (comes_by w v j.0 i.0 j.1 i.1 (inr (sym same, lt)))) (λ gt. inl (comes_by v w i.0 j.0 i.1 j.1 (inr (same, gt)))) o) (cases_order v w))
      (λ o. ⊎_elim (λ lt. inr (comes_by w v j.0 i.0 j.1 i.1 (inl lt))) (λ gt. inl (comes_by v w i.0 j.0 i.1 j.1 (inl gt))) o)
      (cases_order i.0 j.0)

  comes_on : (u v w : ℕ) → ComesBefore gates u v → ComesBefore gates v w → ComesBefore gates u w
  comes_on u v w before after i k p r =
      let j = has_level gates acyclic v in
      ⊎_elim
      (λ a. ⊎_elim (λ b. inl (omega arith)) (λ b. let same = b.0 in inl (omega arith)) (after j.0 k j.1 r))
      (λ a. let same = a.0 in let low = a.1 in ⊎_elim (λ b. inl (omega arith)) (λ b. let other = b.0 in let lower = b.1 in inr (omega arith, omega arith)) (after j.0 k j.1 r))
      (before i j.0 p j.1)

  record Placed (v : ℕ) (ws : List ℕ) : Type 0 where
    list : List ℕ
    permutes : IsPermutation list (v ∷ ws)
    pairs : Pairs (ComesBefore gates) list

  place : (v : ℕ) (ws : List ℕ) → Pairs (ComesBefore gates) ws → AllByRecursion (λ w. v ≢ w) ws → Placed v ws
  place v [] p n = record { list = v ∷ []; permutes = IsPermutation-refl (v ∷ []); pairs = (tt, tt) }
  place v (w ∷ ws) p n = at (place v ws p.1 n.1)
    where
      at : Placed v ws → Placed v (w ∷ ws)
      at rest =
          ⊎_elim
          (λ before. record {
            list = v ∷ w ∷ ws;
            permutes = IsPermutation-refl (v ∷ w ∷ ws);
            pairs = ((before, all_weaker (ComesBefore gates w) (ComesBefore gates v) ws (λ x h. comes_on v w x before h) p.0), p);
          })
          (λ after. record {
            list = w ∷ rest.list;
            permutes = IsPermutation-trans (w ∷ rest.list) (w ∷ v ∷ ws) (v ∷ w ∷ ws) (IsPermutation-cons w rest.list (v ∷ ws) rest.permutes) (IsPermutation-middle (w ∷ []) v ws);
            pairs = (
              all_from_had (ComesBefore gates w) rest.list
                  (λ x h. ⊎_elim (λ e. subst (ComesBefore gates w) e after) (λ e. all_has (ComesBefore gates w) ws x p.0 e) (had_or v x rest.list ws rest.permutes h)),
              rest.pairs,
            );
          })
          (decide v w n.0)

  record Ordered (us : List ℕ) : Type 0 where
    list : List ℕ
    permutes : IsPermutation list us
    pairs : Pairs (ComesBefore gates) list

  ordered : (us : List ℕ) → Pairs ◌≢◌ us → Ordered us
  ordered [] h = record { list = []; permutes = IsPermutation-refl []; pairs = tt }
  ordered (u ∷ us) h = at (ordered us h.1)
    where
      at : Ordered us → Ordered (u ∷ us)
      at rest =
          let next = place u rest.list rest.pairs
          (all_from_had (λ w. u ≢ w) rest.list (λ w e. all_has (λ x. u ≢ x) us w h.0 (sym (list_any-IsPermutation (λ x. x == w) rest.list us rest.permutes) ∙ e))) in
          record {
            list = next.list;
            permutes = IsPermutation-trans next.list (u ∷ rest.list) (u ∷ us) next.permutes (IsPermutation-cons u rest.list us rest.permutes);
            pairs = next.pairs;
          }

pub plain_order_exists : PlainOrderExists
plain_order_exists gates acyclic apart =
    let order = ordered gates acyclic apart (map (λ x. x.v) gates) (pairs_recursion ◌≢◌ (map (λ x. x.v) gates) apart) in
    (order.list, (order.permutes, pairs_from (ComesBefore gates) order.list order.pairs))

-- the gates of an extended graph have different variables
pub gates_of_defined : (e : Extended) → IsExtension e → AllPairs ◌≢◌ (map (λ x. x.v) e.gates)
gates_of_defined e made =
    pairs_from ◌≢◌ (map (λ x. x.v) e.gates)
    (pairs_rest ◌≢◌ (map variable_of e.graph.inputs) (map (λ x. x.v) e.gates) (pairs_recursion ◌≢◌ (defined (whole e)) made.defined_once.once))
