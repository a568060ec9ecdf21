-- How many pairs cover a variable, once the gates of some keys are done.
use Rattle.std.specs.Prelude.{◌≡◌, ◌≢◌, ℕ, zero, suc, ◌+◌, ◌<◌, ◌≤◌, ◌⊎◌, List, [], ◌∷◌, map, length, max, take, slice_index, slice_index_or}
use Rattle.std.specs.List.{Contains}
use Rattle.std.proofs.Common.{refl, sym, ap, ap₂, subst, ◌∙◌, arith, inl, inr, ⊎_elim}
use Rattle.std.proofs.lemmas.Bool.{cases_eq}
use Rattle.std.proofs.lemmas.List.{get_or_default, get_or_read}
use Rattle.std.proofs.lemmas.List.Elements.{All-contains}
use Rattle.graph_core.specs.declared.bounds.TheConstants.{MOST_OUTPUTS}
use Rattle.graph_core.specs.declared.gate.Gate.{Gate}
use Rattle.graph_core.specs.declared.literal.Lit.{Lit}
use Rattle.graph_core.specs.Graph.Literals.{variable_of}
use Rattle.graph_core.specs.Graph.{Aig, IsGateOf, IsLevel, IsWellFormed}
use Rattle.graph_core.proofs.OfGraphs.CallerLemmas.{level_inverted, level_is_one, one_gate}
use Rattle.adder_finder.specs.FinalStage.{IsCovered, constant, member, gate as gate_covered, variables_of}
use Rattle.adder_finder.specs.Cover.{AreFirstNeeds, AreKeys, AreNeeds, IsCover, IsCoveredBy, IsOfPairs, Lowers}
use Rattle.adder_finder.proofs.Words.{AreNeedsAt, IsAhead}
use Rattle.adder_finder.proofs.XorSearch.{operands_low}

-- ---- lowering

lowers_enough : (v n : ℕ) (a b : List ℕ) → Lowers v n a b → (w j : ℕ) → slice_index b w ≤ j → (slice_index a w ≤ j) ⊎ ((w ≡ v) × (n ≤ j))
lowers_enough v n a b h w j le = ⊎_elim
    (λ e. let at : slice_index b v ≤ j = subst (λ z. slice_index b z ≤ j) e le in ⊎_elim (λ o. inr (e, omega arith)) (λ o. inl (let i : slice_index a v ≤ j = omega arith in subst (λ z. slice_index a z ≤ j) (sym e) i)) h.one)
    (λ ne. let same = h.others w ne in inl (omega arith)) (cases_eq w v)

lowers_least : (v n : ℕ) (a b : List ℕ) → Lowers v n a b → (w : ℕ) → slice_index b w ≤ slice_index a w
lowers_least v n a b h w = ⊎_elim (λ e. subst (λ z. slice_index b z ≤ slice_index a z) (sym e) h.less) (λ ne. let same = h.others w ne in omega arith) (cases_eq w v)

pub first_step : (max i : ℕ) (pairs : List (Lit × Lit)) (a b c : List ℕ) (x y : ℕ) → ((d : Lit × Lit) → (variable_of (slice_index_or pairs i d).0 ≡ x) × (variable_of (slice_index_or pairs i d).1 ≡ y)) → AreFirstNeeds max pairs i a →
    Lowers x (i + 1) a b → Lowers y (i + 1) b c → AreFirstNeeds max pairs (i + 1) c
first_step max i pairs a b c x y at h p q =
    let first = p.room in
    let second = q.room in
    let whole = h.room in
    record {
      room = omega arith;
      constant = let none = h.constant in let once = lowers_least x (i + 1) a b p 0 in let twice = lowers_least y (i + 1) b c q 0 in omega arith;
      enough = λ v j low few le. ⊎_elim
          (λ r. ⊎_elim (λ s. ⊎_elim (λ z. inl z) (λ k. let below : k.0 < i = k.2 in inr (k.0, k.1, omega arith, k.3)) (h.enough v j low few s))
          (λ s. let up = s.1 in inr (i, omega arith, omega arith, λ d. inl ((at d).0 ∙ sym s.0))) (lowers_enough x (i + 1) a b p v j r))
          (λ r. let up = r.1 in inr (i, omega arith, omega arith, λ d. inr ((at d).1 ∙ sym r.0))) (lowers_enough y (i + 1) b c q v j le);
      least = λ v j low k.
          let once = lowers_least x (i + 1) a b p v in
          let twice = lowers_least y (i + 1) b c q v in
          let up : k.0 < j = k.1 in
          let below : k.0 < i + 1 = k.2 in
          ⊎_elim (λ l. let old = h.least v j low (k.0, k.1, l, k.3) in omega arith)
          (λ e. ⊎_elim
          (λ f. let v_is : v ≡ x = sym f ∙ (subst (λ n. (d : Lit × Lit) → (variable_of (slice_index_or pairs n d).0 ≡ x) × (variable_of (slice_index_or pairs n d).1 ≡ y)) (sym e) at (none x)).0 in
          let here : slice_index b v ≤ i + 1 = subst (λ z. slice_index b z ≤ i + 1) (sym v_is) p.here in omega arith)
          (λ f. let v_is : v ≡ y = sym f ∙ (subst (λ n. (d : Lit × Lit) → (variable_of (slice_index_or pairs n d).0 ≡ x) × (variable_of (slice_index_or pairs n d).1 ≡ y)) (sym e) at (none x)).1 in
          let here : slice_index c v ≤ i + 1 = subst (λ z. slice_index c z ≤ i + 1) (sym v_is) q.here in omega arith)
          (k.3 (none x))) (either k.0 i below);
    }
  where
    none : ℕ → Lit × Lit
    none n = (record { 0 = n }, record { 0 = n })

    either : (m n : ℕ) → m < n + 1 → (m < n) ⊎ (m ≡ n)
    either m n l = ⊎_elim (λ e. inr e) (λ ne. inl (omega arith)) (cases_eq m n)

pub pair_at : (pairs : List (Lit × Lit)) (i x y : ℕ) (p : Lit × Lit) → i < length pairs → x ≡ variable_of (slice_index_or pairs i p).0 → y ≡ variable_of (slice_index_or pairs i p).1 →
    (d : Lit × Lit) → (variable_of (slice_index_or pairs i d).0 ≡ x) × (variable_of (slice_index_or pairs i d).1 ≡ y)
pair_at pairs i x y p low e f d = let same = get_or_default pairs i d p low in (ap (λ (q : Lit × Lit). variable_of q.0) same ∙ sym e, ap (λ (q : Lit × Lit). variable_of q.1) same ∙ sym f)

-- ---- the variables of pairs

pub of_pairs : (pairs : List (Lit × Lit)) (j v : ℕ) → Contains (variables_of (take j pairs)) v → IsOfPairs pairs (length pairs) j v
of_pairs [] zero v h = let low : h.0 < 0 = h.1 in absurd (omega arith)
of_pairs [] (suc j) v h = let low : h.0 < 0 = h.1 in absurd (omega arith)
of_pairs (p ∷ ps) zero v h = let low : h.0 < 0 = h.1 in absurd (omega arith)
of_pairs (p ∷ ps) (suc j) v h = go (λ has. of_pairs ps j v has) h.0 h.1 h.2
  where
    go : (Contains (variables_of (take j ps)) v → IsOfPairs ps (length ps) j v) → (k : ℕ) → k < length (variables_of (p ∷ take j ps)) → slice_index_or (variables_of (p ∷ take j ps)) k v ≡ v →
        IsOfPairs (p ∷ ps) (length (p ∷ ps)) (suc j) v
    go rest zero low e = (0, omega arith, omega arith, λ d. inl e)
    go rest (suc zero) low e = (0, omega arith, omega arith, λ d. inr e)
    go rest (suc (suc k)) low e =
        let r = rest (k, omega arith, e) in
        let up : r.0 < j = r.1 in
        let in_range : r.0 < length ps = r.2 in
        (suc r.0, omega arith, omega arith, r.3)

from_pairs : (pairs : List (Lit × Lit)) (j v i : ℕ) → i < j → i < length pairs → ((d : Lit × Lit) → (variable_of (slice_index_or pairs i d).0 ≡ v) ⊎ (variable_of (slice_index_or pairs i d).1 ≡ v)) →
    Contains (variables_of (take j pairs)) v
from_pairs [] j v i up low h = absurd (omega arith)
from_pairs (p ∷ ps) zero v i up low h = absurd (omega arith)
from_pairs (p ∷ ps) (suc j) v zero up low h = ⊎_elim (λ e. (0, omega arith, e)) (λ e. (1, omega arith, e)) (h p)
from_pairs (p ∷ ps) (suc j) v (suc i) up low h = let r = from_pairs ps j v i (omega arith) (omega arith) h in let in_range : r.0 < length (variables_of (take j ps)) = r.1 in (suc (suc r.0), omega arith, r.2)

-- ---- before any gate

start_least : (gates : List Gate) (set : List ℕ) (needs : List ℕ) (max j : ℕ) (ahead : ℕ → Type 0) → slice_index needs 0 ≡ 0 → ((w : ℕ) → w ≤ max → Contains set w → slice_index needs w ≤ j) →
    ((x : Gate) → Contains gates x → ahead x.v) → {v : ℕ} → IsCovered gates set v → v ≤ max → (ahead v → ⊥) → slice_index needs v ≤ j
start_least gates set needs max j ahead none members all constant low not = omega arith
start_least gates set needs max j ahead none members all (member v has) low not = members v low has
start_least gates set needs max j ahead none members all (gate_covered x has l r) low not = absurd (not (all x has))

key_of : (keys : List (ℕ × ℕ)) (v : ℕ) → Contains (map (λ key. key.1) keys) v → IsAhead keys 0 v
key_of keys v h = let r = go keys h.0 h.1 h.2 in (h.0, (0, v), omega arith, r.0, r.1)
  where
    go : (ks : List (ℕ × ℕ)) (k : ℕ) → k < length (map (λ key. key.1) ks) → slice_index_or (map (λ key. key.1) ks) k v ≡ v → (k < length ks) × ((slice_index_or ks k (0, v)).1 ≡ v)
    go [] k low e = absurd (omega arith)
    go (key ∷ ks) zero low e = (omega arith, e)
    go (key ∷ ks) (suc k) low e = let r = go ks k (omega arith) e in let below = r.0 in (omega arith, r.1)

pub cover_start : (g : Aig) (pairs : List (Lit × Lit)) (keys : List (ℕ × ℕ)) (needs : List ℕ) → length pairs ≤ MOST_OUTPUTS → AreKeys g keys → AreFirstNeeds g.max pairs (length pairs) needs → AreNeedsAt g pairs keys 0 needs
cover_start g pairs keys needs few order h = record {
  room = h.room;
  constant = h.constant;
  enough = λ v j low le at. ⊎_elim (λ e. subst (IsCovered g.gates (variables_of (take j pairs))) (sym e) constant) (λ k. member v (from_pairs pairs j v k.0 k.1 k.2 k.3)) (h.enough v j low (omega arith) at);
  member = λ v j low le has. h.least v j low (of_pairs pairs j v has);
  least = λ v j low le not covered. start_least g.gates (variables_of (take j pairs)) needs g.max j (IsAhead keys 0) h.constant (λ w l has. h.least w j l (of_pairs pairs j w has))
      (λ x has. key_of keys x.v (All-contains (λ y. Contains (map (λ key. key.1) keys) y.v) g.gates x order.all has)) covered low not;
}

-- ---- one gate more

pub key_at : (keys : List (ℕ × ℕ)) (i : ℕ) (e : ℕ × ℕ) → i < length keys → (d : ℕ × ℕ) → (slice_index_or keys i d).1 ≡ (slice_index_or keys i e).1
key_at keys i e low d = ap (λ (k : ℕ × ℕ). k.1) (get_or_default keys i d e low)

pub greater_is : (xs : List ℕ) (i j v w l r n : ℕ) → n ≡ max l r → i ≡ v → j ≡ w → l ≡ slice_index_or xs i l → r ≡ slice_index_or xs j r → v < length xs → w < length xs → n ≡ max (slice_index xs v) (slice_index xs w)
greater_is xs i j v w l r n e p q a b low high =
    e ∙ ap₂ max (get_or_read xs v l low (subst (λ k. l ≡ slice_index_or xs k l) p a) 0) (get_or_read xs w r high (subst (λ k. r ≡ slice_index_or xs k r) q b) 0)

module _ (g : Aig) (well : IsWellFormed g) where
  pub cover_of : (v n : ℕ) (x : Gate) (old new : List ℕ) → IsGateOf g.gates v x → n ≡ max (slice_index old (variable_of x.left)) (slice_index old (variable_of x.right)) → Lowers v n old new → IsCover g v old new
  cover_of v n x old new at is h = record {
    room = h.room;
    others = h.others;
    less = h.less;
    through = λ y j other left right. through y j (one_gate g v x y well at other) left right;
    one = λ j le. ⊎_elim (λ e. inr (x, at, omega arith, omega arith)) (λ e. inl (omega arith)) h.one;
  }
    where
      through : (y : Gate) (j : ℕ) → y ≡ x → slice_index old (variable_of y.left) ≤ j → slice_index old (variable_of y.right) ≤ j → slice_index new v ≤ j
      through y j e left right =
          let l : slice_index old (variable_of x.left) ≤ j = subst (λ z. slice_index old (variable_of z.left) ≤ j) e left in
          let r : slice_index old (variable_of x.right) ≤ j = subst (λ z. slice_index old (variable_of z.right) ≤ j) e right in
          let low = h.here in
          omega arith

  -- a gate is above what it reads
  above : (x : Gate) (a b : ℕ) (w : ℕ) → Contains g.gates x → (w ≡ variable_of x.left) ⊎ (w ≡ variable_of x.right) → IsLevel g.gates x.v a → IsLevel g.gates w b → b < a
  above x a b w has reads p q =
      ⊎_elim (λ f. absurd (All-contains (λ y. y.v ≢ x.v) g.gates x f.0 has refl))
      (λ k. let same : k.0 ≡ x = one_gate g x.v x k.0 well (has, refl) (k.3, k.4) in
      let a_is : a ≡ suc (max k.1 k.2) = k.7 in
      ⊎_elim
      (λ e. let b_is : b ≡ k.1 = level_is_one g (variable_of x.left) k.1 b well (subst (λ (z : Gate). IsLevel g.gates (variable_of z.left) k.1) same k.5) (subst (λ z. IsLevel g.gates z b) e q) in omega arith)
      (λ e. let b_is : b ≡ k.2 = level_is_one g (variable_of x.right) k.2 b well (subst (λ (z : Gate). IsLevel g.gates (variable_of z.right) k.2) same k.6) (subst (λ z. IsLevel g.gates z b) e q) in omega arith)
      reads) (level_inverted g.gates x.v a p)

  covered_least : (pairs : List (Lit × Lit)) (keys : List (ℕ × ℕ)) (i j : ℕ) (old new : List ℕ) → AreKeys g keys → AreNeedsAt g pairs keys i old → i < length keys → j ≤ length pairs → {v : ℕ} → IsCovered g.gates (variables_of (take j pairs)) v →
      IsCover g v old new → v ≤ g.max → ((d : ℕ × ℕ) → (slice_index_or keys i d).1 ≡ v) → slice_index new v ≤ j
  covered_least pairs keys i j old new order h here few constant c low is = let none = h.constant in let less = c.less in omega arith
  covered_least pairs keys i j old new order h here few (member v has) c low is = let before = h.member v j low few has in let less = c.less in omega arith
  covered_least pairs keys i j old new order h here few (gate_covered x has l r) c low is =
      let ops = operands_low g well x.v x (has, refl) in
      c.through x j (has, refl) (h.least (variable_of x.left) j ops.0 few (behind (variable_of x.left) (inl refl)) l) (h.least (variable_of x.right) j ops.1 few (behind (variable_of x.right) (inr refl)) r)
    where
      behind : (w : ℕ) → (w ≡ variable_of x.left) ⊎ (w ≡ variable_of x.right) → IsAhead keys i w → ⊥
      behind w reads a =
          let own : IsLevel g.gates x.v (slice_index_or keys i a.1).0 = subst (λ z. IsLevel g.gates z (slice_index_or keys i a.1).0) (is a.1) (order.levels i a.1 here) in
          let other : IsLevel g.gates w (slice_index_or keys a.0 a.1).0 = subst (λ z. IsLevel g.gates z (slice_index_or keys a.0 a.1).0) a.4 (order.levels a.0 a.1 a.3) in
          let lower = above x (slice_index_or keys i a.1).0 (slice_index_or keys a.0 a.1).0 w has reads own other in
          let rising = order.rising i a.0 a.1 a.2 a.3 in
          absurd (omega arith)

  pub cover_step : (pairs : List (Lit × Lit)) (keys : List (ℕ × ℕ)) (i v : ℕ) (old new : List ℕ) → AreKeys g keys → AreNeedsAt g pairs keys i old → i < length keys → ((d : ℕ × ℕ) → (slice_index_or keys i d).1 ≡ v) → v ≤ g.max → IsCover g v old new →
      AreNeedsAt g pairs keys (i + 1) new
  cover_step pairs keys i v old new order h here is v_low c =
      let same = c.room in
      let whole = h.room in
      record {
        room = omega arith;
        constant = let none = h.constant in let less = not_more 0 in omega arith;
        enough = λ w j low few le. ⊎_elim (λ e. subst (IsCoveredBy g pairs j) (sym e) (enough j few (subst (λ z. slice_index new z ≤ j) e le))) (λ ne. h.enough w j low few (let kept = c.others w ne in omega arith)) (cases_eq w v);
        member = λ w j low few has. let before = h.member w j low few has in let less = not_more w in omega arith;
        least = λ w j low few not covered. ⊎_elim
            (λ e. subst (λ z. slice_index new z ≤ j) (sym e) (covered_least pairs keys i j old new order h here few (subst (IsCoveredBy g pairs j) e covered) c v_low is))
            (λ ne. let kept = c.others w ne in let before = h.least w j low few (λ a. not (later w ne a)) covered in omega arith) (cases_eq w v);
      }
    where
      not_more : (w : ℕ) → slice_index new w ≤ slice_index old w
      not_more w = ⊎_elim (λ e. subst (λ z. slice_index new z ≤ slice_index old z) (sym e) c.less) (λ ne. let kept = c.others w ne in omega arith) (cases_eq w v)

      enough : (j : ℕ) → j ≤ length pairs → slice_index new v ≤ j → IsCoveredBy g pairs j v
      enough j few le = ⊎_elim (λ o. h.enough v j v_low few o) (λ o. let x : Gate = o.0 in let ops = operands_low g well v x o.1 in
          subst (IsCoveredBy g pairs j) o.1.1 (gate_covered x o.1.0 (h.enough (variable_of x.left) j ops.0 few o.2) (h.enough (variable_of x.right) j ops.1 few o.3))) (c.one j le)

      later : (w : ℕ) → w ≢ v → IsAhead keys i w → IsAhead keys (i + 1) w
      later w ne a = ⊎_elim (λ e. absurd (ne (sym a.4 ∙ ap (λ k. (slice_index_or keys k a.1).1) (sym e) ∙ is a.1))) (λ n. let le : i ≤ a.0 = a.2 in (a.0, a.1, omega arith, a.3, a.4)) (cases_eq i a.0)

  pub cover_end : (pairs : List (Lit × Lit)) (keys : List (ℕ × ℕ)) (i : ℕ) (needs : List ℕ) → length keys ≤ i → AreNeedsAt g pairs keys i needs → AreNeeds g pairs needs
  cover_end pairs keys i needs all h = record {
    room = h.room;
    enough = h.enough;
    least = λ v j low few covered. h.least v j low few (λ a. let le : i ≤ a.0 = a.2 in let below : a.0 < length keys = a.3 in absurd (omega arith)) covered;
  }
