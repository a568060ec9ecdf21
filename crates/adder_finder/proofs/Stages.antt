-- The columns that follow a first pair, and which cut they make.
use Rattle.std.specs.Prelude.{◌≡◌, ◌≢◌, ℕ, zero, suc, ◌+◌, ◌<◌, ◌≤◌, ◌⊎◌, List, [], ◌∷◌, ◌++◌, map, length, take, drop, slice_index, slice_index_or}
use Rattle.std.specs.List.{All}
use Rattle.std.proofs.Common.{refl, sym, ap, subst, ◌∙◌, arith, inl, inr, ⊎_elim, append_assoc}
use Rattle.std.proofs.lemmas.Bool.{cases_eq}
use Rattle.std.proofs.lemmas.List.{drop_more, get_or-drop, get_or-map, get_or-take, get_or_append_left, get_or_default, get_or_push, length-append, length-drop, length-map, length-take-le, take-take}
use Rattle.std.proofs.lemmas.List.Elements.{Contains-get_or}
use Rattle.graph_core.specs.declared.literal.Lit.{Lit}
use Rattle.graph_core.specs.Graph.Literals.{variable_of, constant_false}
use Rattle.graph_core.specs.Graph.{Aig, IsDefinedOnce, IsWellFormed}
use Rattle.ripple_graft.specs.declared.cut.Cut.{Cut}
use Rattle.adder_finder.specs.declared.stage.Next.{Next}
use Rattle.adder_finder.specs.XorShape.{IsXorGate, IsXorOfPair}
use Rattle.adder_finder.specs.FinalStage.{IsCovered, variables_of, IsNextColumn, AreNextColumns, IsFinalStage, IsFit}
use Rattle.adder_finder.specs.Cover.{AreNeeds, ArePairsIn}
use Rattle.adder_finder.specs.StageSearch.{AreNextShapes, AreSidesIn, IsCount, IsLongestAt, IsNextShape, IsWholeStage, NoneFitsAt}
use Rattle.graph_core.proofs.OfGraphs.CallerLemmas.{output_in_range}
use Rattle.adder_finder.proofs.NextShapes.{side_low}
use Rattle.adder_finder.proofs.XorSearch.{pair_low}
use Rattle.adder_finder.proofs.FinalStages.{next_one}
use Rattle.adder_finder.proofs.FitCuts.{columns_count}
use Rattle.adder_finder.proofs.XorShapes.{pair_has_shape, pair_one, same_sides}

append_none : (e : List (Lit × Lit)) → e ++ [] ≡ e
append_none [] = refl
append_none (p ∷ e) = ap (λ ps. p ∷ ps) (append_none e)

module _ (g : Aig) (once : IsDefinedOnce g) where
  -- These pairs are the next ones of the first columns, up to the first that has none.
  abbrev pub Runs : List (Lit × Lit) → List Lit → List (Lit × Lit) → Type 0
  Runs e [] [] = Unit {0}
  Runs e (o ∷ os) [] = (p : Lit × Lit) → IsNextColumn g e o p → ⊥
  Runs e [] (p ∷ ps) = ⊥
  Runs e (o ∷ os) (p ∷ ps) = IsNextColumn g e o p × Runs (e ++ p ∷ []) os ps

  -- the pairs before, and these
  joined : (e : List (Lit × Lit)) (p : Lit × Lit) (ps : List (Lit × Lit)) → (e ++ p ∷ []) ++ ps ≡ e ++ p ∷ ps
  joined e p ps = append_assoc e (p ∷ []) ps

  whole : (e : List (Lit × Lit)) (os : List Lit) (ps : List (Lit × Lit)) → Runs e os ps → length ps ≡ length os → AreNextColumns g e os ps
  whole e [] [] r len = tt
  whole e [] (p ∷ ps) r len = absurd r
  whole e (o ∷ os) [] r len = absurd (omega arith)
  whole e (o ∷ os) (p ∷ ps) r len = (r.0, whole (e ++ p ∷ []) os ps r.1 (omega arith))

  but_last : (e : List (Lit × Lit)) (os : List Lit) (ps : List (Lit × Lit)) (d : Lit) → Runs e os ps → suc (length ps) ≡ length os → IsCovered g.gates (variables_of (e ++ ps)) (variable_of (slice_index_or os (length ps) d)) → AreNextColumns g e os ps
  but_last e [] ps d r len c = absurd (omega arith)
  but_last e (o ∷ []) [] d r len c = subst (λ z. IsCovered g.gates (variables_of z) (variable_of o)) (append_none e) c
  but_last e (o ∷ q ∷ os) [] d r len c = absurd (omega arith)
  but_last e (o ∷ os) (p ∷ ps) d r len c = (r.0, but_last (e ++ p ∷ []) os ps d r.1 (omega arith) (subst (λ z. IsCovered g.gates (variables_of z) (variable_of (slice_index_or os (length ps) d))) (sym (joined e p ps)) c))

  last_covered : (e : List (Lit × Lit)) (os : List Lit) (ps : List (Lit × Lit)) (d : Lit) → AreNextColumns g e os ps → suc (length ps) ≡ length os → IsCovered g.gates (variables_of (e ++ ps)) (variable_of (slice_index_or os (length ps) d))
  last_covered e [] ps d n len = absurd (omega arith)
  last_covered e (o ∷ []) [] d n len = subst (λ z. IsCovered g.gates (variables_of z) (variable_of o)) (sym (append_none e)) n
  last_covered e (o ∷ q ∷ os) [] d n len = absurd n
  last_covered e (o ∷ os) (p ∷ ps) d n len = subst (λ z. IsCovered g.gates (variables_of z) (variable_of (slice_index_or os (length ps) d))) (joined e p ps) (last_covered (e ++ p ∷ []) os ps d n.1 (omega arith))

  no_longer : (e : List (Lit × Lit)) (os : List Lit) (ps qs : List (Lit × Lit)) → Runs e os ps → AreNextColumns g e os qs → length qs ≤ length ps
  no_longer e os ps [] r n = omega arith
  no_longer e [] ps (q ∷ qs) r n = absurd n
  no_longer e (o ∷ os) [] (q ∷ qs) r n = absurd (r q n.0)
  no_longer e (o ∷ os) (p ∷ ps) (q ∷ qs) r n =
      let same : q ≡ p = next_one g once e o q p n.0 r.0 in
      let rest = no_longer (e ++ p ∷ []) os ps qs r.1 (subst (λ z. AreNextColumns g (e ++ z ∷ []) os qs) same n.1) in
      omega arith

  as_long : (e : List (Lit × Lit)) (os : List Lit) (ps qs : List (Lit × Lit)) → Runs e os ps → AreNextColumns g e os qs → length qs ≡ length ps → AreNextColumns g e os ps
  as_long e os [] [] r n len = n
  as_long e os (p ∷ ps) [] r n len = absurd (omega arith)
  as_long e os [] (q ∷ qs) r n len = absurd (omega arith)
  as_long e [] (p ∷ ps) (q ∷ qs) r n len = absurd n
  as_long e (o ∷ os) (p ∷ ps) (q ∷ qs) r n len =
      let same : q ≡ p = next_one g once e o q p n.0 r.0 in
      (r.0, as_long (e ++ p ∷ []) os ps qs r.1 (subst (λ z. AreNextColumns g (e ++ z ∷ []) os qs) same n.1) (omega arith))

  few : (e : List (Lit × Lit)) (os : List Lit) (ps : List (Lit × Lit)) → Runs e os ps → length ps ≤ length os
  few e os [] r = omega arith
  few e [] (p ∷ ps) r = absurd r
  few e (o ∷ os) (p ∷ ps) r = let rest = few (e ++ p ∷ []) os ps r.1 in omega arith

  -- from places to recursion
  runs : (e : List (Lit × Lit)) (os : List Lit) (ps : List (Lit × Lit)) → length ps ≤ length os → ((k : ℕ) (o : Lit) (p : Lit × Lit) → k < length ps → IsNextColumn g (e ++ take k ps) (slice_index_or os k o) (slice_index_or ps k p)) →
      ((o : Lit) (p : Lit × Lit) → length ps < length os → IsNextColumn g (e ++ ps) (slice_index_or os (length ps) o) p → ⊥) → Runs e os ps
  runs e [] [] le each last = tt
  runs e (o ∷ os) [] le each last = λ p n. last o p (omega arith) (subst (λ z. IsNextColumn g z o p) (sym (append_none e)) n)
  runs e [] (p ∷ ps) le each last = absurd (omega arith)
  runs e (o ∷ os) (p ∷ ps) le each last = (
    subst (λ z. IsNextColumn g z o p) (append_none e) (each 0 o p (omega arith)),
    runs (e ++ p ∷ []) os ps (omega arith) (λ k a b low. subst (λ z. IsNextColumn g z (slice_index_or os k a) (slice_index_or ps k b)) (sym (joined e p (take k ps))) (each (suc k) a b (omega arith)))
        (λ a b low n. last a b (omega arith) (subst (λ z. IsNextColumn g z (slice_index_or os (length ps) a) b) (joined e p ps) n)),
  )

  -- ---- shapes

  side_one : (o : Lit) (m n : Next) → IsNextShape g o m → IsNextShape g o n → m.side ≡ n.side
  side_one o m n h i =
      ⊎_elim (λ s. h.7 ∙ s.1 ∙ sym i.7) (λ s. absurd (i.6 (subst (IsXorGate g) s.0 (pair_has_shape g (variable_of h.2) m.pair h.5))))
      (same_sides g once (variable_of o) h.0 h.1 i.0 i.1 h.2 h.3 i.2 i.3 h.4 i.4)

  column_of : (e : List (Lit × Lit)) (o : Lit) (n : Next) → IsNextShape g o n → IsCovered g.gates (variables_of e) n.side → IsNextColumn g e o n.pair
  column_of e o n h c = (h.0, h.1, h.2, h.3, h.4, h.5, h.6, subst (IsCovered g.gates (variables_of e)) h.7 c)

  shape_of : (e : List (Lit × Lit)) (o : Lit) (p : Lit × Lit) → IsNextColumn g e o p → (n : Next) × IsNextShape g o n × IsCovered g.gates (variables_of e) n.side
  shape_of e o p h = (record { pair = p; side = variable_of h.3 }, (h.0, h.1, h.2, h.3, h.4, h.5, h.6, refl), h.7)

  -- ---- the cut

  fit_is : (cut : Cut) (o : Lit) (os : List Lit) (p : Lit × Lit) (ps : List (Lit × Lit)) → drop cut.lo g.outputs ≡ o ∷ os → cut.pairs ≡ p ∷ ps → IsXorOfPair g (variable_of o) p → Runs (p ∷ []) os ps → AreNextColumns g (p ∷ []) os ps →
      IsLongestAt g cut.lo cut
  fit_is cut o os p ps outputs pairs has r next = (
    refl,
    (o, os, p, ps, outputs, pairs, has, next),
    λ other f low.
        let same : f.0 ∷ f.1 ≡ o ∷ os = sym f.4 ∙ ap (λ k. drop k g.outputs) low ∙ outputs in
        let first : f.0 ≡ o = cc in
        let others : f.1 ≡ os = cc in
        let pair : f.2 ≡ p = pair_one g once (variable_of o) f.2 p (subst (λ z. IsXorOfPair g (variable_of z) f.2) first f.6) has in
        let least = no_longer (p ∷ []) os ps f.3 r (subst (λ z. AreNextColumns g (z ∷ []) os f.3) pair (subst (λ z. AreNextColumns g (f.2 ∷ []) z f.3) others f.7)) in
        let own : length cut.pairs ≡ suc (length ps) = ap length pairs in
        let theirs : length other.pairs ≡ suc (length f.3) = ap length f.5 in
        omega arith,
  )

  none_is : (lo : ℕ) (o : Lit) (os : List Lit) (p : Lit × Lit) (ps : List (Lit × Lit)) → drop lo g.outputs ≡ o ∷ os → IsXorOfPair g (variable_of o) p → Runs (p ∷ []) os ps → (AreNextColumns g (p ∷ []) os ps → ⊥) → length ps ≢ length os → NoneFitsAt g lo
  none_is lo o os p ps outputs has r not ne cut low f =
      let same : f.0 ∷ f.1 ≡ o ∷ os = sym f.4 ∙ ap (λ k. drop k g.outputs) low ∙ outputs in
      let first : f.0 ≡ o = cc in
      let others : f.1 ≡ os = cc in
      let pair : f.2 ≡ p = pair_one g once (variable_of o) f.2 p (subst (λ z. IsXorOfPair g (variable_of z) f.2) first f.6) has in
      let next : AreNextColumns g (p ∷ []) os f.3 = subst (λ z. AreNextColumns g (z ∷ []) os f.3) pair (subst (λ z. AreNextColumns g (f.2 ∷ []) z f.3) others f.7) in
      let least = no_longer (p ∷ []) os ps f.3 r next in
      let most = few (p ∷ []) os ps r in
      ⊎_elim (λ len. not (as_long (p ∷ []) os ps f.3 r next (omega (arith, ne)))) (λ len. ne (omega arith)) (columns_count g (p ∷ []) os f.3 next)

  -- each column that a pair follows has a shape
  shape_at : (e : List (Lit × Lit)) (os : List Lit) (ps : List (Lit × Lit)) (k : ℕ) (o : Lit) → AreNextColumns g e os ps → k < length ps → (n : Next) × IsNextShape g (slice_index_or os k o) n
  shape_at e os [] k o n low = absurd (omega arith)
  shape_at e [] (p ∷ ps) k o n low = absurd n
  shape_at e (a ∷ os) (p ∷ ps) zero o n low = let s = shape_of e a p n.0 in (s.0, s.1)
  shape_at e (a ∷ os) (p ∷ ps) (suc k) o n low = shape_at (e ++ p ∷ []) os ps k o n.1 (omega arith)

  too_few : (lo : ℕ) (o : Lit) (os : List Lit) (nexts : List Next) → drop lo g.outputs ≡ o ∷ os → AreNextShapes g os nexts → length nexts + 1 < length os → NoneFitsAt g lo
  too_few lo o os nexts outputs shapes short cut low f =
      let same : f.0 ∷ f.1 ≡ o ∷ os = sym f.4 ∙ ap (λ k. drop k g.outputs) low ∙ outputs in
      let others : f.1 ≡ os = cc in
      let next : AreNextColumns g (f.2 ∷ []) os f.3 = subst (λ z. AreNextColumns g (f.2 ∷ []) z f.3) others f.7 in
      let below : length nexts < length f.3 = ⊎_elim (λ len. omega (arith, len)) (λ len. omega (arith, len)) (columns_count g (f.2 ∷ []) os f.3 next) in
      let s = shape_at (f.2 ∷ []) os f.3 (length nexts) o next below in
      shapes.last o s.0 (omega arith) s.1

  -- the first pair covers the other side of the next column, unless that is the last
  first_column : (e : List (Lit × Lit)) (os : List Lit) (ps : List (Lit × Lit)) (o : Lit) → AreNextColumns g e os ps → 1 < length os → (n : Next) × IsNextShape g (slice_index_or os 0 o) n × IsCovered g.gates (variables_of e) n.side
  first_column e [] ps o n long = absurd (omega arith)
  first_column e (a ∷ []) ps o n long = absurd (omega arith)
  first_column e (a ∷ b ∷ os) [] o n long = absurd n
  first_column e (a ∷ b ∷ os) (p ∷ ps) o n long = shape_of e a p n.0

  missed : (lo : ℕ) (o : Lit) (os : List Lit) (p : Lit × Lit) (nexts : List Next) (d : Next) → drop lo g.outputs ≡ o ∷ os → IsXorOfPair g (variable_of o) p → AreNextShapes g os nexts → 1 < length os → 0 < length nexts →
      ¬ (IsCovered g.gates (variables_of (p ∷ [])) (slice_index_or nexts 0 d).side) → NoneFitsAt g lo
  missed lo o os p nexts d outputs has shapes long some not cut low f =
      let same : f.0 ∷ f.1 ≡ o ∷ os = sym f.4 ∙ ap (λ k. drop k g.outputs) low ∙ outputs in
      let first : f.0 ≡ o = cc in
      let others : f.1 ≡ os = cc in
      let pair : f.2 ≡ p = pair_one g once (variable_of o) f.2 p (subst (λ z. IsXorOfPair g (variable_of z) f.2) first f.6) has in
      let next : AreNextColumns g (p ∷ []) os f.3 = subst (λ z. AreNextColumns g (z ∷ []) os f.3) pair (subst (λ z. AreNextColumns g (f.2 ∷ []) z f.3) others f.7) in
      let c = first_column (p ∷ []) os f.3 o next long in
      not (subst (IsCovered g.gates (variables_of (p ∷ []))) (side_one (slice_index_or os 0 o) c.0 (slice_index_or nexts 0 d) c.1 (shapes.each 0 o d some)) c.2)

-- ---- how the cut is found

module _ (g : Aig) (well : IsWellFormed g) (first : Lit × Lit) (os : List Lit) (nexts : List Next) (needs : List ℕ) (count : ℕ) (low : All (λ l. variable_of l ≤ g.max) os)
    (shapes : AreNextShapes g os nexts) (need : AreNeeds g (first ∷ map (λ n. n.pair) nexts) needs) (counted : IsCount needs nexts count) where
  abbrev once : IsDefinedOnce g
  once = well.defined_once

  sizes : length (map (λ n. n.pair) nexts) ≡ length nexts
  sizes = length-map nexts (λ n. n.pair)

  size : length (take count (map (λ n. n.pair) nexts)) ≡ count
  size = let few = counted.few in length-take-le count (map (λ n. n.pair) nexts) (omega (arith, sizes))

  side_in : (k : ℕ) (o : Lit) (n : Next) → k < length nexts → (slice_index_or nexts k n).side ≤ g.max
  side_in k o n l = side_low g well (slice_index_or os k o) (slice_index_or nexts k n) (shapes.each k o n l)

  each : (k : ℕ) (o : Lit) (p : Lit × Lit) → k < length (take count (map (λ n. n.pair) nexts)) → IsNextColumn g (first ∷ take k (take count (map (λ n. n.pair) nexts))) (slice_index_or os k o) (slice_index_or (take count (map (λ n. n.pair) nexts)) k p)
  each k o p l =
      let few = counted.few in
      let n : Next = record { pair = p; side = 0 } in
      let below : k < count = omega (arith, size) in
      let shape = shapes.each k o n (omega arith) in
      let covered = need.enough (slice_index_or nexts k n).side (suc k) (side_in k o n (omega arith)) (omega (arith, sizes)) (counted.each k n below) in
      let column = column_of g once (first ∷ take k (map (λ n. n.pair) nexts)) (slice_index_or os k o) (slice_index_or nexts k n) shape covered in
      let pair_is : slice_index_or (take count (map (λ n. n.pair) nexts)) k p ≡ (slice_index_or nexts k n).pair = get_or-take count (map (λ n. n.pair) nexts) k p below ∙ get_or-map (λ (m : Next). m.pair) nexts k n p (omega arith) in
      let front_is : take k (take count (map (λ n. n.pair) nexts)) ≡ take k (map (λ n. n.pair) nexts) = take-take k count (map (λ n. n.pair) nexts) (omega arith) in
      subst (λ z. IsNextColumn g (first ∷ z) (slice_index_or os k o) (slice_index_or (take count (map (λ n. n.pair) nexts)) k p)) (sym front_is)
      (subst (λ z. IsNextColumn g (first ∷ take k (map (λ n. n.pair) nexts)) (slice_index_or os k o) z) (sym pair_is) column)

  last : (o : Lit) (p : Lit × Lit) → count < length os → IsNextColumn g (first ∷ take count (map (λ n. n.pair) nexts)) (slice_index_or os count o) p → ⊥
  last o p l c =
      let few = counted.few in
      let m = shape_of g once (first ∷ take count (map (λ n. n.pair) nexts)) (slice_index_or os count o) p c in
      ⊎_elim
      (λ e. shapes.last o m.0 (omega arith) (subst (λ k. IsNextShape g (slice_index_or os k o) m.0) e m.1))
      (λ ne.
      let below : count < length nexts = omega arith in
      let same = side_one g once (slice_index_or os count o) m.0 (slice_index_or nexts count m.0) m.1 (shapes.each count o m.0 below) in
      let covered : IsCovered g.gates (variables_of (first ∷ take count (map (λ n. n.pair) nexts))) (slice_index_or nexts count m.0).side = subst (IsCovered g.gates (variables_of (first ∷ take count (map (λ n. n.pair) nexts)))) same m.2 in
      let least = need.least (slice_index_or nexts count m.0).side (suc count) (side_in count o m.0 below) (omega (arith, sizes)) covered in
      let most = counted.last m.0 below in
      absurd (omega arith)) (cases_eq count (length nexts))

  pub run : Runs g once (first ∷ []) os (take count (map (λ n. n.pair) nexts))
  run = runs g once (first ∷ []) os (take count (map (λ n. n.pair) nexts)) (let few = counted.few in let more = shapes.few in omega (arith, size)) each
      (λ o p l c. last o p (omega (arith, size)) (subst (λ k. IsNextColumn g (first ∷ take count (map (λ n. n.pair) nexts)) (slice_index_or os k o) p) size c))

  pub follow : IsWholeStage needs os count → AreNextColumns g (first ∷ []) os (take count (map (λ n. n.pair) nexts))
  follow h =
      let few = counted.few in
      ⊎_elim (λ e. whole g once (first ∷ []) os (take count (map (λ n. n.pair) nexts)) run (size ∙ e))
      (λ s. let d = constant_false in
      let own : variable_of (slice_index_or os count d) ≤ g.max = low count d (let e = s.0 in omega arith) in
      but_last g once (first ∷ []) os (take count (map (λ n. n.pair) nexts)) d run (ap suc size ∙ s.0)
      (subst (λ k. IsCovered g.gates (variables_of (first ∷ take count (map (λ n. n.pair) nexts))) (variable_of (slice_index_or os k d))) (sym size) (need.enough (variable_of (slice_index_or os count d)) (suc count) own (omega (arith, sizes)) (s.1 d)))) h

  pub not_whole : ¬ (IsWholeStage needs os count) → (AreNextColumns g (first ∷ []) os (take count (map (λ n. n.pair) nexts)) → ⊥) × (length (take count (map (λ n. n.pair) nexts)) ≢ length os)
  not_whole not = (
    λ n. ⊎_elim
        (λ len. not (inr (
          omega (arith, size, len),
          λ d.
              let few = counted.few in
              let own : variable_of (slice_index_or os count d) ≤ g.max = low count d (omega (arith, size, len)) in
              need.least (variable_of (slice_index_or os count d)) (suc count) own (omega (arith, sizes))
              (subst (λ k. IsCovered g.gates (variables_of (first ∷ take count (map (λ n. n.pair) nexts))) (variable_of (slice_index_or os k d))) size
              (last_covered g once (first ∷ []) os (take count (map (λ n. n.pair) nexts)) d n (omega (arith, len)))),
        )))
        (λ len. not (inl (sym size ∙ len))) (columns_count g (first ∷ []) os (take count (map (λ n. n.pair) nexts)) n),
    λ e. not (inl (sym size ∙ e)),
  )

  pub found : (cut : Cut) (o : Lit) → drop cut.lo g.outputs ≡ o ∷ os → IsXorOfPair g (variable_of o) first → cut.pairs ≡ first ∷ take count (map (λ n. n.pair) nexts) → IsWholeStage needs os count → IsLongestAt g cut.lo cut
  found cut o outputs has pairs h = fit_is g once cut o os first (take count (map (λ n. n.pair) nexts)) outputs pairs has run (follow h)

  pub missing : (lo : ℕ) (o : Lit) → drop lo g.outputs ≡ o ∷ os → IsXorOfPair g (variable_of o) first → ¬ (IsWholeStage needs os count) → NoneFitsAt g lo
  missing lo o outputs has not = let n = not_whole not in none_is g once lo o os first (take count (map (λ n. n.pair) nexts)) outputs has run n.0 n.1

pub outputs_low : (g : Aig) → IsWellFormed g → (n : ℕ) → All (λ l. variable_of l ≤ g.max) (drop n g.outputs)
outputs_low g well n k d low =
    let at : slice_index_or (drop n g.outputs) k d ≡ slice_index_or g.outputs (n + k) d = get_or-drop n g.outputs k d in
    let below : n + k < length g.outputs = omega (arith, length-drop n g.outputs) in
    let own = output_in_range g well (slice_index_or g.outputs (n + k) d) (Contains-get_or g.outputs (n + k) d below) in
    subst (λ l. variable_of l ≤ g.max) (sym at) (omega arith)

pub pairs_in : (g : Aig) → IsWellFormed g → (o : Lit) (first : Lit × Lit) (os : List Lit) (nexts : List Next) (pairs : List (Lit × Lit)) → IsXorOfPair g (variable_of o) first → AreNextShapes g os nexts → length os ≤ 255 →
    pairs ≡ first ∷ map (λ n. n.pair) nexts → ArePairsIn g pairs
pairs_in g well o first os nexts pairs has shapes short is =
    let few = shapes.few in
    subst (ArePairsIn g) (sym is) (record {
      few = omega (arith, length-map nexts (λ (n : Next). n.pair));
      in_range = at;
    })
  where
    at : All (λ p. (variable_of p.0 ≤ g.max) × (variable_of p.1 ≤ g.max)) (first ∷ map (λ n. n.pair) nexts)
    at zero d low = pair_low g well (variable_of o) first has
    at (suc k) d low =
        let n : Next = record { pair = d; side = 0 } in
        let below : k < length nexts = omega (arith, length-map nexts (λ (m : Next). m.pair)) in
        let pair_is : slice_index_or (map (λ m. m.pair) nexts) k d ≡ (slice_index_or nexts k n).pair = get_or-map (λ (m : Next). m.pair) nexts k n d below in
        let s = shapes.each k constant_false n below in
        subst (λ (z : Lit × Lit). (variable_of z.0 ≤ g.max) × (variable_of z.1 ≤ g.max)) (sym pair_is) (pair_low g well (variable_of s.2) (slice_index_or nexts k n).pair s.5)

pub sides_in : (g : Aig) → IsWellFormed g → (os : List Lit) (nexts : List Next) (size : ℕ) → AreNextShapes g os nexts → size ≡ g.max + 1 → AreSidesIn size nexts
sides_in g well os nexts size shapes room k n low = let own = side_low g well (slice_index_or os k constant_false) (slice_index_or nexts k n) (shapes.each k constant_false n low) in omega arith

-- the low column's output has no XOR shape
pub missing_first : (g : Aig) (lo v : ℕ) (d : Lit) → lo < length g.outputs → v ≡ variable_of (slice_index_or g.outputs lo d) → ¬ (IsXorGate g v) → NoneFitsAt g lo
missing_first g lo v d low is not cut at f =
    let outputs : f.0 ∷ f.1 ≡ slice_index_or g.outputs lo d ∷ drop (lo + 1) g.outputs = sym f.4 ∙ ap (λ k. drop k g.outputs) at ∙ drop_more g.outputs lo d low in
    let first : f.0 ≡ slice_index_or g.outputs lo d = cc in
    not (subst (IsXorGate g) (sym is) (pair_has_shape g (variable_of (slice_index_or g.outputs lo d)) f.2 (subst (λ z. IsXorOfPair g (variable_of z) f.2) first f.6)))

-- ---- the loops

pub count_step : (needs : List ℕ) (nexts : List Next) (i : ℕ) (e : Next) → i < length nexts → ((k : ℕ) (n : Next) → k < i → slice_index needs (slice_index_or nexts k n).side ≤ suc k) →
    slice_index needs (slice_index_or nexts i e).side ≤ i + 1 → (k : ℕ) (n : Next) → k < i + 1 → slice_index needs (slice_index_or nexts k n).side ≤ suc k
count_step needs nexts i e low h here k n below =
    ⊎_elim
    (λ same. let at : slice_index_or nexts k n ≡ slice_index_or nexts i e = ap (λ j. slice_index_or nexts j n) same ∙ get_or_default nexts i n e low in
    subst (λ z. slice_index needs z.side ≤ suc k) (sym at) (omega arith))
    (λ ne. h k n (omega arith)) (cases_eq k i)

pub count_stop : (needs : List ℕ) (nexts : List Next) (i : ℕ) (e : Next) → i < length nexts → ((k : ℕ) (n : Next) → k < i → slice_index needs (slice_index_or nexts k n).side ≤ suc k) →
    i + 1 < slice_index needs (slice_index_or nexts i e).side → IsCount needs nexts i
count_stop needs nexts i e low h here = record {
  few = omega arith;
  each = h;
  last = λ n below. subst (λ z. suc i < slice_index needs z.side) (get_or_default nexts i e n low) (omega arith);
}

abbrev pub Shaped : Aig → List Lit → List Next → Type 0
Shaped g os nexts = (k : ℕ) (o : Lit) (n : Next) → k < length nexts → IsNextShape g (slice_index_or os k o) (slice_index_or nexts k n)

pub shapes_more : (g : Aig) (os : List Lit) (nexts items : List Next) (next : Next) (i : ℕ) (e : Lit) → Shaped g os nexts → length nexts ≡ i → i < length os → IsNextShape g (slice_index_or os i e) next → items ≡ nexts ++ next ∷ [] → Shaped g os items
shapes_more g os nexts items next i e h size low here is = subst (Shaped g os) (sym is) go
  where
    go : Shaped g os (nexts ++ next ∷ [])
    go k o n below =
        ⊎_elim
        (λ same. let at : slice_index_or (nexts ++ next ∷ []) k n ≡ next = get_or_push nexts next n k (omega arith) in
        let out : slice_index_or os k o ≡ slice_index_or os i e = ap (λ j. slice_index_or os j o) same ∙ get_or_default os i o e low in
        subst (IsNextShape g (slice_index_or os k o)) (sym at) (subst (λ z. IsNextShape g z next) (sym out) here))
        (λ ne. let front : k < length nexts = omega (arith, length-append nexts (next ∷ [])) in
        subst (IsNextShape g (slice_index_or os k o)) (sym (get_or_append_left nexts (next ∷ []) n k front)) (h k o n front)) (cases_eq k i)

pub shapes_stop : (g : Aig) (os : List Lit) (nexts : List Next) (i : ℕ) (e : Lit) → Shaped g os nexts → length nexts ≡ i → i < length os → ((n : Next) → ¬ (IsNextShape g (slice_index_or os i e) n)) → AreNextShapes g os nexts
shapes_stop g os nexts i e h size low none = record {
  few = omega arith;
  each = h;
  last = λ o n below s. none n (subst (λ z. IsNextShape g z n) (ap (λ j. slice_index_or os j o) size ∙ get_or_default os i o e low) s);
}

pub shapes_end : (g : Aig) (os : List Lit) (nexts : List Next) (i : ℕ) → Shaped g os nexts → length nexts ≡ i → i ≤ length os → length os ≤ i → AreNextShapes g os nexts
shapes_end g os nexts i h size low all = record { few = omega arith; each = h; last = λ o n below. absurd (omega arith) }

-- ---- the answers

module _ (g : Aig) (well : IsWellFormed g) (lo : ℕ) (first : Lit × Lit) (rest : List Lit) (nexts : List Next) (pairs : List (Lit × Lit)) (needs : List ℕ) (count : ℕ) (is : rest ≡ drop (lo + 1) g.outputs) (low : lo < length g.outputs)
    (has : (o : Lit) → IsXorOfPair g (variable_of (slice_index_or g.outputs lo o)) first) (shapes : AreNextShapes g rest nexts) (all : pairs ≡ first ∷ map (λ n. n.pair) nexts) (need : AreNeeds g pairs needs) (counted : IsCount needs nexts count) where
  ranges : All (λ l. variable_of l ≤ g.max) rest
  ranges = subst (All (λ l. variable_of l ≤ g.max)) (sym is) (outputs_low g well (lo + 1))

  needed : AreNeeds g (first ∷ map (λ n. n.pair) nexts) needs
  needed = subst (λ z. AreNeeds g z needs) all need

  outputs : drop lo g.outputs ≡ slice_index_or g.outputs lo constant_false ∷ rest
  outputs = drop_more g.outputs lo constant_false low ∙ ap (λ z. slice_index_or g.outputs lo constant_false ∷ z) (sym is)

  pub found_here : (kept : List (Lit × Lit)) → kept ≡ take (count + 1) pairs → IsWholeStage needs rest count → IsLongestAt g lo (record { lo = lo; pairs = kept })
  found_here kept front whole_is =
      let next : count + 1 ≡ suc count = omega arith in
      found g well first rest nexts needs count ranges shapes needed counted (record { lo = lo; pairs = kept }) (slice_index_or g.outputs lo constant_false) outputs (has constant_false)
      (front ∙ ap (λ z. take (count + 1) z) all ∙ ap (λ k. take k (first ∷ map (λ n. n.pair) nexts)) next) whole_is

  pub missing_here : ¬ (IsWholeStage needs rest count) → NoneFitsAt g lo
  missing_here not = missing g well first rest nexts needs count ranges shapes needed counted lo (slice_index_or g.outputs lo constant_false) outputs (has constant_false) not

-- fewer columns than two at the end have no shape
pub missing_short : (g : Aig) → IsWellFormed g → (lo : ℕ) (rest : List Lit) (nexts : List Next) → rest ≡ drop (lo + 1) g.outputs → lo < length g.outputs → AreNextShapes g rest nexts → length nexts + 1 < length rest → NoneFitsAt g lo
missing_short g well lo rest nexts is low shapes short =
    too_few g well.defined_once lo (slice_index_or g.outputs lo constant_false) rest nexts
    (drop_more g.outputs lo constant_false low ∙ ap (λ z. slice_index_or g.outputs lo constant_false ∷ z) (sym is)) shapes short

-- the first pair doesn't cover the next column, and that isn't the last
pub missing_next : (g : Aig) → IsWellFormed g → (lo : ℕ) (first : Lit × Lit) (rest : List Lit) (nexts : List Next) (d : Next) → rest ≡ drop (lo + 1) g.outputs → lo < length g.outputs →
    ((o : Lit) → IsXorOfPair g (variable_of (slice_index_or g.outputs lo o)) first) → AreNextShapes g rest nexts → 1 < length rest → 0 < length nexts → ¬ (IsCovered g.gates (variables_of (first ∷ [])) (slice_index_or nexts 0 d).side) → NoneFitsAt g lo
missing_next g well lo first rest nexts d is low has shapes long some not =
    missed g well.defined_once lo (slice_index_or g.outputs lo constant_false) rest first nexts d
    (drop_more g.outputs lo constant_false low ∙ ap (λ z. slice_index_or g.outputs lo constant_false ∷ z) (sym is)) (has constant_false) shapes long some not

-- a column's output, as it is read
pub output_is : (g : Aig) (outs : List Lit) (lo v : ℕ) (e : Lit) → outs ≡ g.outputs → lo < length g.outputs → v ≡ variable_of (slice_index_or outs lo e) → (d : Lit) → v ≡ variable_of (slice_index_or g.outputs lo d)
output_is g outs lo v e is low at d = at ∙ ap (λ os. variable_of (slice_index_or os lo e)) is ∙ ap variable_of (get_or_default g.outputs lo e d low)

pub output_low : (g : Aig) → IsWellFormed g → (lo v : ℕ) → lo < length g.outputs → ((d : Lit) → v ≡ variable_of (slice_index_or g.outputs lo d)) → v ≤ g.max
output_low g well lo v low is =
    let own = output_in_range g well (slice_index_or g.outputs lo constant_false) (Contains-get_or g.outputs lo constant_false low) in
    let at = is constant_false in
    omega arith

-- ---- the final stage

pub none_more : (g : Aig) (lo : ℕ) → ((cut : Cut) → cut.lo < lo → ¬ (IsFit g cut)) → NoneFitsAt g lo → (cut : Cut) → cut.lo < lo + 1 → ¬ (IsFit g cut)
none_more g lo before here cut low = ⊎_elim (λ e. here cut e) (λ ne. before cut (omega arith)) (cases_eq cut.lo lo)

pub stage_is : (g : Aig) (lo : ℕ) (cut : Cut) → ((other : Cut) → other.lo < lo → ¬ (IsFit g other)) → IsLongestAt g lo cut → IsFinalStage g cut
stage_is g lo cut before h = record {
  fit = h.1;
  least = λ other f. ⊎_elim (λ le. omega (arith, h.0)) (λ lt. absurd (before other lt f)) (either lo other.lo);
  longest = h.2;
}
  where
    either : (a b : ℕ) → (a ≤ b) ⊎ (b < a)
    either zero b = inl (omega arith)
    either (suc a) zero = inr (omega arith)
    either (suc a) (suc b) = ⊎_elim (λ l. inl (omega arith)) (λ l. inr (omega arith)) (either a b)

pub fit_low : (g : Aig) (cut : Cut) → IsFit g cut → cut.lo < length g.outputs
fit_low g cut f = let some : length (drop cut.lo g.outputs) ≡ suc (length f.1) = ap length f.4 in omega (arith, some, length-drop cut.lo g.outputs)
