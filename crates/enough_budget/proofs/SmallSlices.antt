-- Plans that go by the groups of a made graph leave small frontiers.
use Rattle.std.specs.declared.option.Option.{Option}
use Rattle.std.specs.declared.option.Option.TheVariants.{None, Some}
use Rattle.std.specs.Prelude.{◌≡◌, ℕ, zero, suc, ◌+◌, ◌*◌, ◌-◌, ◌%◌, ◌<◌, ◌≤◌, ◌⊎◌, Bool, true, false, ◌||◌, List, [], ◌∷◌, ◌++◌, length, reverse, ◌==◌}
use Rattle.std.specs.List.{All, AllByRecursion, Any}
use Rattle.std.proofs.Common.{refl, sym, ap, subst, ◌∙◌, arith, inl, inr, ⊎_elim, true≢false, eqb-true}
use Rattle.std.proofs.Math.Nat.{mod-mod}
use Rattle.std.proofs.lemmas.Bool.{cases_Bool, or_cases}
use Rattle.std.proofs.lemmas.List.{reverse-append, length-reverse}
use Rattle.std.proofs.lemmas.List.Elements.{recursion_from_All}
use Rattle.graph_core.specs.declared.literal.Lit.{Lit}
use Rattle.graph_core.specs.declared.gate.Gate.{Gate}
use Rattle.graph_core.specs.declared.order.Order.TheVariants.{Separate}
use Rattle.graph_core.specs.Graph.Assignments.{Assignment}
use Rattle.graph_core.specs.Graph.Extended.{Extended}
use Rattle.algebra_core.specs.NormalForm.{HasSize}
use Rattle.graph_core.specs.Graph.Operands.{sides_of}
use Rattle.graph_core.proofs.OfGraphs.CallerLemmas.{all_join, any_cases, any_nil}
use Rattle.graph_core.proofs.OfAiger.CallerLemmas.{ArePlaced}
use Rattle.frontier_core.specs.declared.step.Step.{Step}
use Rattle.frontier_core.specs.declared.step.Step.TheVariants.{Add, Eliminate}
use Rattle.frontier_core.specs.Sets.{has}
use Rattle.frontier_core.specs.Frontier.{IsFrontier, frontier_value}
use Rattle.frontier_core.specs.Columns.{columns_sum}
use Rattle.frontier_core.specs.Plan.{Taken, nothing, step, taken, AreSteps, CanFollow}
use Rattle.frontier_core.proofs.FrontierSteps.{first_frontier, adding_leaves_frontier, eliminating_leaves_frontier}
use Rattle.frontier_core.proofs.SizeBounds.{linear_is_small}
use Rattle.frontier_core.proofs.Everywhere.{all_has}
use Rattle.graph_maker.specs.declared.kind.Kind.{Kind}
use Rattle.graph_maker.specs.declared.adder.Adder.TheVariants.{Ripple}
use Rattle.graph_maker.specs.Builder.{Builder, with_gates, literals_from}
use Rattle.graph_maker.specs.Products.{product_gates, products}
use Rattle.graph_maker.proofs.MadeMultiplies.{a_literals, b_literals, all_products, placed, no_gates}
use Rattle.slice_planner.specs.Groups.{groups, groups_of, IsWhole, AreByGroups}
use Rattle.slice_planner.proofs.Composition.{has_append}
use Rattle.enough_budget.proofs.Network.{Cell, gates_at, size_of}
use Rattle.enough_budget.proofs.Needed.{AreWhole}
use Rattle.enough_budget.proofs.WholeFrontiers.{g, e, m, above, base, cells, gates_are, whole_linear}
use Rattle.enough_budget.proofs.GroupFrontiers.{IsCellAt, half_small, full_small}
use Rattle.slice_planner.proofs.ListedGroups.{all_groups}
use Rattle.enough_budget.proofs.MadeGroups.{IsPlain, group_at, onto, singles, adders_groups, plain_groups}

-- ---- the gates that were eliminated up to some step are a frontier with the columns that are there now

abbrev pub FrontsAre : Extended → Taken → Type 0
FrontsAre x f = (part whole : List ℕ) → f.eliminated ≡ part ++ whole → IsFrontier x f.added whole

abbrev tail : List ℕ → List ℕ
tail [] = []
tail (v ∷ vs) = vs

fronts_step : (x : Extended) (f : Taken) (s : Step) → FrontsAre x f → CanFollow x f s → FrontsAre x (step f s)
fronts_step x f (Add k) h can part whole is = adding_leaves_frontier x f.added whole k (h part whole is) can.0 can.1
fronts_step x f (Eliminate v) h can [] whole is =
    subst (IsFrontier x f.added) is (eliminating_leaves_frontier x f.added f.eliminated v (h [] f.eliminated refl) can.gate can.new can.readers can.outputs)
fronts_step x f (Eliminate v) h can (w ∷ part) whole is = h part whole (ap tail is)

pub fronts_all : (x : Extended) (f : Taken) (steps : List Step) → FrontsAre x f → AreSteps x f steps → FrontsAre x (taken f steps)
fronts_all x f [] h can = h
fronts_all x f (s ∷ steps) h can = fronts_all x (step f s) steps (fronts_step x f s h can.0) can.1

pub fronts_first : (x : Extended) → FrontsAre x nothing
fronts_first x [] whole is = subst (IsFrontier x []) is (first_frontier x).0
fronts_first x (v ∷ part) whole is = absurd (cc)

-- ---- the groups of a made graph

abbrev pub AreUpTo : ℕ → List Gate → Type 0
AreUpTo v gates = AllByRecursion (λ q. q.v ≤ v) gates

placed_upto : (v : ℕ) (gates : List Gate) (top : ℕ) → v + length gates ≤ top → ArePlaced v gates → AreUpTo top gates
placed_upto v [] top l h = tt
placed_upto v (q ∷ gates) top l h = (omega (arith, h.0), placed_upto (suc v) gates top (omega arith) h.3)

pub all_reversed : (P : Gate → Type 0) (gates : List Gate) → AllByRecursion P gates → AllByRecursion P (reverse gates)
all_reversed P [] h = tt
all_reversed P (q ∷ gates) h = subst (AllByRecursion P) (sym (reverse-append (q ∷ []) gates)) (all_join P (reverse gates) (q ∷ []) (all_reversed P gates h.1) (h.0, tt))

abbrev AreEven : List Lit → Type 0
AreEven ls = AllByRecursion (λ l. l.0 % 2 ≡ 0) ls

literals_even : (v n : ℕ) → AreEven (literals_from v n)
literals_even v zero = tt
literals_even v (suc n) = (omega arith, literals_even (v + 1) n)

product_plain : (v : ℕ) (xs : List Lit) (y : Lit) → AreEven xs → AllByRecursion IsPlain (product_gates v xs y)
product_plain v [] y h = tt
product_plain v (x ∷ xs) y h = (h.0, product_plain (v + 1) xs y h.1)

products_plain : (b : Builder) (xs ys : List Lit) → AreEven xs → AllByRecursion IsPlain b.gates → AllByRecursion IsPlain (products b xs ys).builder.gates
products_plain b xs [] h p = p
products_plain b xs (y ∷ ys) h p = products_plain (with_gates b (product_gates b.last xs y)) xs ys h (all_join IsPlain b.gates (product_gates b.last xs y) p (product_plain b.last xs y h))

module _ (kind : Kind) (n : ℕ) (pos : 0 < n) where
  abbrev pub first_gates : List Gate
  first_gates = (all_products kind n Ripple pos).builder.gates

  pub first_low : AreUpTo (base kind n pos) first_gates
  first_low =
      let built = (placed kind n Ripple pos).next.built in
      placed_upto (2 * n) first_gates (base kind n pos) (omega (arith, built.last)) built.placed

  pub made_groups : groups (g kind n pos).gates ≡ onto (singles (reverse first_gates)) (base kind n pos) (cells kind n pos)
  made_groups =
      let G = (g kind n pos).gates in
      ap (λ k. groups_of k (reverse G)) (sym (length-reverse G)) ∙ ap (λ gs. all_groups (reverse gs)) (gates_are kind n pos) ∙
      adders_groups first_gates (base kind n pos) (cells kind n pos) (all_reversed (λ q. q.v ≤ base kind n pos) first_gates first_low) ∙
      ap (λ gs. onto gs (base kind n pos) (cells kind n pos))
      (plain_groups (reverse first_gates) (all_reversed IsPlain first_gates (products_plain (no_gates kind n Ripple pos) (a_literals kind n Ripple pos) (b_literals kind n Ripple pos) (literals_even 1 n) tt)))

-- ---- what holds of groups

abbrev AllCells : (List ℕ → Type 0) → ℕ → List Cell → Type 0
AllCells P v [] = Unit {0}
AllCells P v (a ∷ rest) = P (group_at v a.c) × AllCells P (v + size_of a.c) rest

onto_all : (P : List ℕ → Type 0) (gs : List (List ℕ)) (v : ℕ) (rest : List Cell) → AllByRecursion P (onto gs v rest) → AllByRecursion P gs × AllCells P v rest
onto_all P gs v [] h = (h, tt)
onto_all P gs v (a ∷ rest) h = let more = onto_all P (group_at v a.c ∷ gs) (v + size_of a.c) rest h in (more.0.1, (more.0.0, more.1))

abbrev pub AnyCell : (List ℕ → Type 0) → ℕ → List Cell → Type 0
AnyCell P v rest = (u : ℕ) × (x y : Lit) × (c : Option Lit) × IsCellAt u x y c v rest × P (group_at u c)

pub onto_any : (P : List ℕ → Type 0) (gs : List (List ℕ)) (v : ℕ) (rest : List Cell) → Any P (onto gs v rest) → Any P gs ⊎ AnyCell P v rest
onto_any P gs v [] h = inl h
onto_any P gs v (a ∷ rest) h =
    ⊎_elim (λ some. ⊎_elim (λ q. inr (v, a.x, a.y, a.c, inl (refl, refl, refl, refl), q)) (λ more. inl more) (any_cases P (group_at v a.c) gs some))
    (λ it. inr (it.0, it.1, it.2, it.3, inr it.4, it.5)) (onto_any P (group_at v a.c ∷ gs) (v + size_of a.c) rest h)

pub single_any : (P : List ℕ → Type 0) (top : ℕ) (gates : List Gate) → AreUpTo top gates → Any P (singles gates) → (p : ℕ) × (p ≤ top) × P (p ∷ [])
single_any P top [] l h = absurd (any_nil P h)
single_any P top (q ∷ gates) l h = ⊎_elim (λ here. (q.v, l.0, here)) (λ there. single_any P top gates l.1 there) (any_cases P (q.v ∷ []) (singles gates) h)

-- a whole group
whole_group : (W : List ℕ) (v : ℕ) (x y : Lit) (c : Option Lit) → IsWhole W (group_at v c) → AllByRecursion (λ q. has W q.v ≡ has W (v + 1)) (gates_at v x y c)
whole_group W v x y None h = ⊎_elim (λ t. go true (recursion_from_All (λ k. has W k ≡ true) (group_at v None) t)) (λ t. go false (recursion_from_All (λ k. has W k ≡ false) (group_at v None) t)) h
  where
    go : (b : Bool) → AllByRecursion (λ k. has W k ≡ b) (group_at v None) → AllByRecursion (λ q. has W q.v ≡ has W (v + 1)) (gates_at v x y None)
    go b r = (refl, (r.1.0 ∙ sym r.1.1.0, (r.0 ∙ sym r.1.1.0, tt)))
whole_group W v x y (Some c) h = ⊎_elim (λ t. go true (recursion_from_All (λ k. has W k ≡ true) (group_at v (Some c)) t)) (λ t. go false (recursion_from_All (λ k. has W k ≡ false) (group_at v (Some c)) t)) h
  where
    go : (b : Bool) → AllByRecursion (λ k. has W k ≡ b) (group_at v (Some c)) → AllByRecursion (λ q. has W q.v ≡ has W (v + 1)) (gates_at v x y (Some c))
    go b r =
        let one = sym r.1.1.1.1.1.1.0 in
        (refl, (r.1.1.1.1.1.0 ∙ one, (r.1.1.1.1.0 ∙ one, (r.1.1.1.0 ∙ one, (r.1.1.0 ∙ one, (r.1.0 ∙ one, (r.0 ∙ one, tt)))))))

all_whole : (W : List ℕ) (v : ℕ) (rest : List Cell) → AllCells (IsWhole W) v rest → AreWhole W v rest
all_whole W v [] h = tt
all_whole W v (a ∷ rest) h = (whole_group W v a.x a.y a.c h.0, all_whole W (v + size_of a.c) rest h.1)

-- gates that agree on what is above a number
more_whole : (W X : List ℕ) (low : ℕ) → ((w : ℕ) → low < w → has X w ≡ has W w) → (v : ℕ) (rest : List Cell) → low ≤ v → AreWhole W v rest → AreWhole X v rest
more_whole W X low same v [] l h = tt
more_whole W X low same v (a ∷ rest) l h = (cell a.x a.y a.c h.0, more_whole W X low same (v + size_of a.c) rest (omega arith) h.1)
  where
    one : (w : ℕ) → v < w → has W w ≡ has W (v + 1) → has X w ≡ has X (v + 1)
    one w above e = same w (omega arith) ∙ e ∙ sym (same (v + 1) (omega arith))

    cell : (x y : Lit) (c : Option Lit) → AllByRecursion (λ q. has W q.v ≡ has W (v + 1)) (gates_at v x y c) → AllByRecursion (λ q. has X q.v ≡ has X (v + 1)) (gates_at v x y c)
    cell x y None r = (refl, (one (v + 2) (omega arith) r.1.0, (one (v + 3) (omega arith) r.1.1.0, tt)))
    cell x y (Some c) r =
        (refl, (one (v + 2) (omega arith) r.1.0, (one (v + 3) (omega arith) r.1.1.0, (one (v + 4) (omega arith) r.1.1.1.0, (one (v + 5) (omega arith) r.1.1.1.1.0, (one (v + 6) (omega arith) r.1.1.1.1.1.0, (one (v + 7) (omega arith) r.1.1.1.1.1.1.0, tt)))))))

bounded : (v s : ℕ) (ks : List ℕ) (w : ℕ) → AllByRecursion (λ k. (v < k) × (k ≤ v + s)) ks → has ks w ≡ true → (v < w) × (w ≤ v + s)
bounded v s ks w h t = all_has (λ k. (v < k) × (k ≤ v + s)) ks w h t

half_bounds : (v w : ℕ) → has (group_at v None) w ≡ true → (v < w) × (w ≤ v + 3)
half_bounds v w t = bounded v 3 (group_at v None) w ((omega arith, omega arith), ((omega arith, omega arith), ((omega arith, omega arith), tt))) t

full_bounds : (v w : ℕ) (c : Lit) → has (group_at v (Some c)) w ≡ true → (v < w) × (w ≤ v + 7)
full_bounds v w c t =
    bounded v 7 (group_at v (Some c)) w
    ((omega arith, omega arith), ((omega arith, omega arith), ((omega arith, omega arith), ((omega arith, omega arith), ((omega arith, omega arith), ((omega arith, omega arith), ((omega arith, omega arith), tt))))))) t

-- ---- small frontiers of made graphs

module _ (kind : Kind) (n : ℕ) (pos : 0 < n) (K : List ℕ) where
  abbrev value_of : List ℕ → Assignment → ℕ
  value_of E = frontier_value (e kind n pos) (sides_of Separate (g kind n pos)) K E

  whole_small : (E : List ℕ) → IsFrontier (e kind n pos) K E → AreWhole E (base kind n pos) (cells kind n pos) → (size : ℕ) → HasSize (m kind n pos) (value_of E) size → size ≤ 8 * n * n + 64
  whole_small E f unsplit size has_size =
      let line = whole_linear kind n pos K E f unsplit in
      let most : size ≤ 1 + length line.singles + length line.products + 0 =
      linear_is_small (m kind n pos) line.constant line.singles line.products [] (value_of E) size (above kind n pos)
      (λ σ. sym (mod-mod (columns_sum (m kind n pos) (sides_of Separate (g kind n pos)) K 0 _ _) (m kind n pos)) ∙ line.is σ ∙ ap (λ z. z % m kind n pos) (omega arith)) has_size in
      let square : n * n ≡ n + n * (n - 1) = let up : n ≡ suc (n - 1) = omega arith in ap (λ k. n * k) up ∙ omega arith in
      omega (arith, most, line.few, square)

  pub by_groups_small : (E : List ℕ) → ((part whole : List ℕ) → E ≡ part ++ whole → IsFrontier (e kind n pos) K whole) → AreByGroups (groups (g kind n pos).gates) E → (size : ℕ) → HasSize (m kind n pos) (value_of E) size → size ≤ 8 * n * n + 64
  by_groups_small E fronts by size has_size =
      let part = by.part in
      let whole = by.whole in
      let f : IsFrontier (e kind n pos) K (part ++ whole) = subst (IsFrontier (e kind n pos) K) by.both (fronts [] E refl) in
      let fw = fronts part whole by.both in
      let size_is : HasSize (m kind n pos) (value_of (part ++ whole)) size = subst (λ D. HasSize (m kind n pos) (value_of D) size) by.both has_size in
      let groups_whole : AllByRecursion (IsWhole whole) (onto (singles (reverse (first_gates kind n pos))) (base kind n pos) (cells kind n pos)) =
      subst (AllByRecursion (IsWhole whole)) (made_groups kind n pos) (recursion_from_All (IsWhole whole) (groups (g kind n pos).gates) by.unsplit) in
      let unsplit = all_whole whole (base kind n pos) (cells kind n pos) (onto_all (IsWhole whole) (singles (reverse (first_gates kind n pos))) (base kind n pos) (cells kind n pos) groups_whole).1 in
      let same_above = λ (low : (w : ℕ) → base kind n pos < w → has part w ≡ false). whole_small (part ++ whole) f
      (more_whole whole (part ++ whole) (base kind n pos) (λ w up. has_append part whole w ∙ ap (λ b. b || has whole w) (low w up)) (base kind n pos) (cells kind n pos) (omega arith) unsplit) size size_is in
      ⊎_elim (λ none. same_above (λ w up. ap (λ p. has p w) none))
      (λ some.
      ⊎_elim
      (λ single. let p = single_any (λ group. All (λ v. has group v ≡ true) part) (base kind n pos) (reverse (first_gates kind n pos)) (all_reversed (λ q. q.v ≤ base kind n pos) (first_gates kind n pos) (first_low kind n pos)) single in
      same_above (λ w up. alone p.0 p.1 part p.2 w up))
      (λ it. adder part whole f fw unsplit it.0 it.1 it.2 it.3 it.4 it.5 size size_is)
      (onto_any (λ group. All (λ v. has group v ≡ true) part) (singles (reverse (first_gates kind n pos))) (base kind n pos) (cells kind n pos)
      (subst (Any (λ group. All (λ v. has group v ≡ true) part)) (made_groups kind n pos) some)))
      by.one
    where
      alone : (p : ℕ) → p ≤ base kind n pos → (part : List ℕ) → All (λ v. has (p ∷ []) v ≡ true) part → (w : ℕ) → base kind n pos < w → has part w ≡ false
      alone p low part h w up =
          ⊎_elim
          (λ t. absurd
          (let one : has (p ∷ []) w ≡ true = all_has (λ v. has (p ∷ []) v ≡ true) part w (recursion_from_All (λ v. has (p ∷ []) v ≡ true) part h) t in
          ⊎_elim (λ s. let same = eqb-true p w s in omega arith) (λ s. true≢false (sym s)) (or_cases (p == w) false one)))
          (λ s. s) (cases_Bool (has part w))

      adder : (part whole : List ℕ) → IsFrontier (e kind n pos) K (part ++ whole) → IsFrontier (e kind n pos) K whole → AreWhole whole (base kind n pos) (cells kind n pos) →
          (u : ℕ) (x y : Lit) (c : Option Lit) → IsCellAt u x y c (base kind n pos) (cells kind n pos) → All (λ v. has (group_at u c) v ≡ true) part → (size : ℕ) → HasSize (m kind n pos) (value_of (part ++ whole)) size → size ≤ 8 * n * n + 64
      adder part whole f fw unsplit u x y None at h size has_size =
          half_small kind n pos K part whole f fw unsplit u x y at
          (λ w t. half_bounds u w (all_has (λ v. has (group_at u None) v ≡ true) part w (recursion_from_All (λ v. has (group_at u None) v ≡ true) part h) t)) size has_size
      adder part whole f fw unsplit u x y (Some c) at h size has_size =
          full_small kind n pos K part whole f fw unsplit u x y c at
          (λ w t. full_bounds u w c (all_has (λ v. has (group_at u (Some c)) v ≡ true) part w (recursion_from_All (λ v. has (group_at u (Some c)) v ≡ true) part h) t)) size has_size
