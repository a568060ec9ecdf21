-- Levels by computing are levels, none is above the number of gates, and gates whose variables have levels have an order.
use Rattle.std.specs.Prelude.{◌≡◌, ◌≢◌, ℕ, zero, suc, ◌+◌, ◌-◌, ◌<◌, ◌≤◌, max, ◌⊎◌, Bool, true, false, cond, not, ◌&&◌, ◌||◌, List, [], ◌∷◌, map, length, ◌==◌, nat_le}
use Rattle.std.specs.List.{AllByRecursion, AllPairs, Contains, list_all, list_any}
use Rattle.std.proofs.Common.{refl, sym, ap, ap₂, subst, ◌∙◌, arith, inl, inr, ⊎_elim, eq-eqb, eqb-true, leb-true, ne_eqb}
use Rattle.std.proofs.lemmas.Bool.{and_parts, eqb-false, leb-false}
use Rattle.std.proofs.lemmas.List.Elements.{All-from_recursion, recursion_from_All}
use Rattle.graph_core.specs.declared.gate.Gate.{Gate}
use Rattle.graph_core.specs.Graph.Literals.{variable_of}
use Rattle.graph_core.specs.Graph.{IsFree, IsLevel, free, above, IsOrder, IsAcyclic}
use Rattle.graph_core.specs.Aiger.Refusal.{is_free, levelled, HasLevel, OneLevel}
use Rattle.graph_core.proofs.OfGraphs.Evaluation.{Distinct}

-- ---- tests

pub or_left : (b c : Bool) → b ≡ true → (b || c) ≡ true
or_left true c h = refl
or_left false c h = absurd (cc)

pub or_right : (b c : Bool) → c ≡ true → (b || c) ≡ true
or_right true c h = refl
or_right false c h = h

pub or_cases : (b c : Bool) → (b || c) ≡ true → (b ≡ true) ⊎ (c ≡ true)
or_cases true c h = inl refl
or_cases false c h = inr h

not_true : (b : Bool) → not b ≡ true → b ≡ false
not_true true h = absurd (cc)
not_true false h = refl

-- ---- members

abbrev pub In : {X : Type 0} → X → List X → Type 0
In x [] = ⊥
In x (y ∷ ys) = (y ≡ x) ⊎ In x ys

pub in_contains : {X : Type 0} (x : X) (xs : List X) → In x xs → Contains xs x
in_contains x [] h = absurd h
in_contains x (y ∷ ys) (inl e) = (0, omega arith, e)
in_contains x (y ∷ ys) (inr h) = let r = in_contains x ys h in let l = r.1 in (suc r.0, omega arith, r.2)

pub contains_in : {X : Type 0} (x : X) (xs : List X) → Contains xs x → In x xs
contains_in x [] h = let l = h.1 in absurd (omega arith)
contains_in x (y ∷ ys) (zero, l, e) = inl e
contains_in x (y ∷ ys) (suc k, l, e) = inr (contains_in x ys (k, omega arith, e))

pub all_in : {X : Type 0} (P : X → Type 0) (xs : List X) (x : X) → AllByRecursion P xs → In x xs → P x
all_in P [] x a h = absurd h
all_in P (y ∷ ys) x a (inl e) = subst P e a.0
all_in P (y ∷ ys) x a (inr h) = all_in P ys x a.1 h

pub all_from_in : {X : Type 0} (P : X → Type 0) (xs : List X) → ((x : X) → In x xs → P x) → AllByRecursion P xs
all_from_in P [] h = tt
all_from_in P (y ∷ ys) h = (h y (inl refl), all_from_in P ys (λ x i. h x (inr i)))

pub any_in : {X : Type 0} (p : X → Bool) (xs : List X) → list_any p xs ≡ true → (x : X) × In x xs × (p x ≡ true)
any_in p [] h = absurd (cc)
any_in p (y ∷ ys) h = ⊎_elim (λ e. (y, inl refl, e)) (λ e. let r = any_in p ys e in (r.0, inr r.1, r.2)) (or_cases (p y) (list_any p ys) h)

in_any : {X : Type 0} (p : X → Bool) (xs : List X) (x : X) → In x xs → p x ≡ true → list_any p xs ≡ true
in_any p [] x h e = absurd h
in_any p (y ∷ ys) x (inl q) e = or_left (p y) (list_any p ys) (ap p q ∙ e)
in_any p (y ∷ ys) x (inr i) e = or_right (p y) (list_any p ys) (in_any p ys x i e)

pub list_all_in : {X : Type 0} (p : X → Bool) (xs : List X) → list_all p xs ≡ true → (x : X) → In x xs → p x ≡ true
list_all_in p [] h x i = absurd i
list_all_in p (y ∷ ys) h x (inl e) = let parts = and_parts (p y) (list_all p ys) h in ap p (sym e) ∙ parts.0
list_all_in p (y ∷ ys) h x (inr i) = let parts = and_parts (p y) (list_all p ys) h in list_all_in p ys parts.1 x i

pub in_list_all : {X : Type 0} (p : X → Bool) (xs : List X) → ((x : X) → In x xs → p x ≡ true) → list_all p xs ≡ true
in_list_all p [] h = refl
in_list_all p (y ∷ ys) h = ap₂ ◌&&◌ (h y (inl refl)) (in_list_all p ys (λ x i. h x (inr i)))

-- ---- how many pass a test

counted : {X : Type 0} → (X → Bool) → List X → ℕ
counted p [] = 0
counted p (x ∷ xs) = cond (p x) 1 0 + counted p xs

one_more : (b : Bool) (n m : ℕ) → n ≤ m → cond b 1 0 + n ≤ suc m
one_more true n m h = omega arith
one_more false n m h = omega arith

counted_few : {X : Type 0} (p : X → Bool) (xs : List X) → counted p xs ≤ length xs
unfolding counted
counted_few p [] = omega arith
counted_few p (x ∷ xs) = one_more (p x) (counted p xs) (length xs) (counted_few p xs)

both_more : (b c : Bool) (n m : ℕ) → (b ≡ true → c ≡ true) → n ≤ m → cond b 1 0 + n ≤ cond c 1 0 + m
both_more true true n m h l = omega arith
both_more true false n m h l = let e = h refl in absurd (cc)
both_more false true n m h l = omega arith
both_more false false n m h l = omega arith

counted_more : {X : Type 0} (p q : X → Bool) → ((x : X) → p x ≡ true → q x ≡ true) → (xs : List X) → counted p xs ≤ counted q xs
unfolding counted
counted_more p q h [] = omega arith
counted_more p q h (x ∷ xs) = both_more (p x) (q x) (counted p xs) (counted q xs) (h x) (counted_more p q h xs)

same_first : (b c : Bool) (n m : ℕ) → (b ≡ true → c ≡ true) → n ≤ m → cond c 1 0 + m ≤ cond b 1 0 + n → (c ≡ true → b ≡ true) × (m ≤ n)
same_first true true n m h l k = (λ e. refl, omega arith)
same_first true false n m h l k = let e = h refl in absurd (cc)
same_first false true n m h l k = absurd (omega arith)
same_first false false n m h l k = (λ e. e, omega arith)

-- where no more pass the weaker test, the tests agree
counted_same : {X : Type 0} (p q : X → Bool) → ((x : X) → p x ≡ true → q x ≡ true) → (xs : List X) → counted q xs ≤ counted p xs → (x : X) → In x xs → q x ≡ true → p x ≡ true
unfolding counted
counted_same p q h [] k x i e = absurd i
counted_same p q h (y ∷ ys) k x (inl s) e =
    let r = same_first (p y) (q y) (counted p ys) (counted q ys) (h y) (counted_more p q h ys) k in
    ap p (sym s) ∙ r.0 (ap q s ∙ e)
counted_same p q h (y ∷ ys) k x (inr i) e =
    let r = same_first (p y) (q y) (counted p ys) (counted q ys) (h y) (counted_more p q h ys) k in
    counted_same p q h ys r.1 x i e

-- ---- levels

abbrev reads : List Gate → ℕ → ℕ → Gate → Bool
reads gates t v x = x.v == v && (levelled gates t (variable_of x.left) && levelled gates t (variable_of x.right))

reads_parts : (gates : List Gate) (t v : ℕ) (x : Gate) → reads gates t v x ≡ true → (x.v ≡ v) × (levelled gates t (variable_of x.left) ≡ true) × (levelled gates t (variable_of x.right) ≡ true)
reads_parts gates t v x h =
    let a = and_parts (x.v == v) (levelled gates t (variable_of x.left) && levelled gates t (variable_of x.right)) h in
    let b = and_parts (levelled gates t (variable_of x.left)) (levelled gates t (variable_of x.right)) a.1 in
    (eqb-true x.v v a.0, b.0, b.1)

reads_from : (gates : List Gate) (t v : ℕ) (x : Gate) → x.v ≡ v → levelled gates t (variable_of x.left) ≡ true → levelled gates t (variable_of x.right) ≡ true → reads gates t v x ≡ true
reads_from gates t v x a b c = ap₂ ◌&&◌ (eq-eqb x.v v a) (ap₂ ◌&&◌ b c)

-- at a level of t + 1 the variable is free, or a gate's whose operands are at t
level_cases : (gates : List Gate) (t v : ℕ) → levelled gates (suc t) v ≡ true → (is_free gates v ≡ true) ⊎ ((x : Gate) × In x gates × (x.v ≡ v) × (levelled gates t (variable_of x.left) ≡ true) × (levelled gates t (variable_of x.right) ≡ true))
level_cases gates t v h =
    ⊎_elim inl (λ e. let r = any_in (reads gates t v) gates e in let p = reads_parts gates t v r.0 r.2 in inr (r.0, r.1, p.0, p.1, p.2)) (or_cases (is_free gates v) (list_any (reads gates t v) gates) h)

level_from : (gates : List Gate) (t v : ℕ) (x : Gate) → In x gates → x.v ≡ v → levelled gates t (variable_of x.left) ≡ true → levelled gates t (variable_of x.right) ≡ true → levelled gates (suc t) v ≡ true
level_from gates t v x i a b c = or_right (is_free gates v) (list_any (reads gates t v) gates) (in_any (reads gates t v) gates x i (reads_from gates t v x a b c))

free_levelled : (gates : List Gate) (t v : ℕ) → is_free gates v ≡ true → levelled gates t v ≡ true
free_levelled gates zero v h = h
free_levelled gates (suc t) v h = or_left (is_free gates v) (list_any (reads gates t v) gates) h

level_up : (gates : List Gate) (t v : ℕ) → levelled gates t v ≡ true → levelled gates (suc t) v ≡ true
level_up gates zero v h = free_levelled gates 1 v h
level_up gates (suc t) v h =
    ⊎_elim (free_levelled gates (suc (suc t)) v)
    (λ r. level_from gates (suc t) v r.0 r.1 r.2 (level_up gates t (variable_of r.0.left) r.3) (level_up gates t (variable_of r.0.right) r.4)) (level_cases gates t v h)

level_add : (gates : List Gate) (d t v : ℕ) → levelled gates t v ≡ true → levelled gates (d + t) v ≡ true
level_add gates zero t v h = let e : t ≡ 0 + t = omega arith in subst (λ n. levelled gates n v ≡ true) e h
level_add gates (suc d) t v h = let e : suc (d + t) ≡ suc d + t = omega arith in subst (λ n. levelled gates n v ≡ true) e (level_up gates (d + t) v (level_add gates d t v h))

pub level_le : (gates : List Gate) (t s v : ℕ) → t ≤ s → levelled gates t v ≡ true → levelled gates s v ≡ true
level_le gates t s v l h = let e : s - t + t ≡ s = omega arith in subst (λ n. levelled gates n v ≡ true) e (level_add gates (s - t) t v h)

-- no variable first gets a level in the round after t
abbrev IsStable : List Gate → ℕ → Type 0
IsStable gates t = (v : ℕ) → levelled gates (suc t) v ≡ true → levelled gates t v ≡ true

stable_next : (gates : List Gate) (t : ℕ) → IsStable gates t → IsStable gates (suc t)
stable_next gates t s v h =
    ⊎_elim (free_levelled gates (suc t) v) (λ r. level_from gates t v r.0 r.1 r.2 (s (variable_of r.0.left) r.3) (s (variable_of r.0.right) r.4)) (level_cases gates (suc t) v h)

stable_at : (gates : List Gate) (t d : ℕ) → IsStable gates t → IsStable gates (d + t)
stable_at gates t zero s = let e : t ≡ 0 + t = omega arith in subst (IsStable gates) e s
stable_at gates t (suc d) s = let e : suc (d + t) ≡ suc d + t = omega arith in subst (IsStable gates) e (stable_next gates (d + t) (stable_at gates t d s))

stable_down : (gates : List Gate) (t d v : ℕ) → IsStable gates t → levelled gates (d + t) v ≡ true → levelled gates t v ≡ true
stable_down gates t zero v s h = let e : 0 + t ≡ t = omega arith in subst (λ n. levelled gates n v ≡ true) e h
stable_down gates t (suc d) v s h = let e : suc d + t ≡ suc (d + t) = omega arith in stable_down gates t d v s (stable_at gates t d s v (subst (λ n. levelled gates n v ≡ true) e h))

abbrev at_level : List Gate → ℕ → ℕ
at_level gates t = counted (λ x. levelled gates t x.v) gates

-- where no more gates have levels after a round, it is stable
stable_from : (gates : List Gate) (t : ℕ) → at_level gates (suc t) ≤ at_level gates t → IsStable gates t
stable_from gates t few v h =
    ⊎_elim (free_levelled gates t v)
    (λ r. subst (λ w. levelled gates t w ≡ true) r.2 (counted_same (λ x. levelled gates t x.v) (λ x. levelled gates (suc t) x.v) (λ x. level_up gates t x.v) gates few r.0 r.1
    (subst (λ w. levelled gates (suc t) w ≡ true) (sym r.2) h))) (level_cases gates t v h)

-- among the first rounds one is stable, or each gave a gate its level
rounds_grow : (gates : List Gate) (k : ℕ) → ((t : ℕ) × (t < k) × IsStable gates t) ⊎ (k ≤ at_level gates k)
rounds_grow gates zero = inr (omega arith)
rounds_grow gates (suc k) = ⊎_elim (λ r. let l = r.1 in inl (r.0, omega arith, r.2)) (λ l. go (nat_le (at_level gates (suc k)) (at_level gates k)) refl l) (rounds_grow gates k)
  where
    go : (b : Bool) → nat_le (at_level gates (suc k)) (at_level gates k) ≡ b → k ≤ at_level gates k → ((t : ℕ) × (t < suc k) × IsStable gates t) ⊎ (suc k ≤ at_level gates (suc k))
    go true e l = inl (k, omega arith, stable_from gates k (leb-true (at_level gates (suc k)) (at_level gates k) e))
    go false e l = let more = leb-false (at_level gates (suc k)) (at_level gates k) e in inr (omega arith)

some_stable : (gates : List Gate) → (t : ℕ) × (t ≤ length gates) × IsStable gates t
some_stable gates =
    ⊎_elim (λ r. let l = r.1 in (r.0, omega arith, r.2)) (λ l. let few = counted_few (λ x. levelled gates (suc (length gates)) x.v) gates in absurd (omega arith)) (rounds_grow gates (suc (length gates)))

-- no level is above the number of gates
pub level_few : (gates : List Gate) (s v : ℕ) → levelled gates s v ≡ true → levelled gates (length gates) v ≡ true
level_few gates s v h = go (nat_le s (length gates)) refl
  where
    go : (b : Bool) → nat_le s (length gates) ≡ b → levelled gates (length gates) v ≡ true
    go true e = level_le gates s (length gates) v (leb-true s (length gates) e) h
    go false e =
        let t = some_stable gates in
        let low = t.1 in
        let high = leb-false s (length gates) e in
        level_le gates t.0 (length gates) v low (stable_down gates t.0 (s - t.0) v t.2 (subst (λ n. levelled gates n v ≡ true) (omega arith) h))

-- ---- levels by computing are levels

pub free_is : (gates : List Gate) (v : ℕ) → is_free gates v ≡ true → IsFree gates v
free_is gates v h = All-from_recursion (λ x. x.v ≢ v) gates (all_from_in (λ x. x.v ≢ v) gates (λ x i. eqb-false x.v v (not_true (x.v == v) (list_all_in (λ y. not (y.v == v)) gates h x i))))

is_free_of : (gates : List Gate) (v : ℕ) → IsFree gates v → is_free gates v ≡ true
is_free_of gates v h = in_list_all (λ x. not (x.v == v)) gates (λ x i. ap not (ne_eqb x.v v (all_in (λ y. y.v ≢ v) gates x (recursion_from_All (λ y. y.v ≢ v) gates h) i)))

pub level_is : (gates : List Gate) (t v : ℕ) → levelled gates t v ≡ true → HasLevel gates v
level_is gates zero v h = (0, free v (free_is gates v h))
level_is gates (suc t) v h =
    ⊎_elim (λ e. (0, free v (free_is gates v e)))
    (λ r. go r.0 r.1 r.2 (level_is gates t (variable_of r.0.left) r.3) (level_is gates t (variable_of r.0.right) r.4)) (level_cases gates t v h)
  where
    go : (x : Gate) → In x gates → x.v ≡ v → HasLevel gates (variable_of x.left) → HasLevel gates (variable_of x.right) → HasLevel gates v
    go x i e l r = (suc (max l.0 r.0), subst (λ w. IsLevel gates w (suc (max l.0 r.0))) e (above x l.0 r.0 (in_contains x gates i) l.1 r.1))

is_level : (gates : List Gate) (v k : ℕ) → IsLevel gates v k → levelled gates k v ≡ true
is_level gates _ _ (free v f) = is_free_of gates v f
is_level gates _ _ (above x i j c l r) =
    level_from gates (max i j) x.v x (contains_in x gates c) refl (level_le gates i (max i j) (variable_of x.left) (omega arith) (is_level gates (variable_of x.left) i l))
    (level_le gates j (max i j) (variable_of x.right) (omega arith) (is_level gates (variable_of x.right) j r))

pub has_level_computed : (gates : List Gate) (v : ℕ) → HasLevel gates v → levelled gates (length gates) v ≡ true
has_level_computed gates v h = level_few gates h.0 v (is_level gates v h.0 h.1)

-- ---- the order by least levels

least : List Gate → ℕ → ℕ → ℕ
least gates zero v = 0
least gates (suc t) v = cond (levelled gates t v) (least gates t v) (suc t)

least_levelled : (gates : List Gate) (t v : ℕ) → levelled gates t v ≡ true → levelled gates (least gates t v) v ≡ true
unfolding least
least_levelled gates zero v h = h
least_levelled gates (suc t) v h = go (levelled gates t v) refl (least_levelled gates t v)
  where
    go : (b : Bool) → levelled gates t v ≡ b → (levelled gates t v ≡ true → levelled gates (least gates t v) v ≡ true) → levelled gates (cond b (least gates t v) (suc t)) v ≡ true
    go true e more = more e
    go false e more = h

least_low : (gates : List Gate) (t s v : ℕ) → levelled gates s v ≡ true → least gates t v ≤ s
unfolding least
least_low gates zero s v h = omega arith
least_low gates (suc t) s v h = go (levelled gates t v) refl (least_low gates t s v h)
  where
    go : (b : Bool) → levelled gates t v ≡ b → least gates t v ≤ s → cond b (least gates t v) (suc t) ≤ s
    go true e more = more
    go false e more = high (nat_le s t) refl
      where
        high : (c : Bool) → nat_le s t ≡ c → suc t ≤ s
        high true q = let up = level_le gates s t v (leb-true s t q) h in let both = sym e ∙ up in absurd (cc)
        high false q = leb-false s t q

least_few : (gates : List Gate) (t v : ℕ) → least gates t v ≤ t
unfolding least
least_few gates zero v = omega arith
least_few gates (suc t) v = go (levelled gates t v) (least_few gates t v)
  where
    go : (b : Bool) → least gates t v ≤ t → cond b (least gates t v) (suc t) ≤ suc t
    go true more = omega arith
    go false more = omega arith

all_map : {X Y : Type 0} (P : Y → Type 0) (f : X → Y) (xs : List X) → AllByRecursion P (map f xs) → AllByRecursion (λ x. P (f x)) xs
all_map P f [] h = tt
all_map P f (x ∷ xs) h = (h.0, all_map P f xs h.1)

pub distinct_from : (gates : List Gate) → AllPairs ◌≢◌ (map (λ x. x.v) gates) → Distinct gates
distinct_from [] h = tt
distinct_from (x ∷ gates) h = (
  all_map (λ w. x.v ≢ w) (λ y. y.v) gates (recursion_from_All (λ w. x.v ≢ w) (map (λ y. y.v) gates) (λ k d l. h 0 (suc k) d (omega arith) (omega arith))),
  distinct_from gates (λ i j d l k. h (suc i) (suc j) d (omega arith) (omega arith)),
)

pub distinct_same : (gates : List Gate) → Distinct gates → (x y : Gate) → In x gates → In y gates → x.v ≡ y.v → y ≡ x
distinct_same [] d x y i j e = absurd i
distinct_same (z ∷ gates) d x y (inl p) (inl q) e = sym q ∙ p
distinct_same (z ∷ gates) d x y (inl p) (inr j) e = absurd (all_in (λ w. z.v ≢ w.v) gates y d.0 j (ap (λ w. w.v) p ∙ e))
distinct_same (z ∷ gates) d x y (inr i) (inl q) e = absurd (all_in (λ w. z.v ≢ w.v) gates x d.0 i (ap (λ w. w.v) q ∙ sym e))
distinct_same (z ∷ gates) d x y (inr i) (inr j) e = distinct_same gates d.1 x y i j e

module _ (gates : List Gate) (distinct : Distinct gates) (all : (v : ℕ) → HasLevel gates v) where
  abbrev number : ℕ → ℕ
  number v = least gates (length gates) v

  abbrev Lower : Gate → Type 0
  Lower x = (number (variable_of x.left) < number x.v) × (number (variable_of x.right) < number x.v)

  lower : (x : Gate) → In x gates → Lower x
  lower x i = go (number x.v) refl (least_levelled gates (length gates) x.v (has_level_computed gates x.v (all x.v)))
    where
      go : (t : ℕ) → number x.v ≡ t → levelled gates t x.v ≡ true → Lower x
      go zero e h = absurd (all_in (λ y. y.v ≢ x.v) gates x (recursion_from_All (λ y. y.v ≢ x.v) gates (free_is gates x.v h)) i refl)
      go (suc t) e h =
          ⊎_elim (λ f. absurd (all_in (λ y. y.v ≢ x.v) gates x (recursion_from_All (λ y. y.v ≢ x.v) gates (free_is gates x.v f)) i refl))
          (λ r. let same = distinct_same gates distinct x r.0 i r.1 (sym r.2) in
          let l = least_low gates (length gates) t (variable_of x.left) (ap (λ y. levelled gates t (variable_of y.left)) (sym same) ∙ r.3) in
          let q = least_low gates (length gates) t (variable_of x.right) (ap (λ y. levelled gates t (variable_of y.right)) (sym same) ∙ r.4) in
          (omega arith, omega arith)) (level_cases gates t x.v h)

  pub levels_order : IsAcyclic gates
  levels_order = (
    number,
    record {
      left = All-from_recursion (λ x. number (variable_of x.left) < number x.v) gates (all_from_in (λ x. number (variable_of x.left) < number x.v) gates (λ x i. (lower x i).0));
      right = All-from_recursion (λ x. number (variable_of x.right) < number x.v) gates (all_from_in (λ x. number (variable_of x.right) < number x.v) gates (λ x i. (lower x i).1));
      few = All-from_recursion (λ x. number x.v ≤ length gates) gates (all_from_in (λ x. number x.v ≤ length gates) gates (λ x i. least_few gates (length gates) x.v));
    },
  )

-- ---- an order gives levels

pub free_or_gate : (gates : List Gate) (v : ℕ) → (is_free gates v ≡ true) ⊎ ((x : Gate) × In x gates × (x.v ≡ v))
free_or_gate [] v = inl refl
free_or_gate (y ∷ gates) v = go (y.v == v) refl (free_or_gate gates v)
  where
    go : (b : Bool) → (y.v == v) ≡ b → (is_free gates v ≡ true) ⊎ ((x : Gate) × In x gates × (x.v ≡ v)) → ((not (y.v == v) && is_free gates v) ≡ true) ⊎ ((x : Gate) × In x (y ∷ gates) × (x.v ≡ v))
    go true e r = inr (y, inl refl, eqb-true y.v v e)
    go false e (inl f) = inl (ap₂ ◌&&◌ (ap not e) f)
    go false e (inr r) = inr (r.0, inr r.1, r.2)

module _ (gates : List Gate) (number : ℕ → ℕ) (order : IsOrder gates number) where
  order_levels : (n v : ℕ) → number v < n → HasLevel gates v
  order_levels zero v h = absurd (omega arith)
  order_levels (suc n) v h =
      ⊎_elim (λ f. (0, free v (free_is gates v f)))
      (λ r. let l = all_in (λ x. number (variable_of x.left) < number x.v) gates r.0 (recursion_from_All (λ x. number (variable_of x.left) < number x.v) gates order.left) r.1 in
      let q = all_in (λ x. number (variable_of x.right) < number x.v) gates r.0 (recursion_from_All (λ x. number (variable_of x.right) < number x.v) gates order.right) r.1 in
      let same : number r.0.v ≡ number v = ap number r.2 in
      go r.0 r.1 r.2 (order_levels n (variable_of r.0.left) (omega arith)) (order_levels n (variable_of r.0.right) (omega arith))) (free_or_gate gates v)
    where
      go : (x : Gate) → In x gates → x.v ≡ v → HasLevel gates (variable_of x.left) → HasLevel gates (variable_of x.right) → HasLevel gates v
      go x i e l r = (suc (max l.0 r.0), subst (λ w. IsLevel gates w (suc (max l.0 r.0))) e (above x l.0 r.0 (in_contains x gates i) l.1 r.1))

pub acyclic_levels : (gates : List Gate) → IsAcyclic gates → (v : ℕ) → HasLevel gates v
acyclic_levels gates h v = order_levels gates h.0 h.1 (suc (h.0 v)) v (omega arith)

-- ---- one level

-- how a variable has its level
pub level_inverted : (gates : List Gate) (v k : ℕ) → IsLevel gates v k → (IsFree gates v × (k ≡ 0)) ⊎
    ((y : Gate) × (i j : ℕ) × Contains gates y × (y.v ≡ v) × IsLevel gates (variable_of y.left) i × IsLevel gates (variable_of y.right) j × (k ≡ suc (max i j)))
level_inverted gates _ _ (free v f) = inl (f, refl)
level_inverted gates _ _ (above x i j c l r) = inr (x, i, j, c, refl, l, r, refl)

pub not_free : (gates : List Gate) (x : Gate) (v : ℕ) → In x gates → x.v ≡ v → IsFree gates v → ⊥
not_free gates x v i e f = all_in (λ y. y.v ≢ v) gates x (recursion_from_All (λ y. y.v ≢ v) gates f) i e

module _ (gates : List Gate) (distinct : Distinct gates) where
  same_level : (v k : ℕ) → IsLevel gates v k → (j : ℕ) → IsLevel gates v j → j ≡ k
  same_level _ _ (free v f) j h = ⊎_elim (λ a. a.1) (λ a. absurd (not_free gates a.0 v (contains_in a.0 gates a.3) a.4 f)) (level_inverted gates v j h)
  same_level _ _ (above x i k c l r) j h =
      ⊎_elim (λ a. absurd (not_free gates x x.v (contains_in x gates c) refl a.0))
      (λ a. let same : a.0 ≡ x = distinct_same gates distinct x a.0 (contains_in x gates c) (contains_in a.0 gates a.3) (sym a.4) in
      a.7 ∙ ap₂ (λ m n. suc (max m n)) (same_level (variable_of x.left) i l a.1 (subst (λ y. IsLevel gates (variable_of y.left) a.1) same a.5))
      (same_level (variable_of x.right) k r a.2 (subst (λ y. IsLevel gates (variable_of y.right) a.2) same a.6))) (level_inverted gates x.v j h)

-- a level by computing is at most the round
level_within : (gates : List Gate) (t v : ℕ) → levelled gates t v ≡ true → (k : ℕ) × (k ≤ t) × IsLevel gates v k
level_within gates zero v h = (0, omega arith, free v (free_is gates v h))
level_within gates (suc t) v h =
    ⊎_elim (λ e. (0, omega arith, free v (free_is gates v e)))
    (λ r. go r.0 r.1 r.2 (level_within gates t (variable_of r.0.left) r.3) (level_within gates t (variable_of r.0.right) r.4)) (level_cases gates t v h)
  where
    go : (x : Gate) → In x gates → x.v ≡ v → ((k : ℕ) × (k ≤ t) × IsLevel gates (variable_of x.left) k) → ((k : ℕ) × (k ≤ t) × IsLevel gates (variable_of x.right) k) → (k : ℕ) × (k ≤ suc t) × IsLevel gates v k
    go x i e l r =
        let a = l.1 in
        let b = r.1 in
        (suc (max l.0 r.0), omega arith, subst (λ w. IsLevel gates w (suc (max l.0 r.0))) e (above x l.0 r.0 (in_contains x gates i) l.2 r.2))

pub one_level : OneLevel
one_level gates apart v k h =
    let distinct = distinct_from gates apart in
    let low = level_within gates (length gates) v (has_level_computed gates v (k, h)) in
    let same : low.0 ≡ k = same_level gates distinct v k h low.0 low.2 in
    let few = low.1 in
    (omega arith, same_level gates distinct v k h)
