-- Lists of truth values, the positions of their ones, and the order of positions.
use Rattle.std.specs.Prelude.{◌≡◌, ℕ, suc, ◌≤◌, ◌⊎◌, Bool, true, false, List, [], ◌∷◌, ◌++◌, length}
use Rattle.std.specs.List.{AllByRecursion}
use Rattle.std.proofs.Common.{refl, sym, ap, ap₂, subst, ◌∙◌, arith, inl, inr, ⊎_elim, true≢false}
use Rattle.std.proofs.lemmas.Bool.{cases_order}
use Rattle.graph_core.proofs.OfGraphs.CallerLemmas.{all_weaker}
use Rattle.frontier_core.specs.LeastDifference.{FirstDifferencePrecedes, ones_from, IsLexicographicallyBelow, Precedes}

-- each position of the list is the first one or later
pub ones_above : (k : ℕ) (xs : List Bool) → AllByRecursion (λ j. k ≤ j) (ones_from k xs)
ones_above k [] = tt
ones_above k (true ∷ xs) = (omega arith, all_weaker (λ j. suc k ≤ j) (λ j. k ≤ j) (ones_from (suc k) xs) (λ j h. omega arith) (ones_above (suc k) xs))
ones_above k (false ∷ xs) = all_weaker (λ j. suc k ≤ j) (λ j. k ≤ j) (ones_from (suc k) xs) (λ j h. omega arith) (ones_above (suc k) xs)

not_first : (k : ℕ) (js ks : List ℕ) → AllByRecursion (λ j. suc k ≤ j) js → k ∷ ks ≡ js → ⊥
not_first k [] ks h e = cc
not_first k (j ∷ js) ks h e = let same : k ≡ j = cc in let here = h.0 in omega arith

-- positions tell lists of one length
pub ones_injective : (k : ℕ) (xs ys : List Bool) → length xs ≡ length ys → ones_from k xs ≡ ones_from k ys → xs ≡ ys
ones_injective k [] [] l e = refl
ones_injective k [] (y ∷ ys) l e = absurd (omega arith)
ones_injective k (x ∷ xs) [] l e = absurd (omega arith)
ones_injective k (true ∷ xs) (true ∷ ys) l e = let rest : ones_from (suc k) xs ≡ ones_from (suc k) ys = cc in ap (λ zs. true ∷ zs) (ones_injective (suc k) xs ys (omega arith) rest)
ones_injective k (true ∷ xs) (false ∷ ys) l e = absurd (not_first k (ones_from (suc k) ys) (ones_from (suc k) xs) (ones_above (suc k) ys) e)
ones_injective k (false ∷ xs) (true ∷ ys) l e = absurd (not_first k (ones_from (suc k) xs) (ones_from (suc k) ys) (ones_above (suc k) xs) (sym e))
ones_injective k (false ∷ xs) (false ∷ ys) l e = ap (λ zs. false ∷ zs) (ones_injective (suc k) xs ys (omega arith) e)

-- where the one is true the other is
abbrev pub Implies : List Bool → List Bool → Type 0
Implies [] [] = Unit {0}
Implies [] (y ∷ ys) = ⊥
Implies (x ∷ xs) [] = ⊥
Implies (x ∷ xs) (y ∷ ys) = (x ≡ true → y ≡ true) × Implies xs ys

pub implies_fewer : (k : ℕ) (xs ys : List Bool) → Implies xs ys → length (ones_from k xs) ≤ length (ones_from k ys)
implies_fewer k [] [] h = omega arith
implies_fewer k [] (y ∷ ys) h = absurd h
implies_fewer k (x ∷ xs) [] h = absurd h
implies_fewer k (true ∷ xs) (true ∷ ys) h = omega (arith, implies_fewer (suc k) xs ys h.1)
implies_fewer k (true ∷ xs) (false ∷ ys) h = absurd (true≢false (sym (h.0 refl)))
implies_fewer k (false ∷ xs) (true ∷ ys) h = omega (arith, implies_fewer (suc k) xs ys h.1)
implies_fewer k (false ∷ xs) (false ∷ ys) h = implies_fewer (suc k) xs ys h.1

pub implies_same : (k : ℕ) (xs ys : List Bool) → Implies xs ys → length (ones_from k ys) ≤ length (ones_from k xs) → xs ≡ ys
implies_same k [] [] h l = refl
implies_same k [] (y ∷ ys) h l = absurd h
implies_same k (x ∷ xs) [] h l = absurd h
implies_same k (true ∷ xs) (true ∷ ys) h l = ap (λ zs. true ∷ zs) (implies_same (suc k) xs ys h.1 (omega arith))
implies_same k (true ∷ xs) (false ∷ ys) h l = absurd (true≢false (sym (h.0 refl)))
implies_same k (false ∷ xs) (true ∷ ys) h l = let fewer = implies_fewer (suc k) xs ys h.1 in absurd (omega arith)
implies_same k (false ∷ xs) (false ∷ ys) h l = ap (λ zs. false ∷ zs) (implies_same (suc k) xs ys h.1 l)

-- the order
pub lexicographic_irreflexive : (xs : List ℕ) → IsLexicographicallyBelow xs xs → ⊥
lexicographic_irreflexive [] h = h
lexicographic_irreflexive (x ∷ xs) h = ⊎_elim (λ lt. absurd (omega arith)) (λ e. lexicographic_irreflexive xs e.1) h

pub lexicographic_one_way : (xs ys : List ℕ) → IsLexicographicallyBelow xs ys → IsLexicographicallyBelow ys xs → ⊥
lexicographic_one_way [] ys h g = h
lexicographic_one_way (x ∷ xs) [] h g = h
lexicographic_one_way (x ∷ xs) (y ∷ ys) h g =
    ⊎_elim (λ lt. ⊎_elim (λ gt. absurd (omega arith)) (λ e. let same = e.0 in absurd (omega arith)) g)
    (λ d. let here = d.0 in ⊎_elim (λ gt. absurd (omega arith)) (λ e. lexicographic_one_way xs ys d.1 e.1) g) h

pub precedes_one_way : (xs ys : List ℕ) → Precedes xs ys → Precedes ys xs → ⊥
precedes_one_way xs ys h g =
    ⊎_elim (λ lt. ⊎_elim (λ gt. absurd (omega arith)) (λ e. let same = e.0 in absurd (omega arith)) g)
    (λ d. let here = d.0 in ⊎_elim (λ gt. absurd (omega arith)) (λ e. lexicographic_one_way xs ys d.1 e.1) g) h

pub same_length : (xs ys : List ℕ) → xs ≡ ys → length xs ≤ length ys
same_length xs ys e = subst (λ zs. length xs ≤ length zs) e (omega arith)

pub precedes_fewer : (xs ys : List ℕ) → (xs ≡ ys) ⊎ Precedes xs ys → length xs ≤ length ys
precedes_fewer xs ys h = ⊎_elim (λ e. same_length xs ys e) (λ p. ⊎_elim (λ lt. omega arith) (λ e. let same = e.0 in omega arith) p) h

pub first_difference_precedes : FirstDifferencePrecedes
first_difference_precedes k front xs ys same = inr (same, go k front same)
  where
    head : (k : ℕ) (js ks : List ℕ) → AllByRecursion (λ j. suc k ≤ j) js → suc (length ks) ≡ length js → IsLexicographicallyBelow (k ∷ ks) js
    head k [] ks h l = absurd (omega arith)
    head k (j ∷ js) ks h l = let here = h.0 in inl (omega arith)

    go : (k : ℕ) (front : List Bool) → length (ones_from k (front ++ true ∷ xs)) ≡ length (ones_from k (front ++ false ∷ ys)) → IsLexicographicallyBelow (ones_from k (front ++ true ∷ xs)) (ones_from k (front ++ false ∷ ys))
    go k [] l = head k (ones_from (suc k) ys) (ones_from (suc k) xs) (ones_above (suc k) ys) l
    go k (true ∷ front) l = inr (refl, go (suc k) front (omega arith))
    go k (false ∷ front) l = go (suc k) front l

lexicographic_total : (xs ys : List ℕ) → length xs ≡ length ys → (xs ≡ ys) ⊎ (IsLexicographicallyBelow xs ys ⊎ IsLexicographicallyBelow ys xs)
lexicographic_total [] [] e = inl refl
lexicographic_total [] (y ∷ ys) e = absurd (omega arith)
lexicographic_total (x ∷ xs) [] e = absurd (omega arith)
lexicographic_total (x ∷ xs) (y ∷ ys) e =
    ⊎_elim
    (λ same. ⊎_elim (λ rest. inl (ap₂ ◌∷◌ same rest)) (λ o. ⊎_elim (λ a. inr (inl (inr (same, a)))) (λ b. inr (inr (inr (sym same, b)))) o) (lexicographic_total xs ys (omega arith)))
    (λ o. ⊎_elim (λ a. inr (inl (inl a))) (λ b. inr (inr (inl b))) o) (cases_order x y)

pub precedes_total : (xs ys : List ℕ) → (xs ≡ ys) ⊎ (Precedes xs ys ⊎ Precedes ys xs)
precedes_total xs ys =
    ⊎_elim
    (λ same. ⊎_elim (λ e. inl e) (λ o. ⊎_elim (λ a. inr (inl (inr (same, a)))) (λ b. inr (inr (inr (sym same, b)))) o) (lexicographic_total xs ys same))
    (λ o. ⊎_elim (λ a. inr (inl (inl a))) (λ b. inr (inr (inl b))) o) (cases_order (length xs) (length ys))

lexicographic_transitive : (xs ys zs : List ℕ) → IsLexicographicallyBelow xs ys → IsLexicographicallyBelow ys zs → IsLexicographicallyBelow xs zs
lexicographic_transitive [] ys zs h k = absurd h
lexicographic_transitive (x ∷ xs) [] zs h k = absurd h
lexicographic_transitive (x ∷ xs) (y ∷ ys) [] h k = absurd k
lexicographic_transitive (x ∷ xs) (y ∷ ys) (z ∷ zs) h k =
    ⊎_elim (λ a. ⊎_elim (λ b. inl (omega arith)) (λ b. let same = b.0 in inl (omega arith)) k)
    (λ a. let here = a.0 in ⊎_elim (λ b. inl (omega arith)) (λ b. inr (a.0 ∙ b.0, lexicographic_transitive xs ys zs a.1 b.1)) k) h

pub precedes_transitive : (xs ys zs : List ℕ) → Precedes xs ys → Precedes ys zs → Precedes xs zs
precedes_transitive xs ys zs h k =
    ⊎_elim (λ a. ⊎_elim (λ b. inl (omega arith)) (λ b. let same = b.0 in inl (omega arith)) k)
    (λ a. let here = a.0 in ⊎_elim (λ b. inl (omega arith)) (λ b. inr (a.0 ∙ b.0, lexicographic_transitive xs ys zs a.1 b.1)) k) h
