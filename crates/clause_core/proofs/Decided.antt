-- Facts on clauses that hold or don't hold.
use Rattle.std.specs.Prelude.{◌≡◌, suc, ◌<◌, List, [], ◌∷◌, length, ℤ, pos, negsuc}
use Rattle.std.specs.List.{Any, Contains}
use Rattle.std.proofs.Common.{refl, ap, subst, arith, inl, inr, ⊎_elim}
use Rattle.graph_core.proofs.OfGraphs.CallerLemmas.{Decided, any_cases, any_here, any_nil, any_there, decided_and, decided_eq}
use Rattle.clause_core.specs.Clause.{Clause, IsSubset, SameSet}
use Rattle.clause_core.proofs.RupSoundness.{contains_cases}

pub decided_int : (a b : ℤ) → Decided (a ≡ b)
decided_int (pos a) (pos b) = ⊎_elim (λ e. inl (ap pos e)) (λ n. inr (λ h. let e : a ≡ b = cc in n e)) (decided_eq a b)
decided_int (pos a) (negsuc b) = inr (λ h. absurd (cc))
decided_int (negsuc a) (pos b) = inr (λ h. absurd (cc))
decided_int (negsuc a) (negsuc b) = ⊎_elim (λ e. inl (ap negsuc e)) (λ n. inr (λ h. let e : a ≡ b = cc in n e)) (decided_eq a b)

pub decided_not : {P : Type 0} → Decided P → Decided (P → ⊥)
decided_not d = ⊎_elim (λ p. inr (λ n. n p)) inl d

pub decided_any : {X : Type 0} (P : X → Type 0) → ((x : X) → Decided (P x)) → (xs : List X) → Decided (Any P xs)
decided_any P d [] = inr (any_nil P)
decided_any P d (x ∷ xs) =
    ⊎_elim (λ p. inl (any_here P x xs p)) (λ n. ⊎_elim (λ a. inl (any_there P x xs a)) (λ m. inr (λ h. ⊎_elim n m (any_cases P x xs h))) (decided_any P d xs)) (d x)

pub contains_nil : {X : Type 0} (y : X) → Contains [] y → ⊥
contains_nil y h = let below : h.0 < 0 = h.1 in absurd (omega arith)

pub contains_here : {X : Type 0} (x : X) (xs : List X) → Contains (x ∷ xs) x
contains_here x xs = (0, omega arith, refl)

pub contains_there : {X : Type 0} (x : X) (xs : List X) (y : X) → Contains xs y → Contains (x ∷ xs) y
contains_there x xs y h = let below : h.0 < length xs = h.1 in (suc h.0, omega arith, h.2)

pub decided_contains : {X : Type 0} → ((a b : X) → Decided (a ≡ b)) → (xs : List X) (y : X) → Decided (Contains xs y)
decided_contains same [] y = inr (contains_nil y)
decided_contains {X} same (x ∷ xs) y =
    ⊎_elim (λ e. inl (subst (Contains (x ∷ xs)) e (contains_here x xs)))
    (λ n. ⊎_elim (λ c. inl (contains_there x xs y c)) (λ m. inr (λ h. ⊎_elim n m (contains_cases x xs y h))) (decided_contains same xs y)) (same x y)

-- what holds of each literal of a clause
pub each_decided : {X : Type 0} (P : X → Type 0) → ((x : X) → Decided (P x)) → (xs : List X) → Decided ((x : X) → Contains xs x → P x)
each_decided P d [] = inl (λ x h. absurd (contains_nil x h))
each_decided P d (x ∷ xs) =
    ⊎_elim (λ p. ⊎_elim (λ all. inl (λ y h. ⊎_elim (λ e. subst P e p) (all y) (contains_cases x xs y h)))
    (λ n. inr (λ h. n (λ y c. h y (contains_there x xs y c)))) (each_decided P d xs))
    (λ n. inr (λ h. n (h x (contains_here x xs)))) (d x)

pub decided_subset : (c d : Clause) → Decided (IsSubset c d)
decided_subset c d = each_decided (Contains d) (decided_contains decided_int d) c

pub decided_same_set : (c d : Clause) → Decided (SameSet c d)
decided_same_set c d = decided_and (decided_subset c d) (decided_subset d c)
