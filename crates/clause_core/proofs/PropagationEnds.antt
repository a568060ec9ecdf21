-- Unit propagation ends: so it is decided whether a clause follows by it.
use Rattle.std.specs.Prelude.{◌≡◌, ℕ, zero, suc, ◌<◌, ◌≤◌, ◌⊎◌, List, [], ◌∷◌, ◌++◌, map, length, ℤ, pos, negsuc, neg_ℤ}
use Rattle.std.specs.List.{All, Contains}
use Rattle.std.proofs.Common.{refl, sym, ap, subst, ◌∙◌, arith, inl, inr, ⊎_elim}
use Rattle.std.proofs.lemmas.List.Elements.{All-cons, All-nil}
use Rattle.clause_core.specs.Clause.{Clause, IsSubset}
use Rattle.clause_core.specs.UnitPropagation.{IsUnit, IsFalsified, IsChain, IsRefuted, IsFixpoint, IsTautology, PropagationEnds, RupIsDecided}
use Rattle.clause_core.proofs.RupSoundness.{contains_cases}
use Rattle.clause_core.proofs.Propagation.{fixpoint_leaves_no_chain}
use Rattle.graph_core.proofs.OfGraphs.CallerLemmas.{Decided, decided_lt, decided_or}
use Rattle.clause_core.proofs.Decided.{decided_int, decided_contains, each_decided, contains_nil, contains_here, contains_there}

-- all elements are of one kind, or one is of the other
pub each_or : {X : Type 0} (P N : X → Type 0) → ((x : X) → P x ⊎ N x) → (xs : List X) → ((x : X) → Contains xs x → P x) ⊎ ((x : X) × Contains xs x × N x)
each_or P N d [] = inl (λ x h. absurd (contains_nil x h))
each_or P N d (x ∷ xs) =
    ⊎_elim (λ p. ⊎_elim (λ all. inl (λ y h. ⊎_elim (λ e. subst P e p) (all y) (contains_cases x xs y h))) (λ s. inr (s.0, contains_there x xs s.0 s.1, s.2)) (each_or P N d xs))
    (λ n. inr (x, contains_here x xs, n)) (d x)

-- one place of an element taken out of a list
abbrev IsTakenOut : List ℤ → ℤ → List ℤ → Type 0
IsTakenOut pool l rest = (suc (length rest) ≡ length pool) × ((k : ℤ) → Contains pool k → (l ≡ k) ⊎ Contains rest k)

take_out : (pool : List ℤ) (l : ℤ) → Contains pool l → (rest : List ℤ) × IsTakenOut pool l rest
take_out [] l h = absurd (contains_nil l h)
take_out (x ∷ pool) l h = ⊎_elim here (λ c. there (take_out pool l c)) (contains_cases x pool l h)
  where
    here : x ≡ l → (rest : List ℤ) × IsTakenOut (x ∷ pool) l rest
    here e = (pool, (refl, λ k c. ⊎_elim (λ f. inl (sym e ∙ f)) inr (contains_cases x pool k c)))

    there : (rest : List ℤ) × IsTakenOut pool l rest → (rest : List ℤ) × IsTakenOut (x ∷ pool) l rest
    there t = (x ∷ t.0, (ap suc t.1.0, λ k c. ⊎_elim (λ e. inr (subst (Contains (x ∷ t.0)) e (contains_here x t.0))) (λ d. ⊎_elim inl (λ r. inr (contains_there x t.0 k r)) (t.1.1 k d)) (contains_cases x pool k c)))

-- a clause that forces a literal which doesn't stand
abbrev Forces : List ℤ → Clause → Type 0
Forces assumed c = (l : ℤ) × IsUnit assumed c l × (Contains assumed l → ⊥)

abbrev IsClosedAt : List ℤ → Clause → Type 0
IsClosedAt assumed c = (l : ℤ) → IsUnit assumed c l → Contains assumed l

falsified_or : (assumed : List ℤ) (c : Clause) → (IsFalsified assumed c → ⊥) ⊎ IsFalsified assumed c
falsified_or assumed c = ⊎_elim inr inl (each_decided (λ k. Contains assumed (neg_ℤ k)) (λ k. decided_contains decided_int assumed (neg_ℤ k)) c)

unit_decided : (assumed : List ℤ) (c : Clause) (l : ℤ) → Decided ((k : ℤ) → Contains c k → (k ≡ l) ⊎ Contains assumed (neg_ℤ k))
unit_decided assumed c l = each_decided (λ k. (k ≡ l) ⊎ Contains assumed (neg_ℤ k)) (λ k. decided_or (decided_int k l) (decided_contains decided_int assumed (neg_ℤ k))) c

closed_or : (assumed : List ℤ) (c : Clause) → IsClosedAt assumed c ⊎ Forces assumed c
closed_or assumed c =
    ⊎_elim (λ all. inl (λ l u. all l u.0 u.1)) (λ s. inr (s.0, (s.1, s.2.0), s.2.1))
    (each_or (λ l. ((k : ℤ) → Contains c k → (k ≡ l) ⊎ Contains assumed (neg_ℤ k)) → Contains assumed l) (λ l. ((k : ℤ) → Contains c k → (k ≡ l) ⊎ Contains assumed (neg_ℤ k)) × (Contains assumed l → ⊥))
    (λ l. ⊎_elim (λ s. inl (λ u. s)) (λ n. ⊎_elim (λ u. inr (u, n)) (λ m. inl (λ u. absurd (m u))) (unit_decided assumed c l)) (decided_contains decided_int assumed l)) c)

module _ (live : List Clause) where
  -- every literal of the live clauses stands, or is one of the others
  abbrev AreLeft : List ℤ → List ℤ → Type 0
  AreLeft assumed pool = (c : Clause) (l : ℤ) → Contains live c → Contains c l → Contains assumed l ⊎ Contains pool l

  abbrev Ends : List ℤ → Type 0
  Ends assumed = IsRefuted live assumed ⊎ ((standing : List ℤ) × IsFixpoint live standing × IsSubset assumed standing)

  longer : (assumed : List ℤ) (c : Clause) (l : ℤ) → Contains live c → IsUnit assumed c l → IsRefuted live (l ∷ assumed) → IsRefuted live assumed
  longer assumed c l has unit r = go r.0 r.1 r.2
    where
      go : (chain : List Clause) → All (Contains live) chain → IsChain (l ∷ assumed) chain → IsRefuted live assumed
      go [] all chain = absurd chain
      go (d ∷ ds) all chain = (c ∷ d ∷ ds, All-cons (Contains live) c (d ∷ ds) has all, (l, unit, chain))

  fewer_left : (assumed pool rest : List ℤ) (l : ℤ) → AreLeft assumed pool → IsTakenOut pool l rest → AreLeft (l ∷ assumed) rest
  fewer_left assumed pool rest l left t c k has in' =
      ⊎_elim (λ a. inl (contains_there l assumed k a)) (λ p. ⊎_elim (λ e. inl (subst (Contains (l ∷ assumed)) e (contains_here l assumed))) inr (t.1 k p)) (left c k has in')

  try' : (assumed : List ℤ) → ((c : Clause) → Contains live c → Forces assumed c → Ends assumed) → Ends assumed
  try' assumed deeper =
      ⊎_elim (λ none. ⊎_elim (λ closed. inr (assumed, record { no_conflict = none; closed = λ c l has unit. closed c has l unit }, λ l h. h)) (λ s. deeper s.0 s.1 s.2) (each_or (IsClosedAt assumed) (Forces assumed) (closed_or assumed) live))
      (λ s. inl (s.0 ∷ [], All-cons (Contains live) s.0 [] s.1 (All-nil (Contains live)), s.2))
      (each_or (λ c. IsFalsified assumed c → ⊥) (IsFalsified assumed) (falsified_or assumed) live)

  deeper : (assumed pool : List ℤ) → AreLeft assumed pool → ((rest : List ℤ) (l : ℤ) → suc (length rest) ≡ length pool → AreLeft (l ∷ assumed) rest → Ends (l ∷ assumed)) →
      (c : Clause) → Contains live c → Forces assumed c → Ends assumed
  deeper assumed pool left later c has f = ⊎_elim (λ a. absurd (f.2 a)) go (left c f.0 has f.1.0)
    where
      go : Contains pool f.0 → Ends assumed
      go p =
          let t = take_out pool f.0 p in
          ⊎_elim (λ r. inl (longer assumed c f.0 has f.1 r)) (λ s. inr (s.0, s.1, λ k h. s.2 k (contains_there f.0 assumed k h)))
          (later t.0 f.0 t.1.0 (fewer_left assumed pool t.0 f.0 left t.1))

  ends : (n : ℕ) (pool assumed : List ℤ) → length pool ≤ n → AreLeft assumed pool → Ends assumed
  ends zero pool assumed few left = try' assumed (deeper assumed pool left (λ rest l e h. absurd (omega arith)))
  ends (suc n) pool assumed few left = try' assumed (deeper assumed pool left (λ rest l e h. ends n rest (l ∷ assumed) (omega arith) h))

-- all literals of clauses
literals_of : List Clause → List ℤ
literals_of [] = []
literals_of (c ∷ cs) = c ++ literals_of cs

contains_left : (xs ys : List ℤ) (y : ℤ) → Contains xs y → Contains (xs ++ ys) y
contains_left [] ys y h = absurd (contains_nil y h)
contains_left (x ∷ xs) ys y h = ⊎_elim (λ e. subst (Contains (x ∷ (xs ++ ys))) e (contains_here x (xs ++ ys))) (λ c. contains_there x (xs ++ ys) y (contains_left xs ys y c)) (contains_cases x xs y h)

contains_right : (xs ys : List ℤ) (y : ℤ) → Contains ys y → Contains (xs ++ ys) y
contains_right [] ys y h = h
contains_right (x ∷ xs) ys y h = contains_there x (xs ++ ys) y (contains_right xs ys y h)

all_literals : (live : List Clause) (c : Clause) (l : ℤ) → Contains live c → Contains c l → Contains (literals_of live) l
unfolding literals_of
all_literals [] c l has in' = absurd (contains_nil c has)
all_literals (d ∷ live) c l has in' =
    ⊎_elim (λ e. contains_left d (literals_of live) l (subst (λ x. Contains x l) (sym e) in')) (λ h. contains_right d (literals_of live) l (all_literals live c l h in')) (contains_cases d live c has)

pub propagation_ends : PropagationEnds
propagation_ends live assumed = ends live (length (literals_of live)) (literals_of live) assumed (omega arith) (λ c l has in'. inr (all_literals live c l has in'))

-- a literal whose negation is in the clause too
abbrev IsBoth : Clause → ℤ → Type 0
IsBoth c l = (v : ℕ) × (l ≡ pos v) × (0 < v) × Contains c (neg_ℤ (pos v))

both_or : (c : Clause) (l : ℤ) → (IsBoth c l → ⊥) ⊎ IsBoth c l
both_or c (negsuc v) = inl (λ h. let e = h.1 in absurd (cc))
both_or c (pos v) =
    ⊎_elim (λ p. ⊎_elim (λ n. inr (v, refl, p, n)) (λ n. inl (λ h. let e : v ≡ h.0 = let f = h.1 in cc in n (subst (λ w. Contains c (neg_ℤ (pos w))) (sym e) h.3))) (decided_contains decided_int c (neg_ℤ (pos v))))
    (λ n. inl (λ h. let e : v ≡ h.0 = let f = h.1 in cc in n (subst (λ w. 0 < w) (sym e) h.2))) (decided_lt 0 v)

decided_tautology : (c : Clause) → Decided (IsTautology c)
decided_tautology c =
    ⊎_elim (λ none. inr (λ t. none (pos t.0) t.2 (t.0, refl, t.1, t.3))) (λ s. inl (s.2.0, s.2.2, subst (Contains c) s.2.1 s.1, s.2.3))
    (each_or (λ l. IsBoth c l → ⊥) (IsBoth c) (both_or c) c)

pub rup_is_decided : RupIsDecided
rup_is_decided live c =
    ⊎_elim (λ t. inl (inr t)) (λ n. ⊎_elim (λ r. inl (inl r)) (λ f. inr (λ rup. ⊎_elim (λ r. fixpoint_leaves_no_chain live f.0 (map neg_ℤ c) r.0 f.1 f.2 r.1 r.2) n rup)) (propagation_ends live (map neg_ℤ c))) (decided_tautology c)
