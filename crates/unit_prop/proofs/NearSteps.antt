-- What one clause says where some literals stand.
use Rattle.std.specs.Prelude.{◌≡◌, ◌⊎◌, List, [], ◌∷◌, ◌++◌, ℤ, pos, neg_ℤ}
use Rattle.std.specs.List.{All, Contains}
use Rattle.std.proofs.Common.{Bool, Err, IfOk, IsTrue, Ok, Result, true, false, subst, ⊎_elim}
use Rattle.std.proofs.lemmas.Bool.{false≢true}
use Rattle.std.proofs.lemmas.List.Elements.{All-cons, All-contains, All-nil, Contains-push_cases}
use Rattle.clause_core.specs.Clause.{Clause, IsLiteral, IsSubset}
use Rattle.clause_core.specs.UnitPropagation.{IsRefuted, IsUnit}
use Rattle.unit_prop.specs.Near.{FindsNear}
use Rattle.clause_core.proofs.CallerLemmas.{contains_here, contains_there, refuted_more}

longer : (live : List Clause) (lits : List ℤ) (c : Clause) (l : ℤ) → Contains live c → IsUnit lits c l → IsRefuted live (l ∷ lits) → IsRefuted live lits
longer live lits c l has unit (([]), all, chain) = absurd chain
longer live lits c l has unit ((e ∷ es), all, chain) = (c ∷ e ∷ es, All-cons (Contains live) c (e ∷ es) has all, (l, unit, chain))

pushed_front : (lits : List ℤ) (l : ℤ) → IsSubset (lits ++ l ∷ []) (l ∷ lits)
pushed_front lits l k h = ⊎_elim (λ c. contains_there l lits k c) (λ e. subst (Contains (l ∷ lits)) e (contains_here l lits)) (Contains-push_cases lits l k h)

-- a clause that is false refutes them
pub false_here : (live : List Clause) (lits : List ℤ) (c : Clause) → Contains live c → All IsLiteral c → All (λ l. (l ≡ pos 0) ⊎ Contains lits (neg_ℤ l)) c → IsRefuted live lits
false_here live lits c has real all = (
  c ∷ [],
  All-cons (Contains live) c [] has (All-nil (Contains live)),
  λ l h. ⊎_elim (λ e. absurd ((All-contains IsLiteral c l real h).0 e)) (λ k. k) (All-contains (λ l. (l ≡ pos 0) ⊎ Contains lits (neg_ℤ l)) c l all h),
)

-- a clause of which one literal is left leads to it
pub one_left : (live : List Clause) (lits : List ℤ) (c : Clause) (l : ℤ) → Contains live c → Contains c l → All (λ k. (k ≡ l) ⊎ Contains lits (neg_ℤ k)) c → IsRefuted live (lits ++ l ∷ []) → IsRefuted live lits
one_left live lits c l has here all r =
    longer live lits c l has (here, λ k h. All-contains (λ k. (k ≡ l) ⊎ Contains lits (neg_ℤ k)) c k all h) (refuted_more live (lits ++ l ∷ []) (l ∷ lits) (pushed_front lits l) r)

-- what is found refutes them
pub found_near : {E : Type 0} (live : List Clause) (old new : List ℤ) (r : Result Bool E) → IfOk r (FindsNear live old new) → IfOk r (λ found. IsTrue found → IsRefuted live old)
found_near live old new (Ok true) h = λ t. h
found_near live old new (Ok false) h = λ t. absurd (false≢true t)
found_near live old new (Err e) h = tt
