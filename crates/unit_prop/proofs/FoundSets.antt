-- Looking for a set among the live clauses.
use Rattle.std.specs.Prelude.{◌≡◌, ℕ, zero, suc, ◌<◌, List, [], ◌∷◌, length}
use Rattle.std.specs.declared.option.Option.{Option}
use Rattle.std.specs.declared.option.Option.TheVariants.{None, Some}
use Rattle.std.specs.List.{Any}
use Rattle.std.proofs.Common.{refl, arith, ⊎_elim}
use Rattle.clause_core.specs.Clause.{Clause, SameSet}
use Rattle.clause_core.proofs.CallerLemmas.{any_cases, any_nil}
use Rattle.unit_prop.specs.Standing.{HasSetAt, clause_at, live_of}

none_of : (c : Clause) (xs : List (Option Clause)) → ((place : ℕ) (d : Clause) → clause_at xs place ≡ Some d → SameSet d c → ⊥) → Any (λ d. SameSet d c) (live_of xs) → ⊥
none_of c [] none h = any_nil (λ d. SameSet d c) h
none_of c (None ∷ xs) none h = none_of c xs (λ place d is same. none (suc place) d is same) h
none_of c (Some e ∷ xs) none h = ⊎_elim (λ same. none 0 e refl same) (λ later. none_of c xs (λ place d is same. none (suc place) d is same) later) (any_cases (λ d. SameSet d c) e (live_of xs) h)

-- no place has the set, among those of the list
pub none_live : (c : Clause) (xs : List (Option Clause)) → ((place : ℕ) → place < length xs → HasSetAt xs c place → ⊥) → Any (λ d. SameSet d c) (live_of xs) → ⊥
none_live c xs none = none_of c xs (λ place d is same. none place (within xs place d is) (d, is, same))
  where
    within : (ys : List (Option Clause)) (i : ℕ) (d : Clause) → clause_at ys i ≡ Some d → i < length ys
    within [] i d e = absurd (cc)
    within (y ∷ ys) zero d e = omega arith
    within (y ∷ ys) (suc i) d e = let more = within ys i d e in omega arith
