-- Words that proofs alone cite.
use Rattle.std.specs.Prelude.{◌≡◌, ◌↔◌, ◌≤◌, ◌<◌, ◌⊎◌, ℕ, Bool, true, List, length, slice_index_or, suc, reverse, ℤ, neg_ℤ, IsSome}
use Rattle.clause_core.specs.Clause.{Clause, IsSubset}
use Rattle.miter_encoder.specs.declared.goal.Goal.{Goal}
use Rattle.drup_checker.specs.Checking.{shown_at}
use Rattle.std.specs.List.{All, Any, Contains}
use Rattle.clause_core.specs.TightChains.{IsTight}
use Rattle.unit_prop.specs.Standing.{Standing, at, clause_at}
use Rattle.unit_prop.specs.Trail.{signed_variable}
use Rattle.drup_checker.specs.Tightness.{clauses_at, IsVariableSeen}

-- so far among the first n goals
pub record ShowsFirst (c : Clause) (goals : List Goal) (old new : List Bool) (n : ℕ) : Type 0 where
  pub places : length new ≡ length old
  pub done : (i : ℕ) (g : Goal) → i < n → i < length goals → (shown_at new i ≡ true) ↔ ((shown_at old i ≡ true) ⊎ IsSubset c (slice_index_or goals i g).clause)
  pub rest : (i : ℕ) → n ≤ i → shown_at new i ≡ shown_at old i

-- Whatever has what is opposed and the marked ones of the first n literals is refuted by a tight chain, that of the places from the last one
-- on; and it needs each of them.
pub record IsReached (s : Standing) (opposed : List ℤ) (seen : List Bool) (places : List ℕ) (n : ℕ) : Type 0 where
  pub size : length seen ≡ suc s.trail.greatest
  pub live : All (λ r. IsSome (clause_at s.clauses r)) (reverse places)
  pub tight : (acc : List ℤ) → IsSubset opposed acc →
      ((j : ℕ) → j < n → IsVariableSeen seen (signed_variable (at s.trail.literals j)) → Contains acc (at s.trail.literals j)) →
      IsTight acc (clauses_at s.clauses (reverse places))
  pub needed : (j : ℕ) → j < n → j < length s.trail.literals → IsVariableSeen seen (signed_variable (at s.trail.literals j)) →
      Any (λ e. Contains e (neg_ℤ (at s.trail.literals j))) (clauses_at s.clauses (reverse places))
