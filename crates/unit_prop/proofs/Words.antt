-- Words that proofs alone cite.
use Rattle.std.specs.Prelude.{ℕ, List, length, slice_index, nat_lt, ◌≡◌, ◌+◌, ◌*◌, ◌/◌, ◌<◌, ◌⊎◌, true, ℤ, neg_ℤ, eqb, if◌then◌else◌}
use Rattle.std.specs.declared.option.Option.{Option}
use Rattle.clause_core.specs.Clause.{Clause}
use Rattle.std.specs.List.{IsDistinct}
use Rattle.std.specs.Option.{MatchOption}
use Rattle.unit_prop.specs.Watches.{Hung, has_node}
use Rattle.unit_prop.specs.Trail.{Stood}
use Rattle.unit_prop.specs.Standing.{at}
use Rattle.unit_prop.specs.Visits.{watched_at, IsWatching, IsServed, AreServed, IsVisitedUpTo, GainsLiterals, IsFalse}

-- the clauses of a list are stood for up to its n-th one
abbrev pub bound_of : List (Option Clause) → List ℕ → ℕ → ℕ
bound_of clauses shorts n = if nat_lt n (length shorts) then slice_index shorts n else length clauses

-- During a visit: as before, but the nodes in hand watch the false literal, and only those that were visited are served.
pub record IsVisiting (clauses : List (Option Clause)) (old : Stood) (at' : ℕ) (hung : Hung) (stood : Stood) (false_lit : ℤ)
    (conflict : Option ℕ) : Type 0 where
  pub kept : IsVisitedUpTo clauses stood at'
  pub grows : GainsLiterals old stood
  pub here : at' < length stood.lits
  pub lit : false_lit ≡ neg_ℤ (at stood.lits at')
  pub chains : hung.chains ≡ 2 * stood.max + 2
  pub once : IsDistinct eqb hung.hand
  pub mine : (n : ℕ) → has_node hung.hand n ≡ true → (n < length hung.places) × (watched_at hung.places n ≡ false_lit)
  pub watching : IsWatching clauses hung.places
  pub served : AreServed clauses hung.places stood.lits stood.visited at'
  pub outcome : MatchOption conflict ((n : ℕ) → watched_at hung.places n ≡ false_lit → (has_node hung.hand n ≡ true) ⊎
      IsServed clauses stood.lits stood.visited (n / 2) at')
      (λ r. IsFalse clauses stood.lits r)
