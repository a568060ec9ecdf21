-- Chains by which the place of a clause is found: each leads from a place to an earlier one. A place is kept as its successor, and 0 is the
-- end. Private clauses alone cite them.
use Rattle.std.specs.Prelude.{◌≡◌, ℕ, zero, suc, ◌+◌, ◌*◌, ◌%◌, ◌<◌, ◌≤◌, ◌⊎◌, List, length, slice_index, ℤ, pos, negsuc}
use Rattle.std.specs.declared.option.Option.{Option}
use Rattle.std.specs.declared.option.Option.TheVariants.{Some}
use Rattle.std.specs.List.{fold}
use Rattle.clause_core.specs.Clause.{Clause, IsClause, IsClauseInRange}
use Rattle.unit_prop.specs.Standing.{HasNoAssumption, Standing, clause_at}

-- a number and a literal make a number
abbrev pub mix : ℕ → ℤ → ℕ
mix h (pos v) = (h * 1000003 + 2 * v) % 4294967291
mix h (negsuc v) = (h * 1000003 + (2 * v + 3)) % 4294967291

-- the number of a clause
abbrev pub clause_hash : Clause → ℕ
clause_hash c = fold mix 0 c

-- in so many steps a chain leads from here to the place
abbrev pub LeadsIn : ℕ → List ℕ → ℕ → ℕ → Type 0
LeadsIn zero next from r = ⊥
LeadsIn (suc k) next zero r = ⊥
LeadsIn (suc k) next (suc p) r = (p ≡ r) ⊎ LeadsIn k next (slice_index next p) r

abbrev pub Leads : List ℕ → ℕ → ℕ → Type 0
Leads next from r = (k : ℕ) × LeadsIn k next from r

-- each place leads to an earlier one, or to none
abbrev pub AreFalling : List ℕ → Type 0
AreFalling next = (p : ℕ) → slice_index next p ≤ p

-- each live clause is found in the chain of its number
pub record AreInChains (heads next : List ℕ) (clauses : List (Option Clause)) : Type 0 where
  pub some : 0 < length heads
  pub places : length next ≡ length clauses
  pub first : (i : ℕ) → slice_index heads i ≤ length next
  pub falls : AreFalling next
  pub found : (r : ℕ) (c : Clause) → clause_at clauses r ≡ Some c → Leads next (slice_index heads (clause_hash c % length heads)) r

-- What a store keeps: nothing is assumed, and each live clause is as it is kept, in range, and found.
pub record IsStore (max : ℕ) (s : Standing) (heads next : List ℕ) : Type 0 where
  pub greatest : s.trail.greatest ≡ max
  pub small : max < 2147483648
  pub few : length next ≤ 2147483648
  pub free : HasNoAssumption s
  pub kept : (r : ℕ) (c : Clause) → clause_at s.clauses r ≡ Some c → IsClause c × IsClauseInRange max c
  pub indexed : AreInChains heads next s.clauses

-- and each place has a number
pub record IsNumberedStore (max : ℕ) (s : Standing) (heads next numbers : List ℕ) : Type 0 where
  pub store : IsStore max s heads next
  pub counted : length numbers ≡ length next
