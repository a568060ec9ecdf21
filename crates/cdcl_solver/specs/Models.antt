-- Values that a search ends with.
use Rattle.std.specs.Prelude.{◌≡◌, ℕ, ◌-◌, ◌<◌, ◌≤◌, Bool, true, false, List, length, ℤ, pos, neg_ℤ, slice_index_or}
use Rattle.std.specs.List.{Contains}

-- the values of the variables from 1 on, as far as they are told: true for what stands, and false for what stands negated
pub record AreModelValues (standing : List ℤ) (max : ℕ) (values : List Bool) : Type 0 where
  pub count : length values ≡ max
  pub yes : (v : ℕ) → 0 < v → v ≤ max → Contains standing (pos v) → slice_index_or values (v - 1) false ≡ true
  pub no : (v : ℕ) → 0 < v → v ≤ max → Contains standing (neg_ℤ (pos v)) → slice_index_or values (v - 1) false ≡ false
