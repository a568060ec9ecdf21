-- Polynomials that are added up, each coefficient at its monomial's number.
use Rattle.std.specs.Prelude.{◌≡◌, ◌⊎◌, ℕ, ◌+◌, ◌%◌, ◌<◌, List, get_or}
use Rattle.std.specs.List.{AllByRecursion, Contains}
use Rattle.graph_core.specs.Graph.Assignments.{Assignment}
use Rattle.poly_terms.specs.Entries.{Sum, total}
use Rattle.poly_terms.specs.Indexed.{terms_from}
use Rattle.poly_terms.specs.Monomials.{Adds}

-- each number with a coefficient is in a list
abbrev pub AreListed : List ℕ → List ℕ → Type 0
AreListed cs numbers = (n : ℕ) → 0 < get_or cs n 0 → Contains numbers n

-- each coefficient is as it was, or 0
abbrev pub IsLess : List ℕ → List ℕ → Type 0
IsLess old new = (n : ℕ) → (get_or new n 0 ≡ get_or old n 0) ⊎ (get_or new n 0 ≡ 0)

-- Coefficients to which terms were added, modulo m.
pub record IsAdded (m : ℕ) (old new : List ℕ) (terms : Sum) : Type 0 where
  pub sums : (f : ℕ → ℕ) → total f (terms_from 0 new) % m ≡ (total f (terms_from 0 old) + total f terms) % m
  pub below : ((n : ℕ) → get_or old n 0 < m) → (n : ℕ) → get_or new n 0 < m
  pub within : (k : ℕ) → AllByRecursion (λ e. e.0 < k) terms → ((n : ℕ) → 0 < get_or old n 0 → n < k) → (n : ℕ) → 0 < get_or new n 0 → n < k

-- Terms that were taken out, and put after others.
pub record AreTaken (old new : List ℕ) (before after : Sum) : Type 0 where
  pub sums : (f : ℕ → ℕ) → total f (terms_from 0 new) + total f after ≡ total f (terms_from 0 old) + total f before
  pub within : (k : ℕ) → ((n : ℕ) → 0 < get_or old n 0 → n < k) → AllByRecursion (λ e. e.0 < k) before → AllByRecursion (λ e. e.0 < k) after

-- Coefficients to which a number was added modulo m, in a table that may have grown.
pub record Gains (m : ℕ) (before after : List (List ℕ)) (old new : List ℕ) (number : Assignment → ℕ) : Type 0 where
  pub adds : Adds m before after (terms_from 0 old) (terms_from 0 new) number
  pub below : ((n : ℕ) → get_or old n 0 < m) → (n : ℕ) → get_or new n 0 < m
