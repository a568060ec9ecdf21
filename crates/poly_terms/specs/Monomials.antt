-- Monomials, rising lists of variables, and a table in which each stands once: its place is its number.
use Rattle.std.specs.Prelude.{◌≡◌, ℕ, ◌+◌, ◌*◌, ◌%◌, ◌<◌, not, Bool, cond, ◌==◌, List, [], ◌∷◌, ◌++◌, map, length, get_or}
use Rattle.std.specs.List.{AllByRecursion, list_any, filter}
use Rattle.std.specs.Ordering.{nat_cmp}
use Rattle.graph_core.specs.Graph.Assignments.{Assignment}
use Rattle.algebra_core.specs.NormalForm.{AreRising}
use Rattle.algebra_core.specs.Polynomials.{product}
use Rattle.poly_terms.specs.Merges.{merged_lists}
use Rattle.poly_terms.specs.Entries.{Sum, Entry, total}

-- the variables of two monomials, as one
abbrev pub joined : List ℕ → List ℕ → List ℕ
joined xs ys = merged_lists nat_cmp (λ x y rest. x ∷ rest) xs ys

-- whether a variable is among a monomial's
abbrev pub has_variable : ℕ → List ℕ → Bool
has_variable v key = list_any (λ u. u == v) key

-- a monomial without a variable
abbrev pub without_variable : ℕ → List ℕ → List ℕ
without_variable v key = filter (λ u. not (u == v)) key

-- the monomial of some variables: it rises, and has their product at every assignment
pub record IsMonomialOf (variables key : List ℕ) : Type 0 where
  pub rising : AreRising 0 key
  pub value : (σ : Assignment) → product σ key ≡ product σ variables

-- Monomials by number: each rises, and stands once.
pub record AreMonomials (ms : List (List ℕ)) : Type 0 where
  pub rising : AllByRecursion (AreRising 0) ms
  pub once : (i j : ℕ) → i < length ms → j < length ms → get_or ms i [] ≡ get_or ms j [] → i ≡ j

-- More monomials at the end. Each is there once, so that nothing else of the old ones matters.
pub record Grows (old new : List (List ℕ)) : Type 0 where
  pub more : List (List ℕ)
  pub monomials : new ≡ old ++ more
  pub once : AreMonomials old → AreMonomials new

-- a number's monomial
pub record Stands (ms : List (List ℕ)) (n : ℕ) (key : List ℕ) : Type 0 where
  pub in_table : n < length ms
  pub monomial : get_or ms n [] ≡ key

-- the entries' numbers are in the table
abbrev pub AreIn : List (List ℕ) → Sum → Type 0
AreIn ms es = AllByRecursion (λ e. e.0 < length ms) es

-- the sum of the coefficients whose variables are all true
abbrev pub total_in : List (List ℕ) → Assignment → Sum → ℕ
total_in ms σ es = total (λ n. product σ (get_or ms n [])) es

-- Entries in a table that may have grown: they add up to those before and n, modulo m.
pub record Adds (m : ℕ) (old new : List (List ℕ)) (before after : Sum) (n : Assignment → ℕ) : Type 0 where
  pub numbers : AreIn old before → AreIn new after
  pub sums : AreIn old before → (σ : Assignment) → total_in new σ after % m ≡ (total_in old σ before + n σ) % m

-- whether an entry has a variable
abbrev pub has_in : List (List ℕ) → ℕ → Entry → Bool
has_in ms v e = has_variable v (get_or ms e.0 [])

-- the entries without a variable
abbrev pub free_of : List (List ℕ) → ℕ → Sum → Sum
free_of ms v es = filter (λ e. not (has_in ms v e)) es

-- the numbers of the entries with a variable, in their order
abbrev pub places_of : List (List ℕ) → ℕ → Sum → List ℕ
places_of ms v es = map (λ e. e.0) (filter (has_in ms v) es)

-- what an entry with the variable adds, where the variable stands for n
abbrev pub replaced_one : List (List ℕ) → ℕ → Assignment → ℕ → Entry → ℕ
replaced_one ms v σ n e = e.1 * product σ (without_variable v (get_or ms e.0 [])) * n

-- what the entries with the variable add
abbrev pub replaced : List (List ℕ) → ℕ → Assignment → ℕ → Sum → ℕ
replaced ms v σ n [] = 0
replaced ms v σ n (e ∷ es) = cond (has_in ms v e) (replaced_one ms v σ n e) 0 + replaced ms v σ n es
