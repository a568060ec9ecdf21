-- Entries, each the number of a monomial with its coefficient, and what is made of lists of them.
use Rattle.std.specs.Prelude.{◌≡◌, ◌≢◌, ◌⊎◌, ℕ, ◌+◌, ◌*◌, ◌%◌, ◌<◌, cond, ◌==◌, None, List, [], ◌∷◌, ◌++◌, get_or, length, map}
use Rattle.std.specs.List.{AllByRecursion}
use Rattle.std.specs.declared.cmp.Ordering.{Ordering}
use Rattle.std.specs.Ordering.{nat_cmp}
use Rattle.poly_terms.specs.Merges.{merged_lists, AreAfter}

-- An entry: the number of a monomial, and a coefficient.
abbrev pub Entry : Type 0
Entry = ℕ × ℕ

abbrev pub Sum : Type 0
Sum = List Entry

-- the order of entries: that of their numbers
abbrev pub entry_order : Entry → Entry → Ordering
entry_order x y = nat_cmp x.0 y.0

-- the sum of two entries of one number, before others; nothing where it is 0 modulo m
abbrev pub add_entries : ℕ → Entry → Entry → Sum → Sum
add_entries m x y rest = cond ((x.1 + y.1) % m == 0) rest ((x.0, (x.1 + y.1) % m) ∷ rest)

-- two sorted lists of entries, added
abbrev pub plus : ℕ → Sum → Sum → Sum
plus m xs ys = merged_lists entry_order (add_entries m) xs ys

-- the sum of the coefficients, each times what f gives for its number
abbrev pub total : (ℕ → ℕ) → Sum → ℕ
total f [] = 0
total f (e ∷ es) = e.1 * f e.0 + total f es

-- an entry alone, unless its coefficient is 0 modulo m
abbrev pub one_entry : ℕ → Entry → Sum
one_entry m e = cond (e.1 % m == 0) [] ((e.0, e.1 % m) ∷ [])

-- An entry put after others: added to the last where that has its number, and not at all where the sum is 0.
abbrev pub IsPutBehind : ℕ → Entry → Sum → Sum → Type 0
IsPutBehind m e old new =
    ((front : Sum) × (last : Entry) × (old ≡ front ++ last ∷ []) × (last.0 ≡ e.0) × (new ≡ front ++ one_entry m (e.0, last.1 + e.1)))
    ⊎ (((front : Sum) (last : Entry) → old ≡ front ++ last ∷ [] → last.0 ≢ e.0) × (new ≡ old ++ one_entry m e))

-- An entry as a sorted list has it: its coefficient from 1 to below m, and its number below that of the next one.
pub record IsPlaced (m : ℕ) (es : Sum) (i : ℕ) : Type 0 where
  pub some : 0 < (get_or es i (0, 0)).1
  pub below : (get_or es i (0, 0)).1 < m
  pub next : i + 1 < length es → (get_or es i (0, 0)).0 < (get_or es (i + 1) (0, 0)).0

-- A sorted list modulo m.
pub record IsOrderly (m : ℕ) (es : Sum) : Type 0 where
  pub order : AreAfter entry_order None es
  pub coefficients : AllByRecursion (λ e. (0 < e.1) × (e.1 < m)) es

-- A sorted list with the sum of some entries, modulo m.
pub record IsSortedSum (m : ℕ) (raw entries : Sum) : Type 0 where
  pub sums : (f : ℕ → ℕ) → total f entries % m ≡ total f raw % m
  pub order : AreAfter entry_order None entries
  pub coefficients : AllByRecursion (λ e. (0 < e.1) × (e.1 < m)) entries
  pub numbers : (n : ℕ) → AllByRecursion (λ e. e.0 < n) raw → AllByRecursion (λ e. e.0 < n) entries

-- Entries that add up to so many times what others do, modulo m, over no other numbers.
pub record IsMultiple (m by : ℕ) (from to : Sum) : Type 0 where
  pub sums : (f : ℕ → ℕ) → total f to % m ≡ (by * total f from) % m
  pub numbers : (n : ℕ) → AllByRecursion (λ e. e.0 < n) from → AllByRecursion (λ e. e.0 < n) to

-- Entries of the same numbers, so many times whose sum is that of others, modulo m. None is 0 where none was.
pub record IsQuotient (m by : ℕ) (from to : Sum) : Type 0 where
  pub sums : (f : ℕ → ℕ) → (by * total f to) % m ≡ total f from % m
  pub numbers : map (λ e. e.0) to ≡ map (λ e. e.0) from
  pub below : AllByRecursion (λ e. e.1 < m) to
  pub some : AllByRecursion (λ e. 0 < e.1) from → AllByRecursion (λ e. 0 < e.1) to
