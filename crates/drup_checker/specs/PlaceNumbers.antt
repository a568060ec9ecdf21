-- The numbers of places, of which the first ones are 0. Private clauses alone cite them.
use Rattle.std.specs.Prelude.{ℕ, ◌<◌, ◌++◌, List, replicate, vec_capacity, vec_len}
use Rattle.drup_checker.specs.declared.place_numbers.PlaceNumbers.{PlaceNumbers}

-- the number of each place
abbrev pub numbers_of : PlaceNumbers → List ℕ
numbers_of p = replicate p.zeros 0 ++ p.numbers.items

-- one more fits without more memory
abbrev pub HasRoom : PlaceNumbers → Type 0
HasRoom p = vec_len p.numbers < vec_capacity p.numbers
