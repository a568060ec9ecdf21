-- How many variables the parts of a graph may take, for operands of 64 bits at most. The bounds are crude: all of them are far below the
-- 2 ^ 31 variables that literals of 32 bits have. Private clauses alone cite this file.
use Rattle.std.specs.Prelude.{ℕ, ◌*◌}

-- The levels of a prefix adder: fewer than 256, each with 3 gates for each of 128 positions.
abbrev pub levels_room : ℕ
levels_room = 98304

-- An adder: a prefix adder's levels, and 10 gates more for each of 128 positions. A ripple-carry adder has 7 for each.
abbrev pub adder_room : ℕ
adder_room = 100000

-- A stage of the Dadda tree: in each of 127 columns 4 gates for each of 4096 literals.
abbrev pub stage_room : ℕ
stage_room = 2100000

-- The tree, which has ten stages.
abbrev pub tree_room : ℕ
tree_room = 10 * stage_room

-- A product: the tree and its last adder, or an adder for each of 64 rows of the array.
abbrev pub product_room : ℕ
product_room = 30000000
