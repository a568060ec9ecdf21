-- Reading the lines of a clause certificate from the front.
use Rattle.std.specs.Prelude.{ℕ, Bool, true, false, not, List, [], ◌∷◌, codes, ℤ, pos, neg_ℤ, ◌==◌, if◌then◌else◌}
use Rattle.std.specs.declared.option.Option.{Option}
use Rattle.std.specs.declared.option.Option.TheVariants.{None, Some}
use Rattle.graph_core.specs.declared.literal.Lit.{Lit}
use Rattle.graph_core.specs.Text.{space}
use Rattle.graph_core.specs.Text.Numerals.{number_at}
use Rattle.graph_core.specs.Text.Readers.{Reader, behind_at, choose_at, ended_at, many_at, map_at, text_at, then_at}
use Rattle.clause_core.specs.Clause.{Clause}
use Rattle.clause_core.specs.ClauseLines.{ClauseLine}
use Rattle.clause_core.specs.declared.line.Line.TheVariants.{Add, Delete}

abbrev pub is_zero : ℕ → Bool
is_zero b = b == 48

-- what doesn't end a clause
abbrev pub is_no_zero : ℕ → Bool
is_no_zero b = not (b == 48)

-- nothing is read
abbrev pub nothing_at : {A : Type 0} → Reader A
nothing_at bytes = None

-- a number whose first digit isn't 0
abbrev pub nonzero_at : Reader ℕ
nonzero_at = choose_at is_zero nothing_at (number_at 10)

abbrev pub minus_number : ℕ → ℤ
minus_number v = neg_ℤ (pos v)

-- a signed variable
abbrev pub literal_at : Reader ℤ
literal_at = choose_at (λ b. b == 45) (map_at minus_number (behind_at (codes "-") nonzero_at)) (map_at pos nonzero_at)

-- literals, each with a space after it
abbrev pub clause_literals_at : Reader (List ℤ)
clause_literals_at = many_at is_no_zero (ended_at literal_at (codes " "))

-- and a 0
abbrev pub clause_read_at : Reader Clause
clause_read_at = ended_at clause_literals_at (codes "0")

-- a line without its line feed
unfoldable pub clause_line_at : Reader ClauseLine
clause_line_at = choose_at (λ b. b == 100) (map_at Delete (behind_at (codes "d ") clause_read_at)) (map_at Add clause_read_at)

-- two numbers with a space between them
abbrev pub two_at : Reader (ℕ × ℕ)
two_at = then_at (ended_at (number_at 10) (codes " ")) (number_at 10)

abbrev pub lits : ℕ × ℕ → Lit × Lit
lits n = (record { 0 = n.0 }, record { 0 = n.1 })

unfoldable pub pair_line_at : Reader (Lit × Lit)
pair_line_at = map_at lits two_at

abbrev pub some_cut : ℕ × ℕ → Option (ℕ × ℕ)
some_cut n = Some n

unfoldable pub cut_line_at : Reader (Option (ℕ × ℕ))
cut_line_at = choose_at (λ b. b == 110) (text_at (codes "none") None) (map_at some_cut (behind_at (codes "replace ") two_at))

-- a number after a word
unfoldable pub number_line_at : List ℕ → Reader ℕ
number_line_at word = behind_at word (number_at 10)

-- ---- version 2

abbrev pub count_line_at : Reader ℕ
count_line_at = number_line_at (codes "cuts ")

-- the word carry, if there is a space
abbrev pub carry_at : Reader Bool
carry_at [] = Some (false, [])
carry_at (b ∷ bytes) = if b == space then text_at (codes " carry") true (b ∷ bytes) else Some (false, b ∷ bytes)

abbrev pub head_from : (ℕ × ℕ) × Bool → ℕ × ℕ × Bool
head_from x = (x.0.0, x.0.1, x.1)

unfoldable pub block_line_at : Reader (ℕ × ℕ × Bool)
block_line_at = map_at head_from (behind_at (codes "replace ") (then_at two_at carry_at))

-- ---- version 3

abbrev pub gates_line_at : Reader ℕ
gates_line_at = number_line_at (codes "gates ")

abbrev pub replace_line_at : Reader ℕ
replace_line_at = number_line_at (codes "replace ")

abbrev pub output_from : ℕ × ℕ → ℕ × Lit
output_from n = (n.0, record { 0 = n.1 })

unfoldable pub output_line_at : Reader (ℕ × Lit)
output_line_at = map_at output_from two_at
