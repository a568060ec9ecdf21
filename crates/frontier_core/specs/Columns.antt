-- The columns of a multiplier: what each is claimed to be, and the sum of some of them.
use Rattle.std.specs.Prelude.{◌≡◌, ℕ, zero, suc, ◌+◌, ◌*◌, ◌-◌, ◌%◌, ◌^◌, ◌<◌, true, List, [], ◌∷◌, length, if◌then◌else◌}
use Rattle.std.specs.List.{All}
use Rattle.graph_core.specs.declared.literal.Lit.{Lit}
use Rattle.graph_core.specs.declared.sign.Sign.{Sign}
use Rattle.graph_core.specs.declared.sign.Sign.TheVariants.{Unsigned, Signed}
use Rattle.graph_core.specs.Graph.Assignments.{Assignment, literal, bit, word}
use Rattle.graph_core.specs.Graph.Operands.{Sides, operand_literals, claimed}
use Rattle.algebra_core.specs.Polynomials.{difference}
use Rattle.graph_core.specs.Graph.Extended.{Extended, modulus}
use Rattle.frontier_core.specs.Sets.{has, count_from}

-- the value of a literal of a list, or 0 past its end
abbrev pub bit_at : Assignment → List Lit → ℕ → ℕ
bit_at σ [] k = 0
bit_at σ (l ∷ ls) zero = bit (literal σ l)
bit_at σ (l ∷ ls) (suc k) = bit_at σ ls k

-- the sum of a_i b_j with i + j = k
abbrev pub partial_products : Assignment → List Lit → List Lit → ℕ → ℕ
partial_products σ [] bs k = 0
partial_products σ (a ∷ as') bs zero = bit (literal σ a) * bit_at σ bs 0
partial_products σ (a ∷ as') bs (suc k) = bit (literal σ a) * bit_at σ bs (suc k) + partial_products σ as' bs k

-- what signed literals count, each without its power of 2 and up to multiples of m: the last one -1 times its value
abbrev pub signed_digits : ℕ → Assignment → List Lit → List ℕ
signed_digits m σ [] = []
signed_digits m σ (l ∷ []) = (m - 1) * bit (literal σ l) ∷ []
signed_digits m σ (l ∷ k ∷ ls) = bit (literal σ l) ∷ signed_digits m σ (k ∷ ls)

-- the number at place k, or 0 past the end
abbrev pub digit_at : List ℕ → ℕ → ℕ
digit_at [] k = 0
digit_at (d ∷ ds) zero = d
digit_at (d ∷ ds) (suc k) = digit_at ds k

-- the sum of the products of the i-th and the j-th with i + j = k
abbrev pub digit_products : List ℕ → List ℕ → ℕ → ℕ
digit_products [] es k = 0
digit_products (d ∷ ds) es zero = d * digit_at es 0
digit_products (d ∷ ds) es (suc k) = d * digit_at es (suc k) + digit_products ds es k

-- the sum of the partial products of column k: of signed operands a_i b_j counts -1 times where just one of the two is the last
abbrev pub product_column : ℕ → Sign → Assignment → List Lit → List Lit → ℕ → ℕ
product_column m Unsigned σ as' bs k = partial_products σ as' bs k
product_column m Signed σ as' bs k = digit_products (signed_digits m σ as') (signed_digits m σ bs) k

-- a number and a bit of an addend, where there is one
abbrev pub plus_bit : ℕ → Assignment → List Lit → ℕ → ℕ
plus_bit n σ [] k = n
plus_bit n σ (l ∷ ls) k = n + bit_at σ (l ∷ ls) k

-- What column k is claimed to be at an assignment, up to multiples of m: the sum of its partial products, and its bit of the addend.
abbrev pub column_claim : ℕ → Sides → ℕ → Assignment → ℕ
column_claim m s k σ = plus_bit (product_column m s.claim.sign σ s.a s.b k) σ s.c k

-- 2 ^ k times an output minus what column k is claimed to be, up to multiples of m
abbrev pub column_of : ℕ → Sides → ℕ → Lit → Assignment → ℕ
column_of m s k o σ = 2 ^ k * difference m (bit (literal σ o)) (column_claim m s k σ)

abbrev pub column_value : Extended → Sides → ℕ → Lit → Assignment → ℕ
column_value e s = column_of (modulus e) s

-- the sum of the columns that were added, among those from k on with these outputs
abbrev pub columns_sum : ℕ → Sides → List ℕ → ℕ → List Lit → Assignment → ℕ
columns_sum m s added k [] σ = 0
columns_sum m s added k (o ∷ os) σ = (if has added k then column_of m s k o σ else 0) + columns_sum m s added (suc k) os σ

-- all columns, from the lowest on
abbrev pub all_columns : Extended → List ℕ
all_columns e = count_from 0 (length e.graph.outputs)

-- two assignments give each literal of the operands one value
abbrev pub AgreeOnOperands : Sides → Assignment → Assignment → Type 0
AgreeOnOperands s σ τ = All (λ l. literal τ l ≡ literal σ l) (operand_literals s)

-- The claims are about the operands alone.
abbrev pub ClaimsAreOfOperands : Type 0
ClaimsAreOfOperands = (m : ℕ) (s : Sides) (σ τ : Assignment) → AgreeOnOperands s σ τ →
    (claimed m s τ ≡ claimed m s σ) × ((k : ℕ) → column_claim m s k τ ≡ column_claim m s k σ)

-- All columns together are the outputs' word minus what it is claimed to be, modulo 2 ^ the number of outputs.
abbrev pub ColumnsMakeClaim : Type 0
ColumnsMakeClaim = (s : Sides) (os : List Lit) (added : List ℕ) (σ : Assignment) → ((k : ℕ) → k < length os → has added k ≡ true) →
    columns_sum (2 ^ length os) s added 0 os σ % 2 ^ length os ≡ difference (2 ^ length os) (word σ os) (claimed (2 ^ length os) s σ)
