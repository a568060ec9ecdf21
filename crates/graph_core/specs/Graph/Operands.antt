-- The two operands of a multiplier and perhaps an addend, what its outputs are claimed to be, and its value.
use Rattle.std.specs.Prelude.{◌≡◌, ℕ, zero, suc, ◌+◌, ◌*◌, ◌-◌, ◌/◌, ◌%◌, ◌^◌, ◌<◌, ◌≤◌, ◌↔◌, Bool, true, false, List, [], ◌∷◌, ◌++◌, take, drop, length, ◌==◌, if◌then◌else◌, nat_lt}
use Rattle.std.specs.List.{All, Contains}
use Rattle.graph_core.specs.declared.literal.Lit.{Lit}
use Rattle.graph_core.specs.declared.order.Order.{Order}
use Rattle.graph_core.specs.declared.order.Order.TheVariants.{Separate, Interleaved}
use Rattle.graph_core.specs.declared.sign.Sign.{Sign}
use Rattle.graph_core.specs.declared.sign.Sign.TheVariants.{Unsigned, Signed}
use Rattle.graph_core.specs.declared.claim.Claim.{Claim}
use Rattle.graph_core.specs.declared.widths.Widths.{Widths}
use Rattle.graph_core.specs.declared.widths.Widths.TheVariants.{Equal, Given as OfWidths}
use Rattle.graph_core.specs.declared.numbers.Numbers.{Numbers}
use Rattle.graph_core.specs.declared.profile.Profile.{Profile}
use Rattle.graph_core.specs.declared.profile.Profile.TheVariants.{Multiplier, MultiplyAdd, Given}
use Rattle.graph_core.specs.Graph.Assignments.{Assignment, bit, literal, word}
use Rattle.graph_core.specs.Graph.{Aig, IsEvaluation, IsDefinedOnce, IsAcyclic, evaluated}

-- every other element, from the first on
abbrev pub evens : {X : Type 0} → List X → List X
evens [] = []
evens (x ∷ []) = x ∷ []
evens (x ∷ y ∷ xs) = x ∷ evens xs

-- every other element, from the second on
abbrev pub odds : {X : Type 0} → List X → List X
odds [] = []
odds (x ∷ []) = []
odds (x ∷ y ∷ xs) = y ∷ odds xs

-- the elements of two lists in turn
abbrev pub alternate : {X : Type 0} → List X → List X → List X
alternate [] ys = ys
alternate (x ∷ xs) [] = x ∷ xs
alternate (x ∷ xs) (y ∷ ys) = x ∷ y ∷ alternate xs ys

-- the part of the inputs that is a, and the one that is b
abbrev pub a_part : {X : Type 0} → Order → ℕ → List X → List X
a_part Separate n xs = take n xs
a_part Interleaved n xs = evens xs

abbrev pub b_part : {X : Type 0} → Order → ℕ → List X → List X
b_part Separate n xs = drop n xs
b_part Interleaved n xs = odds xs

-- the number of bits of an operand
abbrev pub width : Aig → ℕ
width g = length g.inputs / 2

-- the input literals of the operands a and b, the bit of weight 1 first
abbrev pub a_bits : Order → Aig → List Lit
a_bits Separate g = take (width g) g.inputs
a_bits Interleaved g = evens g.inputs

abbrev pub b_bits : Order → Aig → List Lit
b_bits Separate g = drop (width g) g.inputs
b_bits Interleaved g = odds g.inputs

-- the n lowest bits of a number, the bit of weight 1 first
abbrev pub bits_of : ℕ → ℕ → List Bool
bits_of zero a = []
bits_of (suc n) a = (a % 2 == 1) ∷ bits_of n (a / 2)

-- two lists in the order of the inputs
abbrev pub in_order : {X : Type 0} → Order → List X → List X → List X
in_order Separate xs ys = xs ++ ys
in_order Interleaved xs ys = alternate xs ys

-- the values of the inputs that stand for a and b
abbrev pub inputs_of : Order → ℕ → ℕ → ℕ → List Bool
inputs_of order n a b = in_order order (bits_of n a) (bits_of n b)

-- Two operands of one width, and an output for each of the lowest bits of the product, from 1 to all of them.
pub record HasMultiplierShape (g : Aig) : Type 0 where
  pub inputs : length g.inputs ≡ 2 * width g
  pub some_outputs : 1 ≤ length g.outputs
  pub outputs : length g.outputs ≤ 2 * width g

-- With an addend a quarter of the inputs is a, a quarter b, and the other half the addend.
abbrev pub sum_width : Aig → ℕ
sum_width g = length g.inputs / 4

-- Two operands of one width, an addend twice as wide, and an output for each of the lowest bits of their sum, from 1 to as many as the
-- addend has.
pub record HasSumShape (g : Aig) : Type 0 where
  pub inputs : length g.inputs ≡ 4 * sum_width g
  pub some_outputs : 1 ≤ length g.outputs
  pub outputs : length g.outputs ≤ 2 * sum_width g

-- as many bits as both operands have, where there is an addend
abbrev pub addend_width : Bool → ℕ → ℕ
addend_width false n = 0
addend_width true n = n

-- Operands of given widths, an addend of both together where there is one, and an output for each of the lowest bits, from 1 to as many as
-- the operands have.
pub record HasGivenShape (a : ℕ) (b : ℕ) (add : Bool) (g : Aig) : Type 0 where
  pub inputs : length g.inputs ≡ (a + b) + addend_width add (a + b)
  pub some_outputs : 1 ≤ length g.outputs
  pub outputs : length g.outputs ≤ a + b

-- whether there is an addend
abbrev pub has_addend : Widths → Bool
has_addend (Equal add) = add
has_addend (OfWidths a b add) = add

-- the shape of the graphs with such operands
abbrev pub HasShapeFor : Widths → Aig → Type 0
HasShapeFor (Equal false) g = HasMultiplierShape g
HasShapeFor (Equal true) g = HasSumShape g
HasShapeFor (OfWidths a b add) g = HasGivenShape a b add g

-- the number of bits of a, and of b
abbrev pub a_width : Widths → Aig → ℕ
a_width (Equal false) g = width g
a_width (Equal true) g = sum_width g
a_width (OfWidths a b add) g = a

abbrev pub b_width : Widths → Aig → ℕ
b_width (Equal add) g = a_width (Equal add) g
b_width (OfWidths a b add) g = b

-- Neither operand has more than 64 bits.
pub record AreNarrow (w : Widths) (g : Aig) : Type 0 where
  pub a : a_width w g ≤ 64
  pub b : b_width w g ≤ 64

-- Which input is which bit: operands of given widths are separate.
abbrev pub order_for : Widths → Order → Order
order_for (Equal add) order = order
order_for (OfWidths a b add) order = Separate

abbrev pub order_of : Claim → Order
order_of k = order_for k.widths k.order

-- What operands are seen as: what is claimed of them, the literals of each operand, and those of an addend, of which there are none
-- without one; the bit of weight 1 first.
pub record Sides : Type 0 where
  pub claim : Claim
  pub a : List Lit
  pub b : List Lit
  pub c : List Lit

-- Operands have at most 64 bits, equally many where they are interleaved, and an addend at most as many as both.
pub record AreSides (s : Sides) : Type 0 where
  pub even : order_of s.claim ≡ Interleaved → length s.a ≡ length s.b
  pub narrow_a : length s.a ≤ 64
  pub narrow_b : length s.b ≤ 64
  pub addend : length s.c ≤ length s.a + length s.b

-- the literals of the operands a and b and of the addend
abbrev pub a_literals : Widths → Order → Aig → List Lit
a_literals (Equal false) order g = a_bits order g
a_literals (Equal true) order g = a_part order (sum_width g) (take (2 * sum_width g) g.inputs)
a_literals (OfWidths a b add) order g = take a g.inputs

abbrev pub b_literals : Widths → Order → Aig → List Lit
b_literals (Equal false) order g = b_bits order g
b_literals (Equal true) order g = b_part order (sum_width g) (take (2 * sum_width g) g.inputs)
b_literals (OfWidths a b add) order g = take b (drop a g.inputs)

abbrev pub c_literals : Widths → Aig → List Lit
c_literals (Equal false) g = []
c_literals (Equal true) g = drop (2 * sum_width g) g.inputs
c_literals (OfWidths a b add) g = drop b (drop a g.inputs)

-- the operands that a claim names in a graph
abbrev pub sides_for : Claim → Aig → Sides
sides_for k g = record { claim = k; a = a_literals k.widths k.order g; b = b_literals k.widths k.order g; c = c_literals k.widths g }

-- the product under an order of operands of either kind, that of unsigned ones, and a product with an addend
abbrev pub multiplying : Order → Sign → Claim
multiplying order sign = record { order = order; sign = sign; widths = Equal false }

abbrev pub product_under : Order → Claim
product_under order = multiplying order Unsigned

abbrev pub adding : Order → Sign → Claim
adding order sign = record { order = order; sign = sign; widths = Equal true }

-- which graphs have such operands
abbrev pub profile_of : Widths → Profile
profile_of (Equal false) = Multiplier
profile_of (Equal true) = MultiplyAdd
profile_of (OfWidths a b add) = Given a b add

abbrev pub sides_of : Order → Aig → Sides
sides_of order g = sides_for (product_under order) g

-- They are the operands that their claim names in the graph.
abbrev pub AreOperandsOf : Aig → Sides → Type 0
AreOperandsOf g s = s ≡ sides_for s.claim g

-- all literals of the operands, and of the addend
abbrev pub operand_literals : Sides → List Lit
operand_literals s = s.a ++ (s.b ++ s.c)

-- Each literal of the operands is an input of the graph.
abbrev pub ReadInputs : Aig → Sides → Type 0
ReadInputs g s = All (Contains g.inputs) (operand_literals s)

-- the literals in the order of the inputs
abbrev pub inputs_in : Sides → List Lit
inputs_in s = in_order (order_of s.claim) s.a s.b ++ s.c

-- the values of the inputs that stand for two operands and an addend
abbrev pub inputs_at : Sides → Numbers → List Bool
inputs_at s x = in_order (order_of s.claim) (bits_of (length s.a) x.a) (bits_of (length s.b) x.b) ++ bits_of (length s.c) x.c

-- The numbers have at most as many bits as the operands and the addend.
pub record AreInRange (s : Sides) (x : Numbers) : Type 0 where
  pub a : x.a < 2 ^ length s.a
  pub b : x.b < 2 ^ length s.b
  pub c : x.c < 2 ^ length s.c

-- The number of signed literals, up to multiples of m: each counts 1 times its power of 2, and the last one -1 times.
abbrev pub signed_word : ℕ → Assignment → List Lit → ℕ
signed_word m σ [] = 0
signed_word m σ (l ∷ []) = (m - 1) * bit (literal σ l)
signed_word m σ (l ∷ k ∷ ls) = bit (literal σ l) + 2 * signed_word m σ (k ∷ ls)

-- the number of an operand's literals, by how they count
abbrev pub operand_word : ℕ → Sign → Assignment → List Lit → ℕ
operand_word m Unsigned σ ls = word σ ls
operand_word m Signed σ ls = signed_word m σ ls

-- a number and an addend, where there is one
abbrev pub plus_word : ℕ → Assignment → List Lit → ℕ
plus_word n σ [] = n
plus_word n σ (l ∷ ls) = n + word σ (l ∷ ls)

-- What the outputs are claimed to be at an assignment, up to multiples of m: the product of the operands, and the addend.
abbrev pub claimed : ℕ → Sides → Assignment → ℕ
claimed m s σ = plus_word (operand_word m s.claim.sign σ s.a * operand_word m s.claim.sign σ s.b) σ s.c

-- the claim is about as many bits as there are outputs
abbrev pub output_modulus : Aig → ℕ
output_modulus g = 2 ^ length g.outputs

-- The graph's value where its inputs have these values: the sum of 2 ^ k over the outputs k that are true.
abbrev pub value_at_inputs : Aig → List Bool → ℕ
value_at_inputs g bits = word (evaluated g bits) g.outputs

-- For all values of the inputs the graph evaluates to what is claimed.
abbrev pub MeetsClaim : Aig → Sides → Type 0
MeetsClaim g s = (bits : List Bool) → length bits ≡ length g.inputs →
    value_at_inputs g bits ≡ claimed (output_modulus g) s (evaluated g bits) % output_modulus g

-- On each evaluation of the gates the outputs are what is claimed.
abbrev pub MeetsClaimOnEvaluations : Aig → Sides → Type 0
MeetsClaimOnEvaluations g s = (σ : Assignment) → IsEvaluation g.gates σ → word σ g.outputs ≡ claimed (output_modulus g) s σ % output_modulus g

-- The evaluation with given inputs is one of them, so what holds on every evaluation holds for all values of the inputs.
abbrev pub EvaluationsSuffice : Type 0
EvaluationsSuffice = (g : Aig) (s : Sides) → IsDefinedOnce g → IsAcyclic g.gates → MeetsClaimOnEvaluations g s → MeetsClaim g s

-- The operands are read from the inputs, and so is an addend.
abbrev pub SidesReadInputs : Type 0
SidesReadInputs = (g : Aig) (k : Claim) → ReadInputs g (sides_for k g)

-- In their order they are the inputs.
abbrev pub SidesAreInputs : Type 0
SidesAreInputs = (g : Aig) (k : Claim) → HasShapeFor k.widths g → inputs_in (sides_for k g) ≡ g.inputs

-- Operands of at most 64 bits.
abbrev pub SidesAreNarrow : Type 0
SidesAreNarrow = (g : Aig) (k : Claim) → HasShapeFor k.widths g → AreNarrow k.widths g → AreSides (sides_for k g)

-- ---- two operands as numbers

-- The graph's value on two operands: the sum of 2 ^ k over the outputs k that are true.
abbrev pub value_on : Aig → Order → ℕ → ℕ → ℕ
value_on g order a b = word (evaluated g (inputs_of order (width g) a b)) g.outputs

-- For all operands the graph evaluates to their product modulo 2 ^ m, m the number of its outputs.
abbrev pub Multiplies : Aig → Order → Type 0
Multiplies g order = (a b : ℕ) → a < 2 ^ width g → b < 2 ^ width g → value_on g order a b ≡ a * b % 2 ^ length g.outputs

-- For all operands the graph evaluates to their product as whole numbers.
abbrev pub MultipliesWhole : Aig → Order → Type 0
MultipliesWhole g order = (a b : ℕ) → a < 2 ^ width g → b < 2 ^ width g → value_on g order a b ≡ a * b

-- A graph meets the claim of two operands exactly where it multiplies.
abbrev pub ClaimIsProduct : Type 0
ClaimIsProduct = (g : Aig) (order : Order) → HasMultiplierShape g → IsDefinedOnce g → (MeetsClaim g (sides_of order g) ↔ Multiplies g order)

-- With an output for each bit of the product, that is the product as whole numbers.
abbrev pub WholeProducts : Type 0
WholeProducts = (g : Aig) (order : Order) → length g.outputs ≡ 2 * width g → (Multiplies g order ↔ MultipliesWhole g order)

-- ---- numbers for other claims

-- The number that n bits of a stand for, up to multiples of m: signed ones stand for 2 ^ n less from 2 ^ (n - 1) on.
abbrev pub number_as : Sign → ℕ → ℕ → ℕ → ℕ
number_as Unsigned m n a = a
number_as Signed m n a = if nat_lt a (2 ^ (n - 1)) then a else a + (m - 1) * 2 ^ n

-- the product of two operands of n bits, up to multiples of m
abbrev pub product_as : Sign → ℕ → ℕ → ℕ → ℕ → ℕ
product_as sign m n a b = number_as sign m n a * number_as sign m n b

-- For all operands the graph evaluates to the product of the numbers that they stand for, modulo 2 ^ m, m the number of its outputs.
abbrev pub MultipliesAs : Sign → Aig → Order → Type 0
MultipliesAs sign g order = (a b : ℕ) → a < 2 ^ width g → b < 2 ^ width g →
    value_on g order a b ≡ product_as sign (output_modulus g) (width g) a b % output_modulus g

-- the graph's value on two operands and an addend
abbrev pub sum_on : Aig → Order → ℕ → ℕ → ℕ → ℕ
sum_on g order a b c = value_at_inputs g (inputs_of order (sum_width g) a b ++ bits_of (2 * sum_width g) c)

-- For all operands and addends the graph evaluates to that product plus the addend, modulo 2 ^ m.
abbrev pub MultipliesAndAdds : Sign → Aig → Order → Type 0
MultipliesAndAdds sign g order = (a b c : ℕ) → a < 2 ^ sum_width g → b < 2 ^ sum_width g → c < 2 ^ (2 * sum_width g) →
    sum_on g order a b c ≡ (product_as sign (output_modulus g) (sum_width g) a b + c) % output_modulus g

-- ---- any claim, on numbers

-- the graph's value on numbers
abbrev pub value_at : Aig → Sides → Numbers → ℕ
value_at g s x = value_at_inputs g (inputs_at s x)

-- What is claimed of numbers, up to multiples of m: the product of those that the operands stand for, and the addend.
abbrev pub claimed_at : ℕ → Sides → Numbers → ℕ
claimed_at m s x = number_as s.claim.sign m (length s.a) x.a * number_as s.claim.sign m (length s.b) x.b + x.c

-- For all numbers of the operands' bits the graph evaluates to what is claimed, modulo 2 ^ m, m the number of its outputs.
abbrev pub DoesWith : Aig → Sides → Type 0
DoesWith g s = (x : Numbers) → AreInRange s x → value_at g s x ≡ claimed_at (output_modulus g) s x % output_modulus g

abbrev pub Does : Claim → Aig → Type 0
Does k g = DoesWith g (sides_for k g)

-- A graph meets the claim exactly where it does so on all numbers.
abbrev pub ClaimIsDone : Type 0
ClaimIsDone = (g : Aig) (k : Claim) → HasShapeFor k.widths g → IsDefinedOnce g → (MeetsClaim g (sides_for k g) ↔ Does k g)

-- Of operands of equal widths it is the product of both, and with an addend their sum.
abbrev pub DoingIsMultiplying : Type 0
DoingIsMultiplying = (g : Aig) (order : Order) (sign : Sign) → HasMultiplierShape g → (Does (multiplying order sign) g ↔ MultipliesAs sign g order)

abbrev pub DoingIsAdding : Type 0
DoingIsAdding = (g : Aig) (order : Order) (sign : Sign) → HasSumShape g → (Does (adding order sign) g ↔ MultipliesAndAdds sign g order)

-- ---- where the bits stand among the inputs; private clauses alone cite what follows

-- the place of a bit of a, and that of a bit of b
abbrev pub a_place : Order → ℕ → ℕ → ℕ
a_place Separate n i = i
a_place Interleaved n i = 2 * i

abbrev pub b_place : Order → ℕ → ℕ → ℕ
b_place Separate n i = n + i
b_place Interleaved n i = 2 * i + 1
