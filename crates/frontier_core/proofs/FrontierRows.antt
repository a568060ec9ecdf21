-- Frontiers, quotients and least differences of small graphs, by computing; also with fewer outputs than bits.
use Rattle.std.specs.Prelude.{◌≡◌, ℕ, ◌*◌, ◌/◌, ◌%◌, ◌^◌, ◌==◌, not, Bool, true, false, List, [], ◌∷◌, map, length}
use Rattle.std.specs.List.{list_all, filter, flat_map}
use Rattle.std.proofs.Common.{refl}
use Rattle.graph_core.specs.declared.literal.Lit.{Lit}
use Rattle.graph_core.specs.declared.gate.Gate.{Gate}
use Rattle.graph_core.specs.declared.claim.Claim.{Claim}
use Rattle.graph_core.specs.declared.numbers.Numbers.{Numbers}
use Rattle.graph_core.specs.declared.sign.Sign.{Sign}
use Rattle.graph_core.specs.declared.sign.Sign.TheVariants.{Signed, Unsigned}
use Rattle.graph_core.specs.declared.widths.Widths.TheVariants.{Given}
use Rattle.graph_core.specs.declared.order.Order.{Order}
use Rattle.graph_core.specs.declared.order.Order.TheVariants.{Separate, Interleaved}
use Rattle.graph_core.specs.Graph.Assignments.{listed}
use Rattle.graph_core.specs.Graph.{Aig}
use Rattle.graph_core.specs.Graph.Operands.{claimed_at, output_modulus, product_under, sides_for, sides_of, value_at}
use Rattle.algebra_core.specs.Polynomials.{Term, Polynomial, value}
use Rattle.graph_core.specs.Graph.Extended.{without_cut, modulus}
use Rattle.frontier_core.specs.Columns.{all_columns}
use Rattle.frontier_core.specs.Frontier.{frontier_value}
use Rattle.frontier_core.specs.Substitution.{gate_value, quotient, substituted}
use Rattle.frontier_core.specs.LeastDifference.{ones_at}

abbrev lit : ℕ → Lit
lit n = record { 0 = n }

abbrev gate : ℕ → ℕ → ℕ → Gate
gate l x y = record { v = l / 2; left = lit x; right = lit y }

abbrev plus : ℕ → List ℕ → Term
plus c vs = record { negative = false; coefficient = c; variables = vs }

-- the one-bit multiplier, and the two-bit array multiplier
abbrev one_bit : Aig
one_bit = record { max = 3; inputs = map lit (2 ∷ 4 ∷ []); outputs = map lit (6 ∷ 0 ∷ []); gates = gate 6 4 2 ∷ [] }

abbrev two_bits : Aig
two_bits = record {
  max = 14;
  inputs = map lit (2 ∷ 4 ∷ 6 ∷ 8 ∷ []);
  outputs = map lit (10 ∷ 22 ∷ 28 ∷ 24 ∷ []);
  gates = gate 10 6 2 ∷ gate 12 6 4 ∷ gate 14 8 2 ∷ gate 16 8 4 ∷ gate 18 14 12 ∷ gate 20 15 13 ∷ gate 22 21 19 ∷ gate 24 18 16 ∷ gate 26 19 17 ∷ gate 28 27 25 ∷ [];
}

-- all assignments of variables 1 to 4
abbrev all_four : List (List Bool)
all_four = flat_map (λ a. flat_map (λ b. flat_map (λ c. map (λ d. false ∷ a ∷ b ∷ c ∷ d ∷ []) (false ∷ true ∷ [])) (false ∷ true ∷ [])) (false ∷ true ∷ [])) (false ∷ true ∷ [])

-- of one bit: x3 + 3*x1*x2 modulo 4 has the quotient 1 by x3, and is 0 once x1*x2 stands for x3
abbrev start : Polynomial
start = plus 1 (3 ∷ []) ∷ plus 3 (1 ∷ 2 ∷ []) ∷ []

quotient_one : list_all (λ bits. quotient 4 3 (value 4 start) (listed bits) == 1) all_four ≡ true
quotient_one = refl

substituted_none : list_all (λ bits. substituted 4 3 (gate_value (gate 6 4 2)) (value 4 start) (listed bits) == 0) all_four ≡ true
substituted_none = refl

start_is_frontier : list_all (λ bits. value 4 start (listed bits) == frontier_value (without_cut one_bit) (sides_of Separate one_bit) (1 ∷ 0 ∷ []) [] (listed bits)) all_four ≡ true
start_is_frontier = refl

-- two operands
abbrev two : ℕ × ℕ → Numbers
two p = record { a = p.0; b = p.1; c = 0 }

-- the operands on which a graph isn't what is claimed, b below a bound, and the positions of their ones
abbrev differing_below : List ℕ → Aig → Claim → List (List ℕ)
differing_below bs g k =
    map (λ (p : ℕ × ℕ). p.0 ∷ p.1 ∷ ones_at (sides_for k g) (two p))
    (filter (λ (p : ℕ × ℕ). not (value_at g (sides_for k g) (two p) == claimed_at (output_modulus g) (sides_for k g) (two p) % output_modulus g))
    (flat_map (λ a. map (λ b. (a, b)) bs) (0 ∷ 1 ∷ 2 ∷ 3 ∷ [])))

abbrev differing : Aig → Order → List (List ℕ)
differing g order = differing_below (0 ∷ 1 ∷ 2 ∷ 3 ∷ []) g (product_under order)

none_differ : differing two_bits Separate ≡ []
none_differ = refl

-- with the inputs interleaved several pairs of two ones differ, of which 1, 1 has the least positions
interleaved_differ : differing two_bits Interleaved ≡
    (0 ∷ 3 ∷ 1 ∷ 3 ∷ []) ∷ (1 ∷ 1 ∷ 0 ∷ 1 ∷ []) ∷ (1 ∷ 3 ∷ 0 ∷ 1 ∷ 3 ∷ []) ∷ (2 ∷ 2 ∷ 2 ∷ 3 ∷ []) ∷ (3 ∷ 0 ∷ 0 ∷ 2 ∷ []) ∷ (3 ∷ 2 ∷ 0 ∷ 2 ∷ 3 ∷ []) ∷ []
interleaved_differ = refl

-- a of two bits times b of one, which is right of unsigned operands alone: signed ones are from -2 to 1 and from -1 to 0
abbrev two_times_one : Aig
two_times_one = record { max = 5; inputs = map lit (2 ∷ 4 ∷ 6 ∷ []); outputs = map lit (8 ∷ 10 ∷ 0 ∷ []); gates = gate 8 6 2 ∷ gate 10 6 4 ∷ [] }

abbrev two_by_one : Sign → Claim
two_by_one sign = record { order = Separate; sign = sign; widths = Given 2 1 false }

none_of_three_inputs : differing_below (0 ∷ 1 ∷ []) two_times_one (two_by_one Unsigned) ≡ []
none_of_three_inputs = refl

signed_differ : differing_below (0 ∷ 1 ∷ []) two_times_one (two_by_one Signed) ≡ (1 ∷ 1 ∷ 0 ∷ 2 ∷ []) ∷ (3 ∷ 1 ∷ 0 ∷ 1 ∷ 2 ∷ []) ∷ []
signed_differ = refl

-- with the output 0 for 24 one pair differs, and the last frontier is 8*x1*x2*x3*x4
abbrev top_lost : Aig
top_lost = record { max = 14; inputs = two_bits.inputs; outputs = map lit (10 ∷ 22 ∷ 28 ∷ 0 ∷ []); gates = two_bits.gates }

one_differs : differing top_lost Separate ≡ (3 ∷ 3 ∷ 0 ∷ 1 ∷ 2 ∷ 3 ∷ []) ∷ []
one_differs = refl

abbrev all_gates : List ℕ
all_gates = 5 ∷ 6 ∷ 7 ∷ 8 ∷ 9 ∷ 10 ∷ 11 ∷ 12 ∷ 13 ∷ 14 ∷ []

last_of_top_lost : list_all (λ bits. value 16 (plus 8 (1 ∷ 2 ∷ 3 ∷ 4 ∷ []) ∷ []) (listed bits) ==
    frontier_value (without_cut top_lost) (sides_of Separate top_lost) (all_columns (without_cut top_lost)) all_gates (listed bits)) all_four ≡ true
last_of_top_lost = refl

-- ---- three outputs

abbrev three_outputs : Aig
three_outputs = record { max = 14; inputs = two_bits.inputs; outputs = map lit (10 ∷ 22 ∷ 28 ∷ []); gates = two_bits.gates }

eight : modulus (without_cut three_outputs) ≡ 8
eight = refl

-- modulo 8 it is the product, and its last frontier is 0
three_do : differing three_outputs Separate ≡ []
three_do = refl

last_of_three : list_all (λ bits. frontier_value (without_cut three_outputs) (sides_of Separate three_outputs) (all_columns (without_cut three_outputs)) all_gates (listed bits) == 0) all_four ≡ true
last_of_three = refl

-- with the output 0 for 28 the least of the differing pairs is 2, 2, which has the ones 1 and 3
abbrev third_lost : Aig
third_lost = record { max = 14; inputs = two_bits.inputs; outputs = map lit (10 ∷ 22 ∷ 0 ∷ []); gates = two_bits.gates }

third_differs : differing third_lost Separate ≡ (2 ∷ 2 ∷ 1 ∷ 3 ∷ []) ∷ (2 ∷ 3 ∷ 1 ∷ 2 ∷ 3 ∷ []) ∷ (3 ∷ 2 ∷ 0 ∷ 1 ∷ 3 ∷ []) ∷ []
third_differs = refl
