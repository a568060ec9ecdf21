-- Small graphs and their texts: what they spell, and what they are refused for.
use Rattle.std.specs.Prelude.{◌≡◌, ℕ, ◌/◌, List, [], ◌∷◌, map, ◌++◌, ◌≤◌, length, codes, None, Some, Ok}
use Rattle.std.proofs.Common.{refl, arith}
use Rattle.std.proofs.lemmas.List.Elements.{All-from_recursion}
use Rattle.graph_core.specs.Aiger.{Listing, IsPacked, Spells, graph_of}
use Rattle.graph_core.specs.Aiger.Reading.{header_at, ascii_at, rest_at, lists_at}
use Rattle.graph_core.proofs.OfAiger.Refusals.{lists_are_read}
use Rattle.graph_core.proofs.OfAiger.Packed.{packed_is_faultless}
use Rattle.std.specs.List.{concat}
use Rattle.graph_core.specs.declared.literal.Lit.{Lit}
use Rattle.graph_core.specs.Graph.Literals.{variable_of}
use Rattle.graph_core.specs.Aiger.Refusal.{first_above, first_no_left, first_repeated, first_undefined, left_sides}
use Rattle.graph_core.specs.declared.gate.Gate.{Gate}
use Rattle.graph_core.specs.declared.profile.Profile.TheVariants.{Multiplier}
use Rattle.graph_core.specs.declared.order.Order.TheVariants.{Separate, Interleaved}
use Rattle.graph_core.specs.Graph.{Aig}
use Rattle.graph_core.specs.Graph.Operands.{value_on}

abbrev pub lit : ℕ → Lit
lit n = record { 0 = n }

abbrev pub gate : ℕ → ℕ → ℕ → Gate
gate l x y = record { v = l / 2; left = lit x; right = lit y }

-- the one-bit multiplier
abbrev pub one_bit : Aig
one_bit = record { max = 3; inputs = map lit (2 ∷ 4 ∷ []); outputs = map lit (6 ∷ 0 ∷ []); gates = gate 6 4 2 ∷ [] }

-- the two-bit array multiplier
abbrev pub two_bits : Aig
two_bits = record {
  max = 14;
  inputs = map lit (2 ∷ 4 ∷ 6 ∷ 8 ∷ []);
  outputs = map lit (10 ∷ 22 ∷ 28 ∷ 24 ∷ []);
  gates = gate 10 6 2 ∷ gate 12 6 4 ∷ gate 14 8 2 ∷ gate 16 8 4 ∷ gate 18 14 12 ∷ gate 20 15 13 ∷ gate 22 21 19 ∷ gate 24 18 16 ∷ gate 26 19 17 ∷ gate 28 27 25 ∷ [];
}

one_one : value_on one_bit Separate 1 1 ≡ 1
one_one = refl

three_three : value_on two_bits Separate 3 3 ≡ 9
three_three = refl

two_three : value_on two_bits Separate 2 3 ≡ 6
two_three = refl

interleaved : value_on two_bits Interleaved 1 1 ≡ 0
interleaved = refl

-- ---- texts

abbrev pub line_feed : List ℕ
line_feed = 10 ∷ []

-- the 28 bytes of the one-bit multiplier
abbrev pub one_bit_text : List ℕ
one_bit_text = codes "aag 3 2 0 2 1" ++ line_feed ++ codes "2" ++ line_feed ++ codes "4" ++ line_feed ++ codes "6" ++ line_feed ++ codes "0" ++ line_feed ++ codes "6 4 2" ++ line_feed

abbrev pub one_bit_listing : Listing
one_bit_listing = record { max = 3; inputs = map lit (2 ∷ 4 ∷ []); outputs = map lit (6 ∷ 0 ∷ []); gates = (lit 6, lit 4, lit 2) ∷ [] }

one_bit_length : length one_bit_text ≡ 28
one_bit_length = refl

-- the graph of the one-bit multiplier is what its text spells
one_bit_is_read : lists_at Multiplier one_bit_text ≡ Ok one_bit_listing
unfolding header_at rest_at ascii_at
one_bit_is_read = refl

one_bit_packed : IsPacked one_bit_listing
one_bit_packed = record { inputs = (refl, (refl, tt)); gates = (refl, omega arith, omega arith, tt); max = refl; outputs = All-from_recursion (λ l. l.0 ≤ 7) (map lit (6 ∷ 0 ∷ [])) (omega arith, (omega arith, tt)) }

pub one_bit_is_spelled : Spells Multiplier one_bit_text one_bit
one_bit_is_spelled = (one_bit_listing, (lists_are_read Multiplier one_bit_text one_bit_listing).0 one_bit_is_read, packed_is_faultless one_bit_listing one_bit_packed, refl)

-- the text of the two-bit multiplier lists its graph
abbrev pub two_bits_text : List ℕ
two_bits_text = concat ((codes "aag 14 4 0 4 10" ++ line_feed) ∷ (codes "2" ++ line_feed) ∷ (codes "4" ++ line_feed) ∷ (codes "6" ++ line_feed) ∷ (codes "8" ++ line_feed) ∷ (codes "10" ++ line_feed) ∷ (codes "22" ++ line_feed) ∷ (codes "28" ++ line_feed) ∷ (codes "24" ++ line_feed) ∷ (codes "10 6 2" ++ line_feed) ∷ (codes "12 6 4" ++ line_feed) ∷ (codes "14 8 2" ++ line_feed) ∷ (codes "16 8 4" ++ line_feed) ∷ (codes "18 14 12" ++ line_feed) ∷ (codes "20 15 13" ++ line_feed) ∷ (codes "22 21 19" ++ line_feed) ∷ (codes "24 18 16" ++ line_feed) ∷ (codes "26 19 17" ++ line_feed) ∷ (codes "28 27 25" ++ line_feed) ∷ [])

abbrev pub two_bits_listing : Listing
two_bits_listing = record { max = 14; inputs = map lit (2 ∷ 4 ∷ 6 ∷ 8 ∷ []); outputs = map lit (10 ∷ 22 ∷ 28 ∷ 24 ∷ []); gates = (lit 10, lit 6, lit 2) ∷ (lit 12, lit 6, lit 4) ∷ (lit 14, lit 8, lit 2) ∷ (lit 16, lit 8, lit 4) ∷ (lit 18, lit 14, lit 12) ∷ (lit 20, lit 15, lit 13) ∷ (lit 22, lit 21, lit 19) ∷ (lit 24, lit 18, lit 16) ∷ (lit 26, lit 19, lit 17) ∷ (lit 28, lit 27, lit 25) ∷ [] }

two_bits_is_read : lists_at Multiplier two_bits_text ≡ Ok two_bits_listing
unfolding header_at rest_at ascii_at
two_bits_is_read = refl

two_bits_graph : graph_of two_bits_listing ≡ two_bits
two_bits_graph = refl

-- a graph with a cycle has no fault before it
abbrev cyclic : Listing
cyclic = record { max = 4; inputs = map lit (2 ∷ 4 ∷ []); outputs = map lit (6 ∷ 0 ∷ []); gates = (lit 6, lit 8, lit 2) ∷ (lit 8, lit 6, lit 4) ∷ [] }

only_a_cycle : (first_above cyclic ≡ None) × (first_no_left cyclic ≡ None) × (first_repeated [] (map variable_of (left_sides cyclic)) ≡ None) × (first_undefined cyclic ≡ None)
only_a_cycle = (refl, refl, refl, refl)

-- what is undefined is found in order
undefined_first : first_undefined (record { max = 4; inputs = map lit (2 ∷ []); outputs = map lit (8 ∷ []); gates = (lit 4, lit 6, lit 2) ∷ [] }) ≡ Some (lit 8)
undefined_first = refl
