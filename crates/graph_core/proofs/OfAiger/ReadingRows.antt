-- Reading computed on small files: what is read, and where each refusal is.
use Rattle.std.specs.Prelude.{◌≡◌, ℕ, Bool, true, false, List, [], ◌∷◌, ◌++◌, take, drop, codes, ◌==◌, Result, Ok, Err}
use Rattle.std.specs.List.{list_all}
use Rattle.std.proofs.Common.{refl}
use Rattle.graph_core.specs.declared.fault.Field.TheVariants as field
use Rattle.graph_core.specs.declared.profile.Profile.TheVariants.{Multiplier, MultiplyAdd, Any}
use Rattle.graph_core.specs.declared.fault.GraphFault.TheVariants.{Range, Left, Twice, Undefined, Cycle}
use Rattle.graph_core.specs.Graph.{Aig}
use Rattle.graph_core.specs.Aiger.Refusal.{Refusal, Text, Header, Faulty, fault_of}
use Rattle.graph_core.specs.Aiger.Reading.{header_at, ascii_at, binary_at, symbol_at, rest_at, graph_at}
use Rattle.graph_core.specs.Aiger.Writing.{ascii_text, binary_text}
use Rattle.graph_core.proofs.OfAiger.Rows.{one_bit, one_bit_text, two_bits, two_bits_text, lit, line_feed}

-- refused as text at this byte
abbrev refused_text_at : ℕ → Result Aig Refusal → Bool
refused_text_at p (Ok g) = false
refused_text_at p (Err (Text q)) = p == q
refused_text_at p (Err (Header f)) = false
refused_text_at p (Err (Faulty f)) = false

abbrev upto_20 : List ℕ
upto_20 = 0 ∷ 1 ∷ 2 ∷ 3 ∷ 4 ∷ 5 ∷ 6 ∷ 7 ∷ 8 ∷ 9 ∷ 10 ∷ 11 ∷ 12 ∷ 13 ∷ 14 ∷ 15 ∷ 16 ∷ 17 ∷ 18 ∷ 19 ∷ []

-- ---- ascii

read : graph_at Multiplier one_bit_text ≡ Ok one_bit
unfolding header_at rest_at ascii_at fault_of
read = refl

-- cut after any number of its 28 bytes, it is refused there
cut : list_all (λ k. refused_text_at k (graph_at Multiplier (take k one_bit_text))) (upto_20 ++ 20 ∷ 21 ∷ 22 ∷ 23 ∷ 24 ∷ 25 ∷ 26 ∷ 27 ∷ []) ≡ true
unfolding header_at rest_at ascii_at fault_of
cut = refl

-- zeros for the last fields, symbols and a comment
with_symbols : graph_at Multiplier (codes "aag 3 2 0 2 1 0 0 0 0" ++ drop 13 one_bit_text ++ codes "i0 a" ++ line_feed ++ codes "o1 high" ++ line_feed ++ codes "c" ++ line_feed ++ 0 ∷ 255 ∷ []) ≡ Ok one_bit
unfolding header_at rest_at ascii_at symbol_at fault_of
with_symbols = refl

-- a symbol's number that is too large is refused at its first digit, whatever comes after it
symbol_too_large : graph_at Multiplier (codes "aag 3 2 0 2 1 0 0 0 0" ++ drop 13 one_bit_text ++ codes "i2 a" ++ line_feed ++ codes "o1 high" ++ line_feed) ≡ Err (Text 37)
unfolding header_at rest_at ascii_at symbol_at fault_of
symbol_too_large = refl

symbol_too_large_at_end : graph_at Multiplier (one_bit_text ++ codes "o2") ≡ Err (Text 29)
unfolding header_at rest_at ascii_at symbol_at fault_of
symbol_too_large_at_end = refl

symbol_cut : graph_at Multiplier (one_bit_text ++ codes "o1") ≡ Err (Text 30)
unfolding header_at rest_at ascii_at symbol_at fault_of
symbol_cut = refl

symbol_of_eleven_digits : graph_at Multiplier (one_bit_text ++ codes "o00000000001 a") ≡ Err (Text 39)
unfolding header_at rest_at ascii_at symbol_at fault_of
symbol_of_eleven_digits = refl

symbol_without_name : graph_at Multiplier (one_bit_text ++ codes "o1 " ++ line_feed) ≡ Ok one_bit
unfolding header_at rest_at ascii_at symbol_at fault_of
symbol_without_name = refl

-- ---- headers

header_l : graph_at Multiplier (codes "aag 3 2 1 2 0" ++ line_feed) ≡ Err (Header field.L)
unfolding header_at rest_at ascii_at fault_of
header_l = refl

header_m : graph_at Multiplier (codes "aag 4194304 2 1 2 0" ++ line_feed) ≡ Err (Header field.M)
unfolding header_at rest_at ascii_at fault_of
header_m = refl

header_i : graph_at Multiplier (codes "aag 300 130 0 130 0" ++ line_feed) ≡ Err (Header field.I)
unfolding header_at rest_at ascii_at fault_of
header_i = refl

header_a : graph_at Multiplier (codes "aig 4 2 0 2 1" ++ line_feed) ≡ Err (Header field.A)
unfolding header_at rest_at ascii_at fault_of
header_a = refl

header_j : graph_at Multiplier (codes "aag 3 2 0 2 1 0 0 7" ++ line_feed) ≡ Err (Header field.J)
unfolding header_at rest_at ascii_at fault_of
header_j = refl

-- four numbers are too few, and ten too many
four_numbers : graph_at Multiplier (codes "aag 3 2 0 2" ++ line_feed) ≡ Err (Text 11)
unfolding header_at rest_at ascii_at fault_of
four_numbers = refl

ten_numbers : graph_at Multiplier (codes "aag 3 2 0 2 1 0 0 0 0 0" ++ line_feed) ≡ Err (Text 21)
unfolding header_at rest_at ascii_at fault_of
ten_numbers = refl

-- ---- profiles

-- one input and its negation, and no input at all
abbrev inverter_text : List ℕ
inverter_text = codes "aag 1 1 0 1 0" ++ line_feed ++ codes "2" ++ line_feed ++ codes "3" ++ line_feed

inverter : graph_at Any inverter_text ≡ Ok (record { max = 1; inputs = lit 2 ∷ []; outputs = lit 3 ∷ []; gates = [] })
unfolding header_at rest_at ascii_at fault_of
inverter = refl

inverter_is_no_multiplier : graph_at Multiplier inverter_text ≡ Err (Header field.I)
unfolding header_at rest_at ascii_at fault_of
inverter_is_no_multiplier = refl

no_inputs : graph_at Any (codes "aag 0 0 0 1 0" ++ line_feed ++ codes "1" ++ line_feed) ≡ Ok (record { max = 0; inputs = []; outputs = lit 1 ∷ []; gates = [] })
unfolding header_at rest_at ascii_at fault_of
no_inputs = refl

no_outputs : graph_at Any (codes "aag 0 0 0 0 0" ++ line_feed) ≡ Err (Header field.O)
unfolding header_at rest_at ascii_at fault_of
no_outputs = refl

many_inputs : graph_at Any (codes "aag 257 257 0 1 0" ++ line_feed) ≡ Err (Header field.I)
unfolding header_at rest_at ascii_at fault_of
many_inputs = refl

many_outputs : graph_at Any (codes "aag 0 0 0 257 0" ++ line_feed) ≡ Err (Header field.O)
unfolding header_at rest_at ascii_at fault_of
many_outputs = refl

-- with an addend: a multiple of four inputs, and outputs for half of them
one_bit_has_no_addend : graph_at MultiplyAdd one_bit_text ≡ Err (Header field.I)
unfolding header_at rest_at ascii_at fault_of
one_bit_has_no_addend = refl

six_inputs : graph_at MultiplyAdd (codes "aag 6 6 0 2 0" ++ line_feed) ≡ Err (Header field.I)
unfolding header_at rest_at ascii_at fault_of
six_inputs = refl

three_outputs : graph_at MultiplyAdd (codes "aag 4 4 0 3 0" ++ line_feed) ≡ Err (Header field.O)
unfolding header_at rest_at ascii_at fault_of
three_outputs = refl

two_outputs : graph_at MultiplyAdd (codes "aig 4 4 0 2 0" ++ line_feed ++ codes "8" ++ line_feed ++ codes "0" ++ line_feed) ≡ Ok (record { max = 4; inputs = lit 2 ∷ lit 4 ∷ lit 6 ∷ lit 8 ∷ []; outputs = lit 8 ∷ lit 0 ∷ []; gates = [] })
unfolding header_at rest_at binary_at fault_of
two_outputs = refl

-- ---- binary

abbrev binary_header : List ℕ
binary_header = codes "aig 3 2 0 2 1" ++ line_feed ++ codes "6" ++ line_feed ++ codes "0" ++ line_feed

abbrev binary_text_of_one_bit : List ℕ
binary_text_of_one_bit = binary_header ++ 2 ∷ 2 ∷ []

read_binary : graph_at Multiplier binary_text_of_one_bit ≡ Ok one_bit
unfolding header_at rest_at binary_at fault_of
read_binary = refl

cut_binary : list_all (λ k. refused_text_at k (graph_at Multiplier (take k binary_text_of_one_bit))) upto_20 ≡ true
unfolding header_at rest_at binary_at fault_of
cut_binary = refl

-- an overlong number, in two and in five bytes, and in six
two_bytes : graph_at Multiplier (binary_header ++ 130 ∷ 0 ∷ 2 ∷ []) ≡ Ok one_bit
unfolding header_at rest_at binary_at fault_of
two_bytes = refl

five_bytes : graph_at Multiplier (binary_header ++ 130 ∷ 128 ∷ 128 ∷ 128 ∷ 0 ∷ 2 ∷ []) ≡ Ok one_bit
unfolding header_at rest_at binary_at fault_of
five_bytes = refl

six_bytes : graph_at Multiplier (binary_header ++ 130 ∷ 128 ∷ 128 ∷ 128 ∷ 128 ∷ 0 ∷ 2 ∷ []) ≡ Err (Text 22)
unfolding header_at rest_at binary_at fault_of
six_bytes = refl

-- out of range: 0 or 7 below the left side 6, and 5 below 4; a number that is cut is judged at the end of the file
first_zero : graph_at Multiplier (binary_header ++ 0 ∷ 2 ∷ []) ≡ Err (Text 18)
unfolding header_at rest_at binary_at fault_of
first_zero = refl

first_large : graph_at Multiplier (binary_header ++ 135 ∷ 0 ∷ []) ≡ Err (Text 18)
unfolding header_at rest_at binary_at fault_of
first_large = refl

second_large : graph_at Multiplier (binary_header ++ 2 ∷ 5 ∷ []) ≡ Err (Text 19)
unfolding header_at rest_at binary_at fault_of
second_large = refl

large_but_cut : graph_at Multiplier (binary_header ++ 135 ∷ []) ≡ Err (Text 19)
unfolding header_at rest_at binary_at fault_of
large_but_cut = refl

binary_symbols : graph_at Multiplier (binary_text_of_one_bit ++ codes "i1 b" ++ line_feed ++ codes "comment") ≡ Ok one_bit
unfolding header_at rest_at binary_at symbol_at fault_of
binary_symbols = refl

-- ---- faults

abbrev cyclic_text : List ℕ
cyclic_text = codes "aag 4 2 0 2 2" ++ line_feed ++ codes "2" ++ line_feed ++ codes "4" ++ line_feed ++ codes "6" ++ line_feed ++ codes "0" ++ line_feed ++ codes "6 8 2" ++ line_feed ++ codes "8 6 4" ++ line_feed

cycle : graph_at Multiplier cyclic_text ≡ Err (Faulty (Cycle 3))
unfolding header_at rest_at ascii_at fault_of
cycle = refl

range : graph_at Multiplier (take 22 one_bit_text ++ codes "6 4 9999999999" ++ line_feed) ≡ Err (Faulty (Range (lit 4294967295)))
unfolding header_at rest_at ascii_at fault_of
range = refl

odd_left : graph_at Multiplier (take 22 one_bit_text ++ codes "7 4 2" ++ line_feed) ≡ Err (Faulty (Left (lit 7)))
unfolding header_at rest_at ascii_at fault_of
odd_left = refl

twice : graph_at Multiplier (take 22 one_bit_text ++ codes "4 4 2" ++ line_feed) ≡ Err (Faulty (Twice 2))
unfolding header_at rest_at ascii_at fault_of
twice = refl

undefined : graph_at Multiplier (codes "aag 4 2 0 2 1" ++ line_feed ++ codes "2" ++ line_feed ++ codes "4" ++ line_feed ++ codes "8" ++ line_feed ++ codes "0" ++ line_feed ++ codes "6 4 2" ++ line_feed) ≡ Err (Faulty (Undefined (lit 8)))
unfolding header_at rest_at ascii_at fault_of
undefined = refl

-- ---- what is written

written_ascii : ascii_text one_bit ≡ one_bit_text
written_ascii = refl

written_binary : binary_text one_bit ≡ binary_text_of_one_bit
written_binary = refl

written_two_bits : ascii_text two_bits ≡ two_bits_text
written_two_bits = refl
