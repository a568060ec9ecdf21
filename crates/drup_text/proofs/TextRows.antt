-- The worked texts of clause certificates: the two-bit array with its cut, and lines that aren't read.
use Rattle.std.specs.Prelude.{◌≡◌, true, false, pos, negsuc, List, [], ◌∷◌, codes}
use Rattle.std.specs.Fmt.{digits}
use Rattle.std.specs.declared.option.Option.TheVariants.{None, Some}
use Rattle.std.proofs.Common.{refl}
use Rattle.graph_core.specs.Text.Readers.{Reader, ended_at, many_at}
use Rattle.ripple_graft.specs.declared.cut.Cut.{Cut}
use Rattle.clause_core.specs.ClauseLines.{ClauseLine}
use Rattle.clause_core.specs.declared.line.Line.TheVariants.{Add, Delete}
use Rattle.graph_core.specs.Graph.{Aig}
use Rattle.graph_core.specs.Graph.Literals.{and_gate}
use Rattle.ripple_graft.specs.Beside.{nothing}
use Rattle.ripple_graft.specs.Blocks.{block}
use Rattle.drup_text.specs.Headers.{extended_with}
use Rattle.drup_text.specs.PassingHeaders.{header_line_count}
use Rattle.drup_text.specs.declared.head.Header.{Header}
use Rattle.drup_text.specs.ClauseReading.{block_line_at, clause_line_at, count_line_at, cut_line_at, gates_line_at, number_line_at, output_line_at, pair_line_at, replace_line_at}
use Rattle.drup_text.specs.WrittenTexts.{any_file_text, clause_line_text}

the_cut : Cut
the_cut = record { lo = 2; pairs = (record { 0 = 16 }, record { 0 = 18 }) ∷ [] }

the_lines : List ClauseLine
the_lines =
    Add (negsuc 7 ∷ negsuc 13 ∷ pos 20 ∷ []) ∷ Add (negsuc 13 ∷ pos 20 ∷ []) ∷ Add (negsuc 7 ∷ pos 14 ∷ negsuc 19 ∷ []) ∷ Add (pos 14 ∷ negsuc 19 ∷ []) ∷ Add (negsuc 11 ∷ negsuc 20 ∷ []) ∷ Add (pos 12 ∷ pos 21 ∷ []) ∷ []

first_header : Header
first_header = record { version = 1; blocks = block the_cut true ∷ []; beside = nothing }

cut_file : any_file_text first_header the_lines ≡ codes "joined 1\nreplace 2 1\n16 18\n-8 -14 20 0\n-14 20 0\n-8 14 -20 0\n14 -20 0\n-12 -21 0\n12 21 0\n"
unfolding the_cut the_lines first_header digits
cut_file = refl

no_cut_file : any_file_text (record { version = 1; blocks = []; beside = nothing }) [] ≡ codes "joined 1\nnone\n"
no_cut_file = refl

-- two blocks, of which the second names a gate of the first
second_header : Header
second_header = record {
  version = 2;
  blocks = block (record { lo = 2; pairs = (record { 0 = 16 }, record { 0 = 18 }) ∷ [] }) false ∷ block (record { lo = 3; pairs = (record { 0 = 24 }, record { 0 = 43 }) ∷ [] }) true ∷ [];
  beside = nothing;
}

blocks_file : any_file_text second_header [] ≡ codes "joined 2\ncuts 2\nreplace 2 1\n16 18\nreplace 3 1 carry\n24 43\n"
unfolding second_header digits
blocks_file = refl

no_block_file : any_file_text (record { version = 2; blocks = []; beside = nothing }) [] ≡ codes "joined 2\ncuts 0\n"
unfolding digits
no_block_file = refl

-- one gate beside the graph, and it in place of an output
third_header : Header
third_header = record {
  version = 3;
  blocks = [];
  beside = record { gates = (record { 0 = 4 }, record { 0 = 2 }) ∷ []; outputs = (0, record { 0 = 8 }) ∷ [] };
}

beside_file : any_file_text third_header [] ≡ codes "joined 3\ngates 1\n4 2\nreplace 1\n0 8\n"
unfolding third_header digits
beside_file = refl

nothing_file : any_file_text (record { version = 3; blocks = []; beside = nothing }) [] ≡ codes "joined 3\ngates 0\nreplace 0\n"
unfolding digits
nothing_file = refl

deleted : clause_line_text (Delete (pos 12 ∷ pos 21 ∷ [])) ≡ codes "d 12 21 0"
unfolding digits
deleted = refl

-- ---- lines that are read, and lines that aren't

line_at : Reader ClauseLine
line_at = ended_at clause_line_at (codes "\n")

reads_literals : line_at (codes "1 -1 0\n") ≡ Some (Add (pos 1 ∷ negsuc 0 ∷ []), [])
unfolding line_at clause_line_at many_at
reads_literals = refl

reads_none : line_at (codes "d 0\n") ≡ Some (Delete [], [])
unfolding line_at clause_line_at many_at
reads_none = refl

minus_zero : line_at (codes "-0 0\n") ≡ None
unfolding line_at clause_line_at many_at
minus_zero = refl

leading_zero : line_at (codes "03 0\n") ≡ None
unfolding line_at clause_line_at many_at
leading_zero = refl

no_zero : line_at (codes "3 4\n") ≡ None
unfolding line_at clause_line_at many_at
no_zero = refl

eleven_digits : line_at (codes "10000000000 0\n") ≡ None
unfolding line_at clause_line_at many_at
eleven_digits = refl

space_behind : line_at (codes "3 0 \n") ≡ None
unfolding line_at clause_line_at many_at
space_behind = refl

zeros_in_a_cut : cut_line_at (codes "replace 02 0001") ≡ Some (Some (2, 1), [])
unfolding cut_line_at
zeros_in_a_cut = refl

one_number_of_a_cut : cut_line_at (codes "replace 2") ≡ None
unfolding cut_line_at
one_number_of_a_cut = refl

one_number_of_a_pair : pair_line_at (codes "16") ≡ None
unfolding pair_line_at
one_number_of_a_pair = refl

zeros_in_a_count : count_line_at (codes "cuts 0002") ≡ Some (2, [])
unfolding number_line_at
zeros_in_a_count = refl

no_number_of_blocks : count_line_at (codes "cuts ") ≡ None
unfolding number_line_at
no_number_of_blocks = refl

a_carry : block_line_at (codes "replace 2 1 carry") ≡ Some ((2, 1, true), [])
unfolding block_line_at
a_carry = refl

no_carry : block_line_at (codes "replace 2 1") ≡ Some ((2, 1, false), [])
unfolding block_line_at
no_carry = refl

another_word : block_line_at (codes "replace 2 1 carrot") ≡ None
unfolding block_line_at
another_word = refl

zeros_in_a_number_of_gates : gates_line_at (codes "gates 01") ≡ Some (1, [])
unfolding number_line_at
zeros_in_a_number_of_gates = refl

a_number_of_outputs : replace_line_at (codes "replace 1") ≡ Some (1, [])
unfolding number_line_at
a_number_of_outputs = refl

no_number_of_outputs : replace_line_at (codes "replace") ≡ None
unfolding number_line_at
no_number_of_outputs = refl

an_output : output_line_at (codes "0 8") ≡ Some ((0, record { 0 = 8 }), [])
unfolding output_line_at
an_output = refl

one_number_of_an_output : output_line_at (codes "0") ≡ None
unfolding output_line_at
one_number_of_an_output = refl

-- ---- the worked graph of one bit, x3 = x1 & x2, with that header: variable 4 is the gate beside it, and column 0 has it

one_bit : Aig
one_bit = record { max = 3; inputs = record { 0 = 2 } ∷ record { 0 = 4 } ∷ []; outputs = record { 0 = 6 } ∷ record { 0 = 0 } ∷ []; gates = and_gate 3 (record { 0 = 2 }) (record { 0 = 4 }) ∷ [] }

one_bit_extended : extended_with one_bit third_header ≡ record {
  graph = one_bit;
  max = 4;
  gates = and_gate 3 (record { 0 = 2 }) (record { 0 = 4 }) ∷ and_gate 4 (record { 0 = 4 }) (record { 0 = 2 }) ∷ [];
  replaced = record { number = 0; old = record { 0 = 6 }; new = record { 0 = 8 } } ∷ [];
}
unfolding one_bit third_header
one_bit_extended = refl

five_lines : header_line_count third_header ≡ 5
unfolding third_header
five_lines = refl
