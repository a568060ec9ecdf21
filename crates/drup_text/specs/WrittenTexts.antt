-- The text that is written for a header and for lines: no number has a leading zero.
use Rattle.std.specs.Prelude.{ℕ, ℤ, pos, negsuc, List, [], ◌∷◌, ◌++◌, length, codes, decimal, if◌then◌else◌, ◌==◌}
use Rattle.std.specs.Fmt.{signed_decimal}
use Rattle.std.specs.declared.option.Option.{Option}
use Rattle.std.specs.declared.option.Option.TheVariants.{None, Some}
use Rattle.graph_core.specs.declared.literal.Lit.{Lit}
use Rattle.graph_core.specs.Text.{newline, space}
use Rattle.ripple_graft.specs.declared.beside.Beside.{Beside}
use Rattle.ripple_graft.specs.declared.block.Block.{Block}
use Rattle.ripple_graft.specs.declared.cut.Cut.{Cut}
use Rattle.clause_core.specs.Clause.{Clause}
use Rattle.clause_core.specs.ClauseLines.{ClauseLine}
use Rattle.clause_core.specs.declared.line.Line.TheVariants.{Add, Delete}
use Rattle.drup_text.specs.declared.head.Header.{Header}
use Rattle.drup_text.specs.ClauseTexts.{carry_text}
use Rattle.drup_text.specs.Headers.{second_line, third_line, version_line}

-- ---- clauses

-- what stands before a literal's variable
abbrev pub literal_sign : ℤ → List ℕ
literal_sign (pos v) = []
literal_sign (negsuc v) = codes "-"

-- literals, each with a space after it, and then a text
abbrev pub literals_text : List ℤ → List ℕ → List ℕ
literals_text [] end = end
literals_text (l ∷ ls) end = signed_decimal l ++ space ∷ literals_text ls end

abbrev pub clause_text : Clause → List ℕ
clause_text c = literals_text c (codes "0")

-- a line without its line feed
abbrev pub clause_line_text : ClauseLine → List ℕ
clause_line_text (Add c) = clause_text c
clause_line_text (Delete c) = codes "d " ++ clause_text c

-- lines, each with its line feed
abbrev pub clause_lines_text : List ClauseLine → List ℕ
clause_lines_text [] = []
clause_lines_text (x ∷ xs) = clause_line_text x ++ newline ∷ clause_lines_text xs

-- ---- the header

-- two numbers with a space between them
abbrev pub two_text : ℕ → ℕ → List ℕ
two_text n k = decimal n ++ space ∷ decimal k

-- pairs, each in a line
abbrev pub pairs_text : List (Lit × Lit) → List ℕ
pairs_text [] = []
pairs_text (p ∷ pairs) = two_text p.0.0 p.1.0 ++ newline ∷ pairs_text pairs

-- after the first line
abbrev pub cut_text : Option Cut → List ℕ
cut_text None = codes "none" ++ newline ∷ []
cut_text (Some cut) = codes "replace " ++ two_text cut.lo (length cut.pairs) ++ newline ∷ pairs_text cut.pairs

-- ---- version 2

-- a block's own line
abbrev pub block_head_text : Block → List ℕ
block_head_text b = codes "replace " ++ decimal b.cut.lo ++ space ∷ (decimal (length b.cut.pairs) ++ carry_text b.carry)

abbrev pub block_text : Block → List ℕ
block_text b = block_head_text b ++ newline ∷ pairs_text b.cut.pairs

abbrev pub blocks_text : List Block → List ℕ
blocks_text [] = []
blocks_text (b ∷ blocks) = block_text b ++ blocks_text blocks

-- after the first line
abbrev pub count_text : List Block → List ℕ
count_text blocks = codes "cuts " ++ decimal (length blocks) ++ newline ∷ blocks_text blocks

-- ---- version 3

abbrev pub gates_text : List (Lit × Lit) → List ℕ
gates_text pairs = codes "gates " ++ decimal (length pairs) ++ newline ∷ pairs_text pairs

-- outputs, each in a line
abbrev pub output_lines_text : List (ℕ × Lit) → List ℕ
output_lines_text [] = []
output_lines_text (c ∷ outputs) = two_text c.0 c.1.0 ++ newline ∷ output_lines_text outputs

abbrev pub outputs_text : List (ℕ × Lit) → List ℕ
outputs_text outputs = codes "replace " ++ decimal (length outputs) ++ newline ∷ output_lines_text outputs

-- after the first line
abbrev pub beside_text : Beside → List ℕ
beside_text b = gates_text b.gates ++ outputs_text b.outputs

-- ---- the whole

-- the cut of the first block, if there is one
abbrev pub first_cut : List Block → Option Cut
first_cut [] = None
first_cut (b ∷ blocks) = Some b.cut

-- a header without what stands beside; in version 1 the first block's cut says all
abbrev pub blocks_header_text : Header → List ℕ
blocks_header_text h = if h.version == 2 then second_line ++ count_text h.blocks else version_line ++ cut_text (first_cut h.blocks)

-- a header of any version
abbrev pub header_text : Header → List ℕ
header_text h = if h.version == 3 then third_line ++ beside_text h.beside else blocks_header_text h

abbrev pub any_file_text : Header → List ClauseLine → List ℕ
any_file_text h lines = header_text h ++ clause_lines_text lines
