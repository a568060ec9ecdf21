-- The header of a clause certificate: its version, what it adds to a graph and replaces, and its text.
use Rattle.std.specs.Prelude.{◌≡◌, ◌⊎◌, ℕ, Bool, List, [], ◌∷◌, ◌++◌, length, codes}
use Rattle.std.specs.declared.option.Option.{Option}
use Rattle.std.specs.declared.option.Option.TheVariants.{None, Some}
use Rattle.graph_core.specs.Graph.Extended.{Extended}
use Rattle.graph_core.specs.Graph.{Aig}
use Rattle.graph_core.specs.Text.JudgedLines.{BeginsWith}
use Rattle.graph_core.specs.Text.{newline}
use Rattle.ripple_graft.specs.declared.block.Block.{Block}
use Rattle.ripple_graft.specs.Beside.{nothing, with_beside}
use Rattle.ripple_graft.specs.Blocks.{with_blocks}
use Rattle.ripple_graft.specs.HeaderBlocks.{AreHeaderParts, cut_blocks}
use Rattle.ripple_graft.specs.declared.beside.Beside.{Beside}
use Rattle.ripple_graft.specs.declared.cut.Cut.{Cut}
use Rattle.clause_core.specs.ClauseLines.{ClauseLine}
use Rattle.drup_text.specs.declared.head.Header.{Header}
use Rattle.drup_text.specs.ClauseTexts.{AreLinesOf, IsBlockLine, IsClauseLine, IsCountLine, IsCutLine, IsPairLine}
use Rattle.drup_text.specs.Listings.{IsListed, gate_listing, output_listing}

-- ---- version 1: a cut, or none

-- the first line
abbrev pub version_line : List ℕ
version_line = codes "joined 1" ++ newline ∷ []

-- After the first line: one line, and a line for each pair.
abbrev pub IsCutText : List ℕ → Option Cut → List ℕ → Type 0
IsCutText bytes None after = BeginsWith IsCutLine bytes None after
IsCutText bytes (Some cut) after =
    (rest : List ℕ) × BeginsWith IsCutLine bytes (Some (cut.lo, length cut.pairs)) rest × AreLinesOf IsPairLine rest cut.pairs after

-- the whole header of version 1, and the bytes after it
abbrev pub IsClauseHeaderText : List ℕ → Option Cut → List ℕ → Type 0
IsClauseHeaderText bytes cut after = (rest : List ℕ) × IsCutText rest cut after × (bytes ≡ version_line ++ rest)

-- ---- version 2: blocks in order

abbrev pub second_line : List ℕ
second_line = codes "joined 2" ++ newline ∷ []

abbrev pub head_of : Block → ℕ × ℕ × Bool
head_of b = (b.cut.lo, length b.cut.pairs, b.carry)

-- blocks one after the other: a line for each, and a line for each of its pairs
abbrev pub AreBlockTexts : List ℕ → List Block → List ℕ → Type 0
AreBlockTexts bytes [] after = bytes ≡ after
AreBlockTexts bytes (b ∷ blocks) after =
    (rest middle : List ℕ) × BeginsWith IsBlockLine bytes (head_of b) rest × AreLinesOf IsPairLine rest b.cut.pairs middle × AreBlockTexts middle blocks after

-- after the first line: the number of blocks, and the blocks
abbrev pub IsBlocksText : List ℕ → List Block → List ℕ → Type 0
IsBlocksText bytes blocks after = (rest : List ℕ) × BeginsWith IsCountLine bytes (length blocks) rest × AreBlockTexts rest blocks after

-- ---- version 3: gates beside the graph, and outputs

abbrev pub third_line : List ℕ
third_line = codes "joined 3" ++ newline ∷ []

-- after the first line: the gates, and then the outputs
abbrev pub IsBesideText : List ℕ → Beside → List ℕ → Type 0
IsBesideText bytes b after = (middle : List ℕ) × IsListed gate_listing bytes b.gates middle × IsListed output_listing middle b.outputs after

-- ---- all of them

-- The whole header over a graph with so many outputs, and the bytes after it.
abbrev pub IsAnyHeaderText : ℕ → List ℕ → Header → List ℕ → Type 0
IsAnyHeaderText outputs bytes h after =
    ((h.version ≡ 1) × ((cut : Option Cut) × (h.blocks ≡ cut_blocks outputs cut) × IsClauseHeaderText bytes cut after) × (h.beside ≡ nothing)) ⊎
    ((h.version ≡ 2) × ((rest : List ℕ) × IsBlocksText rest h.blocks after × (bytes ≡ second_line ++ rest)) × (h.beside ≡ nothing)) ⊎
    ((h.version ≡ 3) × ((rest : List ℕ) × IsBesideText rest h.beside after × (bytes ≡ third_line ++ rest)) × (h.blocks ≡ []))

-- The graph takes its blocks, and what stands beside.
abbrev pub IsHeaderOf : Aig → Header → Type 0
IsHeaderOf g h = AreHeaderParts g h.version h.blocks h.beside

-- the graph with its blocks, and with what stands beside
abbrev pub extended_with : Aig → Header → Extended
extended_with g h = with_beside (with_blocks g h.blocks) h.beside

-- the whole file: a header, lines, and nothing after them
abbrev pub IsAnyClauseFile : ℕ → List ℕ → Header → List ClauseLine → Type 0
IsAnyClauseFile outputs bytes h lines = (body : List ℕ) × IsAnyHeaderText outputs bytes h body × AreLinesOf IsClauseLine body lines []
