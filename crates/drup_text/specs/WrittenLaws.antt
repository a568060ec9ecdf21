-- What the text that is written says: the same header and the same lines, and no others.
use Rattle.std.specs.Prelude.{◌≡◌, ℕ, List, length}
use Rattle.std.specs.List.{All}
use Rattle.graph_core.specs.Graph.{Aig, IsBuilt}
use Rattle.graph_core.specs.Text.JudgedLines.{IsWithin, Lengths}
use Rattle.clause_core.specs.Clause.{IsLiteral}
use Rattle.clause_core.specs.ClauseLines.{ClauseLine, clause_in}
use Rattle.drup_text.specs.declared.head.Header.{Header}
use Rattle.drup_text.specs.PassingHeaders.{PassesAnyHeader}
use Rattle.drup_text.specs.HeaderRefusal.{LineCause, IsClauseHeaderRefusal}
use Rattle.drup_text.specs.Headers.{IsAnyClauseFile, IsHeaderOf}
use Rattle.drup_text.specs.LineTexts.{IsClauseLineInRange, IsClauseTextOf}
use Rattle.drup_text.specs.WrittenTexts.{any_file_text, clause_line_text, clause_lines_text}

-- Its literals have 32 bits.
abbrev pub IsWritableLine : ClauseLine → Type 0
IsWritableLine x = All IsLiteral (clause_in x)

-- The text that is written for a line is a text of this line, where its variables are in range.
abbrev pub WrittenClausesAreRead : Type 0
WrittenClausesAreRead = (max : ℕ) (line : ClauseLine) → IsWritableLine line → IsClauseLineInRange max line → IsClauseTextOf max (clause_line_text line) line

-- A whole text that is written for a header that the graph takes is the file of this header and of these lines.
abbrev pub WrittenFilesAreRead : Type 0
WrittenFilesAreRead = (g : Aig) (h : Header) (lines : List ClauseLine) → IsBuilt g → IsHeaderOf g h → All IsWritableLine lines →
    IsAnyClauseFile (length g.outputs) (any_file_text h lines) h lines

-- No text is two files over graphs with so many outputs.
abbrev pub OneTextIsOneFile : Type 0
OneTextIsOneFile = (outputs : ℕ) (bytes : List ℕ) (h k : Header) (lines others : List ClauseLine) → IsAnyClauseFile outputs bytes h lines →
    IsAnyClauseFile outputs bytes k others → (h ≡ k) × (lines ≡ others)

-- Within the lengths the header that is written passes over each graph that takes it, and the lines are left after it.
abbrev pub WrittenHeadersPass : Type 0
WrittenHeadersPass = (g : Aig) (lengths : Lengths) (h : Header) (lines : List ClauseLine) → IsBuilt g → IsHeaderOf g h →
    IsWithin lengths (any_file_text h lines) → PassesAnyHeader g lengths (any_file_text h lines) h (clause_lines_text lines)

-- A header that passes has no refusal.
abbrev pub PassingHeadersAreNotRefused : Type 0
PassingHeadersAreNotRefused = (g : Aig) (lengths : Lengths) (bytes : List ℕ) (h : Header) (body : List ℕ) (p : ℕ × LineCause) →
    PassesAnyHeader g lengths bytes h body → IsClauseHeaderRefusal g lengths bytes p → ⊥
