-- The clause certificate of two graphs: its first line, and then lines of clauses.
use Rattle.std.specs.Prelude.{◌≡◌, ℕ, List, [], ◌∷◌, ◌++◌, codes}
use Rattle.std.specs.List.{All}
use Rattle.std.specs.declared.option.Option.{Option}
use Rattle.graph_core.specs.Text.{newline}
use Rattle.graph_core.specs.Text.JudgedLines.{Lengths}
use Rattle.clause_core.specs.ClauseLines.{ClauseLine}
use Rattle.drup_text.specs.ClauseTexts.{AreLinesOf, IsClauseLine}
use Rattle.mv_text.specs.CertificateFiles.{IsFirstRefusal}
use Rattle.drup_text.specs.WrittenLaws.{IsWritableLine}
use Rattle.drup_text.specs.WrittenTexts.{clause_lines_text}
use Rattle.drup_text.specs.declared.fault.StartFail.{StartFail}

abbrev pub same_line : List ℕ
same_line = codes "same 1" ++ newline ∷ []

-- the whole file: that line, lines, and nothing after them
abbrev pub IsSameFile : List ℕ → List ClauseLine → Type 0
IsSameFile bytes lines = (body : List ℕ) × AreLinesOf IsClauseLine body lines [] × (bytes ≡ same_line ++ body)

-- It is the first line that is refused.
pub record IsSameStartRefusal (lengths : Lengths) (left : Option (List ℕ)) (before now : ℕ) (f : StartFail) : Type 0 where
  pub first : f.line ≡ 1
  pub cause : IsFirstRefusal same_line lengths left before now f.why

-- ---- what is written

abbrev pub same_text : List ClauseLine → List ℕ
same_text lines = same_line ++ clause_lines_text lines

-- A whole text that is written is the file of these lines.
abbrev pub WrittenSameIsRead : Type 0
WrittenSameIsRead = (lines : List ClauseLine) → All IsWritableLine lines → IsSameFile (same_text lines) lines
