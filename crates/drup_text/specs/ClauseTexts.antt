-- The lines of a clause certificate, each without its line feed.
use Rattle.std.specs.Prelude.{◌≡◌, ◌≢◌, ℕ, suc, Bool, true, false, List, [], ◌∷◌, ◌++◌, codes, ℤ, pos, negsuc, slice_index}
use Rattle.std.specs.declared.option.Option.{Option}
use Rattle.std.specs.declared.option.Option.TheVariants.{None, Some}
use Rattle.graph_core.specs.declared.literal.Lit.{Lit}
use Rattle.graph_core.specs.Text.JudgedLines.{BeginsWith}
use Rattle.graph_core.specs.Text.{space, IsNumeral}
use Rattle.clause_core.specs.Clause.{Clause}
use Rattle.clause_core.specs.ClauseLines.{ClauseLine}
use Rattle.clause_core.specs.declared.line.Line.TheVariants.{Add, Delete}

-- one to ten digits, of which the first isn't 0
abbrev pub IsVariableText : List ℕ → ℕ → Type 0
IsVariableText bytes v = IsNumeral 10 bytes v × (slice_index bytes 0 ≢ 48)

abbrev pub IsLiteralText : List ℕ → ℤ → Type 0
IsLiteralText bytes (pos v) = IsVariableText bytes v
IsLiteralText bytes (negsuc v) = (digits : List ℕ) × IsVariableText digits (suc v) × (bytes ≡ codes "-" ++ digits)

-- literals, each with a space after it, and a 0
abbrev pub IsClauseText : List ℕ → Clause → Type 0
IsClauseText bytes [] = bytes ≡ codes "0"
IsClauseText bytes (l ∷ ls) = (literal rest : List ℕ) × IsLiteralText literal l × IsClauseText rest ls × (bytes ≡ literal ++ space ∷ rest)

-- a clause, or one after the letter d
abbrev pub IsClauseLine : List ℕ → ClauseLine → Type 0
IsClauseLine bytes (Add c) = IsClauseText bytes c
IsClauseLine bytes (Delete c) = (rest : List ℕ) × IsClauseText rest c × (bytes ≡ codes "d " ++ rest)

-- ---- the lines of a header

-- the literals of one position
abbrev pub IsPairLine : List ℕ → Lit × Lit → Type 0
IsPairLine bytes p = (one two : List ℕ) × IsNumeral 10 one p.0.0 × IsNumeral 10 two p.1.0 × (bytes ≡ one ++ space ∷ two)

-- of version 1: no cut, or its first column and the number of its pairs
abbrev pub IsCutLine : List ℕ → Option (ℕ × ℕ) → Type 0
IsCutLine bytes None = bytes ≡ codes "none"
IsCutLine bytes (Some n) = (low count : List ℕ) × IsNumeral 10 low n.0 × IsNumeral 10 count n.1 × (bytes ≡ codes "replace " ++ low ++ space ∷ count)

-- a number after a word
abbrev pub IsNumberLine : List ℕ → List ℕ → ℕ → Type 0
IsNumberLine word bytes n = (count : List ℕ) × IsNumeral 10 count n × (bytes ≡ word ++ count)

-- of version 2: the number of blocks
abbrev pub IsCountLine : List ℕ → ℕ → Type 0
IsCountLine = IsNumberLine (codes "cuts ")

abbrev pub carry_text : Bool → List ℕ
carry_text true = codes " carry"
carry_text false = []

-- a block's first column, the number of its pairs, and whether its last carry replaces a column too
abbrev pub IsBlockLine : List ℕ → ℕ × ℕ × Bool → Type 0
IsBlockLine bytes h = (low count : List ℕ) × IsNumeral 10 low h.0 × IsNumeral 10 count h.1 ×
    (bytes ≡ codes "replace " ++ low ++ space ∷ (count ++ carry_text h.2))

-- of version 3: the number of gates beside the graph, and that of replaced outputs
abbrev pub IsGatesLine : List ℕ → ℕ → Type 0
IsGatesLine = IsNumberLine (codes "gates ")

abbrev pub IsReplaceLine : List ℕ → ℕ → Type 0
IsReplaceLine = IsNumberLine (codes "replace ")

-- a column, and the literal that takes the place of its output
abbrev pub IsOutputLine : List ℕ → ℕ × Lit → Type 0
IsOutputLine bytes c = (column literal : List ℕ) × IsNumeral 10 column c.0 × IsNumeral 10 literal c.1.0 × (bytes ≡ column ++ space ∷ literal)

-- ---- lines one after the other, each with its line feed, and the bytes after them

abbrev pub AreLinesOf : {Line : Type 0} → (List ℕ → Line → Type 0) → List ℕ → List Line → List ℕ → Type 0
AreLinesOf IsText bytes [] after = bytes ≡ after
AreLinesOf IsText bytes (x ∷ xs) after = (rest : List ℕ) × BeginsWith IsText bytes x rest × AreLinesOf IsText rest xs after
