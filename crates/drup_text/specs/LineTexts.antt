-- What a text says.
use Rattle.std.specs.Prelude.{◌≡◌, ◌⊎◌, ℕ, ◌+◌, ◌<◌, ◌≤◌, Bool, List, IfSome}
use Rattle.std.specs.declared.option.Option.{Option}
use Rattle.graph_core.specs.declared.literal.Lit.{Lit}
use Rattle.graph_core.specs.Graph.Extended.{Extended}
use Rattle.ripple_graft.specs.Beside.{IsOutput}
use Rattle.ripple_graft.specs.Extension.{IsKnown}
use Rattle.ripple_graft.specs.Grafts.{HasColumnRoom}
use Rattle.clause_core.specs.Clause.{IsClauseInRange, SameSet}
use Rattle.clause_core.specs.ClauseLines.{ClauseLine, clause_in}
use Rattle.clause_core.specs.declared.line.Line.TheVariants.{Add, Delete}
use Rattle.drup_text.specs.ClauseTexts.{IsBlockLine, IsClauseLine, IsCutLine, IsNumberLine, IsOutputLine, IsPairLine}

-- ---- what is in range

-- each variable of the line's clause is from 1 to the greatest one
abbrev pub IsClauseLineInRange : ℕ → ClauseLine → Type 0
IsClauseLineInRange max x = IsClauseInRange max (clause_in x)

-- Of a graph with so many outputs a cut at this column with so many pairs ends at the last column or the one before it.
abbrev pub IsCutSize : ℕ → ℕ × ℕ → Type 0
IsCutSize outputs n = (0 < n.1) × ((n.0 + n.1 + 1 ≡ outputs) ⊎ (n.0 + n.1 ≡ outputs))

-- so it does, if there is one
abbrev pub IsSizeInRange : ℕ → Option (ℕ × ℕ) → Type 0
IsSizeInRange outputs size = IfSome size (IsCutSize outputs)

-- no more of something than so many: of blocks than columns, say
abbrev pub IsCountInRange : ℕ → ℕ → Type 0
IsCountInRange most n = n ≤ most

-- the block has its columns after the blocks before it
abbrev pub IsHeadOf : Extended → ℕ × ℕ × Bool → Type 0
IsHeadOf e h = HasColumnRoom e h.0 h.1 h.2

-- both literals are the constant, inputs or gates, of the graph or of the blocks so far
abbrev pub IsPairOf : Extended → Lit × Lit → Type 0
IsPairOf e p = IsKnown e p.0 × IsKnown e p.1

-- ---- what code has

-- Both add a clause or both delete one, of the same literals.
abbrev pub IsSameClauseLine : ClauseLine → ClauseLine → Type 0
IsSameClauseLine (Add c) (Add d) = SameSet c d
IsSameClauseLine (Add c) (Delete d) = ⊥
IsSameClauseLine (Delete c) (Add d) = ⊥
IsSameClauseLine (Delete c) (Delete d) = SameSet c d

-- The text is one of a line in range, of which code has this.
abbrev pub IsClauseTextOf : ℕ → List ℕ → ClauseLine → Type 0
IsClauseTextOf max bytes line = (x : ClauseLine) × IsClauseLine bytes x × IsClauseLineInRange max x × IsSameClauseLine x line

-- The text is one of this cut in range, or of this pair.
abbrev pub IsCutTextOf : ℕ → List ℕ → Option (ℕ × ℕ) → Type 0
IsCutTextOf outputs bytes size = IsCutLine bytes size × IsSizeInRange outputs size

abbrev pub IsPairTextOf : Extended → List ℕ → Lit × Lit → Type 0
IsPairTextOf e bytes p = IsPairLine bytes p × IsPairOf e p

-- The text is one of this number in range after a word, of this block, or of this output.
abbrev pub IsNumberTextOf : List ℕ → ℕ → List ℕ → ℕ → Type 0
IsNumberTextOf word most bytes n = IsNumberLine word bytes n × IsCountInRange most n

abbrev pub IsBlockTextOf : Extended → List ℕ → ℕ × ℕ × Bool → Type 0
IsBlockTextOf e bytes h = IsBlockLine bytes h × IsHeadOf e h

abbrev pub IsOutputTextOf : Extended → List ℕ → ℕ × Lit → Type 0
IsOutputTextOf e bytes c = IsOutputLine bytes c × IsOutput e c
