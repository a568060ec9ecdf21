-- How live lines change step by step. These words serve private clauses.
use Rattle.std.specs.Prelude.{◌≡◌, ℕ, List, [], ◌∷◌}
use Rattle.std.specs.Option.{option_or}
use Rattle.graph_core.specs.declared.Gate.{Gate}
use Rattle.algebra_core.specs.AlgebraLines.{LiveLine, line_of}
use Rattle.algebra_core.specs.Agreement.{AreSame, AreSameLines}
use Rattle.mv_fact.specs.Facts.{Facts, IsKept}
use Rattle.poly_terms.specs.Tables.{Table, Sum, IsOf, Extends, value_in}
use Rattle.gate_axioms.specs.Lines.{live_lines_in}

-- A polynomial of the table that vanishes on every evaluation of the gates.
abbrev pub Vanishes : List Gate → Table → Sum → Type 0
Vanishes gates t p = IsKept {Fact = Sum} {Table = Table} (λ p t. IsOf t p) (λ p t σ. value_in t p σ ≡ 0) gates t p

-- The table alone has grown, and each live line has its value.
pub record KeepsLines (old new : Facts Sum Table) : Type 0 where
  pub gates : new.gates ≡ old.gates
  pub table : Extends old.table new.table
  pub entries : new.entries ≡ old.entries
  pub lines : AreSameLines (live_lines_in new.table new.entries) (live_lines_in old.table old.entries)

-- One more line is live, unless its id was; the table has grown.
pub record AddsLine (line : LiveLine) (old new : Facts Sum Table) : Type 0 where
  pub gates : new.gates ≡ old.gates
  pub table : Extends old.table new.table
  pub lines : (id : ℕ) → AreSame (line_of (live_lines_in new.table new.entries) id)
      (option_or (line_of (live_lines_in old.table old.entries) id) (line_of (line ∷ []) id))
