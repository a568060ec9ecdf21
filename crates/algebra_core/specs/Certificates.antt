-- What each pair of certificates has, whatever its clauses are: the clause certificate that replaces nothing, and a lawful algebra
-- certificate within the lengths.
use Rattle.std.specs.Prelude.{ℕ, List, [], ◌∷◌, ◌++◌, codes}
use Rattle.algebra_core.specs.Text.{IsLawfulAlgebraFile}
use Rattle.algebra_core.specs.AlgebraLines.{Premises}
use Rattle.graph_core.specs.Graph.Operands.{Sides}
use Rattle.graph_core.specs.Text.JudgedLines.{Lengths, IsWithin}
use Rattle.graph_core.specs.Text.{newline}

-- the clause certificate that replaces nothing: its two lines
abbrev pub no_cut : List ℕ
no_cut = (codes "joined 1" ++ newline ∷ []) ++ (codes "none" ++ newline ∷ [])

-- the bytes are a lawful algebra file over these premises, for these operands, within the lengths
abbrev pub IsLawfulAlgebra : Lengths → Premises → Sides → List ℕ → Type 0
IsLawfulAlgebra lengths p sides bytes = IsLawfulAlgebraFile p sides bytes × IsWithin lengths bytes
