-- Refusals of lines whose numbers are in range: numbers out of range are refused by whoever reads a line.
use Rattle.std.specs.Prelude.{ℕ}
use Rattle.graph_core.specs.Graph.Operands.{Sides}
use Rattle.graph_core.specs.Graph.Extended.{Extended}
use Rattle.algebra_core.specs.AlgebraLines.{Ledger, Line, IsNewId, IsLive}
use Rattle.graph_core.specs.Text.JudgedLines.{Unless, Never}
use Rattle.algebra_core.specs.Refusal.{AlgebraCause, IsRefusedRule, IsSpecification, IsNoSpecification}
use Rattle.algebra_core.specs.Refusal as cause

-- the first cause of a line, but for numbers out of range: an id that isn't new, an operand that isn't live, a value that differs
abbrev pub IsRefusedInRange : Extended → Ledger → Line → AlgebraCause → Type 0
IsRefusedInRange e l x = Unless (IsNewId l.last x) (¬ (IsNewId l.last x)) cause.Id (IsRefusedRule e l x)

-- the first cause of a closing line, likewise
abbrev pub IsRefusedCloseInRange : Extended → Sides → Ledger → ℕ → AlgebraCause → Type 0
IsRefusedCloseInRange e sides l id =
    Unless (IsLive l.live id) (¬ (IsLive l.live id)) (cause.NoSuchLine id)
    (Unless (IsSpecification e sides l id) (IsNoSpecification e sides l id) cause.NotSpecification Never)
