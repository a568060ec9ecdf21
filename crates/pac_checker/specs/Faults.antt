-- What the faults of code say in the words of the definitions.
use Rattle.std.specs.Prelude.{ℕ, IfSome}
use Rattle.graph_core.specs.Graph.Operands.{Sides}
use Rattle.graph_core.specs.Graph.Extended.{Extended}
use Rattle.algebra_core.specs.AlgebraLines.{Ledger, Line}
use Rattle.algebra_core.specs.Refusal as cause
use Rattle.poly_text.specs.declared.PacLine.{PacLine}
use Rattle.poly_text.specs.Lines.{line_in}
use Rattle.pac_checker.specs.Checking.{AlgebraChecking, ledger_of}
use Rattle.algebra_core.specs.InRange.{IsRefusedInRange, IsRefusedCloseInRange}
use Rattle.pac_checker.specs.declared.fault.LineFault.{LineFault}
use Rattle.pac_checker.specs.declared.fault.LineFault.TheVariants.{Id, NoSuchLine, NoSuchClause, NotEqual, Memory}
use Rattle.pac_checker.specs.declared.fault.CloseFault.{CloseFault}
use Rattle.pac_checker.specs.declared.fault.CloseFault.TheVariants as close

-- the line is refused for this cause; out of memory comes at any time
abbrev pub IsRuleFault : Extended → Ledger → Line → LineFault → Type 0
IsRuleFault e l x Id = IsRefusedInRange e l x cause.Id
IsRuleFault e l x (NoSuchLine id) = IsRefusedInRange e l x (cause.NoSuchLine id)
IsRuleFault e l x (NoSuchClause number) = IsRefusedInRange e l x (cause.NoSuchClause number)
IsRuleFault e l x NotEqual = IsRefusedInRange e l x cause.NotEqual
IsRuleFault e l x Memory = Unit {0}

-- likewise of a closing line
abbrev pub IsCloseFault : Extended → Sides → Ledger → ℕ → CloseFault → Type 0
IsCloseFault e sides l id (close.NoSuchLine missing) = IsRefusedCloseInRange e sides l id (cause.NoSuchLine missing)
IsCloseFault e sides l id close.NotSpec = IsRefusedCloseInRange e sides l id cause.NotSpecification
IsCloseFault e sides l id close.Memory = Unit {0}

-- the same of a line of code over a checker, and of a closing one
abbrev pub IsPacLineFault : AlgebraChecking → PacLine → LineFault → Type 0
IsPacLineFault c line fault = IfSome (line_in c.table line) (λ x. IsRuleFault c.extended (ledger_of c) x fault)

abbrev pub IsClosingFault : AlgebraChecking → ℕ → CloseFault → Type 0
IsClosingFault c id fault = IsCloseFault c.extended c.sides (ledger_of c) id fault
