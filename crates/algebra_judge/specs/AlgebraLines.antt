-- One line of an algebra file, over what is left of it and over the checker's ledger.
use Rattle.std.specs.Prelude.{◌≡◌, ◌+◌, ◌⊎◌, ℕ, Bool, List, length, IfSome}
use Rattle.std.specs.declared.option.Option.{Option}
use Rattle.std.specs.declared.option.Option.TheVariants.{Some}
use Rattle.std.specs.declared.result.Result.{Result}
use Rattle.algebra_core.specs.AlgebraLines.{Ledger, Line, Premises, Closes, IsLawfulLine, after, specification}
use Rattle.algebra_core.specs.Agreement.{LedgersAgree}
use Rattle.algebra_core.specs.Refusal.{AlgebraCause, IsRefusedEnd, IsRefusedNext}
use Rattle.algebra_core.specs.Text.{IsCloseText, IsId, IsLineInRange, IsLineText}
use Rattle.graph_core.specs.Graph.Extended.{modulus}
use Rattle.graph_core.specs.Graph.Operands.{Sides}
use Rattle.graph_core.specs.Text.JudgedLines.{IsTooLong}
use Rattle.mv_desk.specs.Calls.{ReadsOnly}
use Rattle.mv_desk.specs.View.{KeepsTelling, View}
use Rattle.mv_desk.specs.declared.slot.Slot.TheVariants as slot
use Rattle.mv_fact.specs.Always.{Always}
use Rattle.mv_text.specs.CertificateFiles.{FileState, KeepsFile, ReadsNeeded, TakesText}
use Rattle.mv_text.specs.LineReading.{Lines}
use Rattle.mv_text.specs.declared.line_fail.LineFail.{LineFail}
use Rattle.pac_checker.specs.Checking.{AlgebraChecking, IsClosedBy, SpecificationVanishes, TakesAlgebraLine, checker_premises, ledger_of}
use Rattle.pac_checker.specs.Faults.{IsCloseFault, IsRuleFault}
use Rattle.pac_checker.specs.declared.fault.CloseFault.{CloseFault}
use Rattle.pac_checker.specs.declared.fault.LineFault.{LineFault}
use Rattle.poly_terms.specs.Tables.{Table}
use Rattle.poly_text.specs.LineTexts.{IsAnyInRange, IsAnyText, IsTextOf}
use Rattle.poly_text.specs.Lines.{line_in}
use Rattle.poly_text.specs.declared.line.PacLine.{PacLine}
use Rattle.poly_text.specs.declared.line.PacLine.TheVariants as pac
use Rattle.algebra_judge.specs.Fails.{IsFailOf, answer_of_close, answer_of_rule}
use Rattle.algebra_judge.specs.declared.algebra_line.Turn.{Turn}
use Rattle.algebra_judge.specs.declared.algebra_line.Turn.TheVariants as turn
use Rattle.algebra_judge.specs.declared.fail.AlgebraFail.{AlgebraFail}

-- ---- the task

-- What lines are judged over and for, and whether those that are taken are recorded.
pub record AlgebraTask : Type 0 where
  pub premises : Premises
  pub sides : Sides
  pub records : Bool

-- the task of a checker in a file of a version
abbrev pub task_of : ℕ → AlgebraChecking → AlgebraTask
task_of version c = record { premises = checker_premises version c; sides = c.sides; records = c.records }

-- the specification is 0 on every evaluation
abbrev pub Vanishes : AlgebraTask → Type 0
Vanishes t = Always t.premises.extended.gates (λ σ. specification t.premises.extended t.sides σ ≡ 0)

-- a checker stands on the same premises, asks for the same, and records as before
pub record KeepsAlgebraTask (old new : AlgebraChecking) : Type 0 where
  pub extended : new.extended ≡ old.extended
  pub sides : new.sides ≡ old.sides
  pub added : new.added ≡ old.added
  pub records : new.records ≡ old.records

-- ---- a line that is read, and judged by the checker

-- What the work of reading the next line does: the clauses of the file's reader, before its first failure.
pub record ReadsNextLine (max : ℕ) (old : FileState) (before : View) (out : Result PacLine LineFail) (new : FileState) (now : View) (t : Table) : Type 0 where
  pub says : ReadsNeeded (IsAnyText old.version) (IsAnyInRange max) (IsTextOf t old.version max) slot.Algebra old new before now out
  pub keeps : KeepsFile old new out
  pub only : ReadsOnly slot.Algebra before now
  pub tells : KeepsTelling before now

-- What a line that was read is for a checker: lawful, or closing. Then the specification vanishes.
abbrev pub IsJudged : PacLine → AlgebraChecking → AlgebraChecking → Turn → Type 0
IsJudged text old new turn.Taken = (line : Line) × (line_in old.table text ≡ Some line) × TakesAlgebraLine line old new
IsJudged text old new (turn.Closed id) = (text ≡ pac.Close id) × IsClosedBy old id × SpecificationVanishes old

-- Why it is refused, at this number.
abbrev pub IsUnlawful : ℕ → PacLine → AlgebraChecking → AlgebraFail → Type 0
IsUnlawful n text c answer =
    ((line : Line) × (fault : LineFault) × (line_in c.table text ≡ Some line) ×
    IsRuleFault c.extended (ledger_of c) line fault × (answer ≡ answer_of_rule n fault)) ⊎
    ((id : ℕ) × (fault : CloseFault) × (text ≡ pac.Close id) × IsCloseFault c.extended c.sides (ledger_of c) id fault × (answer ≡ answer_of_close n fault))

-- ---- what stands there

-- of a file of which these bytes are left, those that some bytes begin a line that is too long
abbrev pub IsLongIn : Lines → List ℕ → List ℕ → Type 0
IsLongIn lines left = IsTooLong lines.lengths (lines.taken + length left)

-- A lawful line stands there, and the ledger next is the one after it.
pub record TakesLawful (t : AlgebraTask) (l next : Ledger) (old new : Lines) (left : List ℕ) (behind : Option (List ℕ)) : Type 0 where
  pub line : Line
  pub takes : TakesText (IsLineText t.premises.version) old new left behind line
  pub in_range : IsLineInRange t.premises.extended.max line
  pub lawful : IsLawfulLine (modulus t.premises.extended) l line
  pub ledger : LedgersAgree next (after (modulus t.premises.extended) l line)

-- A closing line stands there, which closes.
pub record TakesClosing (t : AlgebraTask) (l : Ledger) (old new : Lines) (left : List ℕ) (behind : Option (List ℕ)) : Type 0 where
  pub id : ℕ
  pub takes : TakesText IsCloseText old new left behind id
  pub in_range : IsId id
  pub closes : Closes t.premises.extended t.sides l.live id

-- What a line was. That the specification vanishes is known whether or not the desk tells the file.
abbrev pub Turns : AlgebraTask → Ledger → Ledger → Lines → Lines → Option (List ℕ) → Option (List ℕ) → Turn → Type 0
Turns t l next old new left behind turn.Taken = IfSome left (λ bytes. TakesLawful t l next old new bytes behind)
Turns t l next old new left behind (turn.Closed id) = IfSome left (λ bytes. TakesClosing t l old new bytes behind) × Vanishes t

-- The first refusal of what is left, which begins at the line with this number.
pub record IsRefusedAt (n : ℕ) (t : AlgebraTask) (IsLong : List ℕ → Type 0) (l : Ledger) (left : List ℕ) (p : ℕ × AlgebraCause) : Type 0 where
  pub line : p.0 ≡ n
  pub next : IsRefusedNext t.premises.version t.premises.extended t.sides IsLong l left (0, p.1)

-- Why the line with this number isn't taken.
abbrev pub IsLineFail : ℕ → AlgebraTask → Ledger → Lines → Option (List ℕ) → View → View → AlgebraFail → Type 0
IsLineFail n t l lines left = IsFailOf left (λ bytes. IsRefusedAt n t (IsLongIn lines bytes) l bytes)

-- Why the file doesn't end before the line with this number.
abbrev pub IsEndFail : ℕ → Lines → Option (List ℕ) → View → View → AlgebraFail → Type 0
IsEndFail n lines left = IsFailOf left (λ bytes p. (p.0 ≡ n) × IsRefusedEnd (IsLongIn lines bytes) bytes (1, p.1))
