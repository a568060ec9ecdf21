-- What stands after the header of an algebra file: when it is lawful, and its first refusal.
use Rattle.std.specs.Prelude.{◌≡◌, ◌+◌, ◌*◌, ◌<◌, ◌≤◌, ◌^◌, ℕ, List, [], length, IfSome, Err, Ok, Result}
use Rattle.std.specs.List.{All}
use Rattle.std.specs.declared.option.Option.{Option}
use Rattle.std.specs.declared.option.Option.TheVariants.{Some}
use Rattle.algebra_core.specs.AlgebraLines.{Line, Ledger, AreLawfulLines, Closes, after_all, beginning}
use Rattle.algebra_core.specs.Agreement.{LedgersAgree}
use Rattle.algebra_core.specs.Refusal.{AlgebraCause, IsAlgebraStep, IsRefusedBody, IsRefusedNext}
use Rattle.algebra_core.specs.Text.{AreLineTexts, IsCloseText, IsId, IsLineInRange, IsLineText}
use Rattle.graph_core.specs.Graph.Extended.{modulus}
use Rattle.graph_core.specs.Text.JudgedLines.{BeginsWith, Behind, IsLineStart}
use Rattle.mv_desk.specs.View.{View}
use Rattle.mv_desk.specs.declared.slot.Slot.TheVariants as slot
use Rattle.mv_text.specs.CertificateFiles.{FileState, GoesOn, left_of_file}
use Rattle.mv_text.specs.LineReading.{Lines}
use Rattle.pac_checker.specs.Checking.{AlgebraChecking, checker_premises, ledger_of}
use Rattle.algebra_judge.specs.AlgebraLines.{AlgebraTask, IsLongIn, Vanishes, task_of}
use Rattle.algebra_judge.specs.Fails.{IsFailOf}
use Rattle.algebra_judge.specs.Records.{ClosesAt, IsRecordedBody, IsRecordedTo}
use Rattle.algebra_judge.specs.declared.fail.AlgebraFail.{AlgebraFail}
use Rattle.algebra_judge.specs.declared.judging.Closing.{Closing}

-- Lawful lines over the ledger, a closing line, and nothing after it. No line is too long.
pub record IsLawfulRest (t : AlgebraTask) (IsLong : List ℕ → Type 0) (l : Ledger) (left : List ℕ) : Type 0 where
  pub lines : List Line
  pub closing : ℕ
  pub last : List ℕ
  pub texts : AreLineTexts t.premises.version left lines last
  pub close : BeginsWith IsCloseText last closing []
  pub in_range : All (IsLineInRange t.premises.extended.max) lines
  pub closing_in_range : IsId closing
  pub lawful : AreLawfulLines (modulus t.premises.extended) l lines
  pub closes : Closes t.premises.extended t.sides (after_all (modulus t.premises.extended) l lines).live closing
  pub short : (more : List ℕ) → IsLineStart left more → ¬ (IsLong more)
  pub ends : IsLineStart left []

-- the lines after the header, over the first ledger, where this reader has them before it
abbrev pub IsLawfulBody : AlgebraTask → Lines → List ℕ → Type 0
IsLawfulBody t lines body = IsLawfulRest t (IsLongIn lines body) (beginning t.premises) body

-- Why they aren't lawful.
abbrev pub IsBodyFail : AlgebraTask → Lines → Option (List ℕ) → View → View → AlgebraFail → Type 0
IsBodyFail t lines left = IsFailOf left (λ body. IsRefusedBody t.premises t.sides (IsLongIn lines body) body)

-- The header of a file was read, and a checker has taken no line.
pub record HasBegun (k : AlgebraChecking) (file : FileState) : Type 0 where
  pub going : GoesOn file
  pub limit : file.lines.lengths.file < 2 ^ 64
  pub few : length k.extended.graph.outputs ≤ 128
  pub axioms : LedgersAgree (ledger_of k) (beginning (checker_premises file.version k))
  pub none : k.recorded ≡ []

-- ---- how far the lines are judged. Private clauses alone cite what follows.

-- The first refusal after lawful lines over the ledger: how many lines there are before it, and its cause.
abbrev pub IsRefusedRest : AlgebraTask → (List ℕ → Type 0) → Ledger → List ℕ → ℕ × AlgebraCause → Type 0
IsRefusedRest t IsLong l left p =
    (lines : List Line) × (q : ℕ × AlgebraCause) ×
    Behind (IsLineText t.premises.version) (IsAlgebraStep t.premises.extended) IsLong
    (λ l left. IsRefusedNext t.premises.version t.premises.extended t.sides IsLong l left q) lines l left ×
    (p ≡ (length lines + q.0, q.1))

-- So many lines of the body are judged, the first having the number 2: the checker's ledger is theirs, and what is shown of the rest
-- holds of the body.
pub record IsLedgerReached (t : AlgebraTask) (start : Lines) (known : Ledger) (turn : ℕ) (lines : Lines) (left : Option (List ℕ))
    (body : List ℕ) : Type 0 where
  pub rest : List ℕ
  pub left_is : left ≡ Some rest
  pub count : lines.taken + length rest ≡ start.taken + length body
  -- a line has at least one byte and its line feed
  pub turns : 2 * turn + start.taken ≤ lines.taken
  pub room : 0 < turn → lines.taken ≤ start.lengths.file
  pub ledger : Ledger
  pub agrees : LedgersAgree known ledger
  pub lawful : IsLawfulRest t (IsLongIn start body) ledger rest → IsLawfulBody t start body
  pub refused : (k : ℕ) (cause : AlgebraCause) → IsRefusedRest t (IsLongIn start body) ledger rest (k, cause) →
      IsRefusedBody t.premises t.sides (IsLongIn start body) body (2 + turn + k, cause)

-- since a checker and a file stood after a header so many lines were judged
pub record HasJudgedAlgebra (start : AlgebraChecking) (begun : FileState) (first : View) (count : ℕ) (k : AlgebraChecking)
    (file : FileState) (now : View) : Type 0 where
  pub going : GoesOn file
  pub limit : begun.lines.lengths.file < 2 ^ 64
  pub few : length k.extended.graph.outputs ≤ 128
  pub lengths : file.lines.lengths ≡ begun.lines.lengths
  pub task : task_of file.version k ≡ task_of begun.version start
  pub reached : IfSome (left_of_file slot.Algebra begun first)
      (IsLedgerReached (task_of begun.version start) begun.lines (ledger_of k) count file.lines (left_of_file slot.Algebra file now))
  pub recorded : IfSome (left_of_file slot.Algebra begun first)
      (IsRecordedTo (task_of begun.version start) k.recorded count (left_of_file slot.Algebra file now))

-- they are lawful up to the closing line and the end of the file
pub record HaveClosed (start : AlgebraChecking) (begun : FileState) (first : View) (closing : Closing) (k : AlgebraChecking) : Type 0 where
  pub lawful : IfSome (left_of_file slot.Algebra begun first) (IsLawfulBody (task_of begun.version start) begun.lines)
  pub vanishes : Vanishes (task_of begun.version start)
  pub recorded : IfSome (left_of_file slot.Algebra begun first) (IsRecordedBody (task_of begun.version start) k.recorded closing.id closing.lines)
  pub closes : ClosesAt (task_of begun.version start) k.recorded closing.id
  pub extended : k.extended ≡ start.extended

abbrev pub IsAlgebraJudged : AlgebraChecking → FileState → View → Result Closing AlgebraFail → AlgebraChecking → View → Type 0
IsAlgebraJudged start begun first (Ok closing) k now = HaveClosed start begun first closing k
IsAlgebraJudged start begun first (Err answer) k now =
    IsBodyFail (task_of begun.version start) begun.lines (left_of_file slot.Algebra begun first) first now answer
