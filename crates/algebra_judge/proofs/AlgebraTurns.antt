-- The turns of judging an algebra file since a start: no line yet, one line more, the closing line, and each line at which it is refused.
use Rattle.std.proofs.Common.{◌≡◌, ℕ, ◌+◌, ◌≤◌, ◌^◌, List, Option, Err, IfSome, ap, refl, subst, sym, ◌∙◌, arith}
use Rattle.algebra_core.specs.AlgebraLines.{Line}
use Rattle.algebra_core.specs.Agreement.{LedgersAgree}
use Rattle.mv_desk.specs.View.{View}
use Rattle.mv_desk.specs.declared.slot.Slot.TheVariants as slot
use Rattle.mv_text.specs.CertificateFiles.{FileState, IsAtEnd, left_of_file}
use Rattle.pac_checker.specs.Checking.{AlgebraChecking, ledger_of}
use Rattle.command_core.specs.declared.stop.Stop.TheVariants as stop
use Rattle.algebra_judge.specs.AlgebraBody.{HasBegun, HasJudgedAlgebra, HaveClosed, IsAlgebraJudged, IsLedgerReached}
use Rattle.algebra_judge.specs.AlgebraLines.{AlgebraTask, IsEndFail, IsLineFail, Turns, task_of}
use Rattle.algebra_judge.specs.Records.{ClosesAt, ClosesRecord, IsRecordedTo, RecordsTurn}
use Rattle.algebra_judge.specs.declared.algebra_line.Turn.{Turn}
use Rattle.algebra_judge.specs.declared.algebra_line.Turn.TheVariants as turn
use Rattle.algebra_judge.specs.declared.fail.AlgebraFail.{AlgebraFail}
use Rattle.algebra_judge.specs.declared.fail.AlgebraFail.TheVariants as fail
use Rattle.algebra_judge.proofs.AlgebraReached as reached
use Rattle.algebra_judge.proofs.Recording.{at_end, none_recorded, one_more}

-- after the header no line is judged yet
pub begins : (k : AlgebraChecking) (file : FileState) (first : View) → HasBegun k file → HasJudgedAlgebra k file first 0 k file first
begins k file first h =
    let t = task_of file.version k in
    let left = left_of_file slot.Algebra file first in
    record {
      going = h.going;
      limit = h.limit;
      few = h.few;
      lengths = refl;
      task = refl;
      reached = reached.begin t file.lines (ledger_of k) left h.axioms;
      recorded = subst (λ (rs : List Line). IfSome left (IsRecordedTo t rs 0 left)) (sym h.none) (none_recorded t left);
    }

module _ {start k : AlgebraChecking} {begun file : FileState} {first before : View} {count : ℕ} (h : HasJudgedAlgebra start begun first count k file before) where
  abbrev t : AlgebraTask
  t = task_of begun.version start

  abbrev body : Option (List ℕ)
  body = left_of_file slot.Algebra begun first

  abbrev left : Option (List ℕ)
  left = left_of_file slot.Algebra file before

  -- a line isn't taken
  pub line_fails : (now : View) (last : AlgebraChecking) (answer : AlgebraFail) → first.read_faults ≤ before.read_faults → IsLineFail (2 + count) (task_of file.version k) (ledger_of k) file.lines left before now answer →
      IsAlgebraJudged start begun first (Err answer) last now
  line_fails now last answer later refused =
      reached.line_fails t begun.lines body (ledger_of k) count file.lines left h.lengths h.reached first before now answer later
      (subst (λ (x : AlgebraTask). IsLineFail (2 + count) x (ledger_of k) file.lines left before now answer) h.task refused)

  module _ (next : AlgebraChecking) (new : FileState) (now : View) (given : Turn) where
    abbrev behind : Option (List ℕ)
    behind = left_of_file slot.Algebra new now

    module _ (turns : Turns (task_of file.version k) (ledger_of k) (ledger_of next) file.lines new.lines left behind given)
        (records : RecordsTurn (task_of file.version k) k.recorded next.recorded left behind given) where
      turns_at : (it : Turn) → given ≡ it → Turns t (ledger_of k) (ledger_of next) file.lines new.lines left behind it
      turns_at it is = subst (Turns t (ledger_of k) (ledger_of next) file.lines new.lines left behind) is
          (subst (λ (x : AlgebraTask). Turns x (ledger_of k) (ledger_of next) file.lines new.lines left behind given) h.task turns)

      records_at : (it : Turn) → given ≡ it → RecordsTurn t k.recorded next.recorded left behind it
      records_at it is = subst (RecordsTurn t k.recorded next.recorded left behind) is (subst (λ (x : AlgebraTask). RecordsTurn x k.recorded next.recorded left behind given) h.task records)

      -- a line is taken, and then the table is made small
      pub one_more_reached : (last : AlgebraChecking) → given ≡ turn.Taken → LedgersAgree (ledger_of last) (ledger_of next) → IfSome body (IsLedgerReached t begun.lines (ledger_of last) (count + 1) new.lines behind)
      one_more_reached last is agrees =
          reached.reached_again t begun.lines (ledger_of next) (ledger_of last) (count + 1) new.lines behind body agrees
          (reached.step t begun.lines body (ledger_of k) count file.lines left h.lengths h.reached (ledger_of next) new.lines behind (turns_at turn.Taken is))

      pub one_more_recorded : (last : AlgebraChecking) → given ≡ turn.Taken → last.recorded ≡ next.recorded → IfSome body (IsRecordedTo t last.recorded (count + 1) behind)
      one_more_recorded last is same = subst (λ (rs : List Line). IfSome body (IsRecordedTo t rs (count + 1) behind)) (sym same)
          (one_more t k.recorded next.recorded count body left behind h.recorded (records_at turn.Taken is))

      -- the closing line
      module _ (id : ℕ) (is : given ≡ turn.Closed id) (keeps : new.lines.lengths ≡ file.lines.lengths) where
        closing : Turns t (ledger_of k) (ledger_of next) file.lines new.lines left behind (turn.Closed id)
        closing = turns_at (turn.Closed id) is

        pub have_closed : ClosesRecord k next given → next.extended ≡ k.extended → IfSome behind (IsAtEnd new.lines) → HaveClosed start begun first (record { id = id; lines = count }) next
        have_closed closes extended end =
            let closed : ClosesRecord k next (turn.Closed id) = subst (ClosesRecord k next) is closes in
            let recorded : RecordsTurn t k.recorded next.recorded left behind (turn.Closed id) = records_at (turn.Closed id) is in
            record {
              lawful = reached.ends t begun.lines body (ledger_of k) count file.lines left h.lengths h.reached new.lines behind keeps closing.0 end;
              vanishes = closing.1;
              recorded = at_end t k.recorded next.recorded count body left behind h.recorded id new.lines recorded.0 recorded.1 end;
              closes = subst (λ (x : AlgebraTask). ClosesAt x next.recorded id) h.task (closed.1 file.version);
              extended = extended ∙ ap (λ (x : AlgebraTask). x.premises.extended) h.task;
            }

        -- the file doesn't end after it
        pub end_fails : (then : View) (last : AlgebraChecking) (answer : AlgebraFail) → first.read_faults ≤ now.read_faults → IsEndFail (3 + count) new.lines behind now then answer → IsAlgebraJudged start begun first (Err answer) last then
        end_fails then last answer later refused =
            reached.end_fails t begun.lines body (ledger_of k) count file.lines left h.lengths h.reached new.lines behind keeps closing.0 first now then answer later refused

-- so many lines have more bytes than a file may have
pub too_many : {start k : AlgebraChecking} {begun file : FileState} {first now : View} → HasJudgedAlgebra start begun first (2 ^ 63) k file now → IsAlgebraJudged start begun first (Err (fail.Stopped (stop.TooLong slot.Algebra))) k now
too_many {start = start} {k = k} {begun = begun} {file = file} {first = first} {now = now} h = (
  refl,
  reached.too_many (task_of begun.version start) begun.lines (left_of_file slot.Algebra begun first) (ledger_of k) (2 ^ 63) file.lines (left_of_file slot.Algebra file now) h.lengths h.reached (omega arith) h.limit,
)
