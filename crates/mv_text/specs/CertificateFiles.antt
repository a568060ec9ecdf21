-- A certificate that is read line by line, over any grammar: what its lines say (`IsText`), and which of them are in range.
use Rattle.std.specs.Prelude.{◌≡◌, ◌≢◌, ◌+◌, ◌<◌, ◌≤◌, ◌^◌, ◌⊎◌, ℕ, Bool, true, false, List, [], ◌++◌, length, Result, Ok, Err, IfErr, IfNone, IfOk, IfSome, OnErr, OnOk}
use Rattle.std.specs.Global.{Global}
use Rattle.std.specs.Result.{result_err}
use Rattle.std.specs.declared.vec.Vec.{Vec}
use Rattle.std.specs.declared.option.Option.{Option}
use Rattle.std.specs.declared.option.Option.TheVariants.{None, Some}
use Rattle.graph_core.specs.Text.JudgedLines.{BeginsWith, IsTooLong, Lengths}
use Rattle.mv_desk.specs.View.{Rose, View}
use Rattle.mv_desk.specs.declared.slot.Slot.{Slot}
use Rattle.mv_desk.specs.declared.limits.Limits.{Limits}
use Rattle.mv_text.specs.declared.line_fail.LineFail.{LineFail}
use Rattle.mv_text.specs.declared.line_fail.LineFail.TheVariants as fail
use Rattle.mv_text.specs.LineReading.{EndsIn, FitsPiece, IsLineFault, IsLongAhead, Lines, TakesLine, known_from, lengths_of}

-- A file: its version, its lines, how many of them were read or refused, whether its end was met, and the answer that it gives from its
-- first failure on.
pub record FileState : Type 0 where
  pub version : ℕ
  pub lines : Lines
  pub number : ℕ
  pub ended : Bool
  pub failed : Option LineFail

-- the end wasn't met, and nothing failed
pub record GoesOn (file : FileState) : Type 0 where
  pub ended : file.ended ≡ false
  pub failed : file.failed ≡ None

-- what is left of the file in a slot, where the desk tells it
abbrev pub left_of_file : Slot → FileState → View → Option (List ℕ)
left_of_file slot file view = known_from file.lines.ahead (view.left slot)

-- ---- the text of one line

-- Why a text says nothing: none has it, or one out of range does; or out of memory.
abbrev pub SaysNothing : {X : Type 0} → (List ℕ → X → Type 0) → (X → Type 0) → List ℕ → LineFail → Type 0
SaysNothing {X} IsText InRange bytes fail.Text = (x : X) → IsText bytes x → ⊥
SaysNothing {X} IsText InRange bytes fail.Range = (x : X) × IsText bytes x × ¬ (InRange x)
SaysNothing IsText InRange bytes fail.Fault = ⊥
SaysNothing IsText InRange bytes fail.TooLong = ⊥
SaysNothing IsText InRange bytes fail.Memory = Unit {0}

-- ---- one line of what is left

-- What is left begins with a line of the text, which isn't too long, and these bytes are after it.
pub record TakesText {X : Type 0} (IsText : List ℕ → X → Type 0) (old new : Lines) (left : List ℕ) (after : Option (List ℕ)) (x : X) : Type 0 where
  pub rest : List ℕ
  pub begins : BeginsWith IsText left x rest
  pub short : ¬ (IsLongAhead old left)
  pub left_is : after ≡ Some rest
  pub taken : new.taken + length rest ≡ old.taken + length left

-- no line of the text stands there
abbrev pub BeginsWithNone : {X : Type 0} → (List ℕ → X → Type 0) → List ℕ → Type 0
BeginsWithNone {X} IsText left = (x : X) (rest : List ℕ) → BeginsWith IsText left x rest → ⊥

-- a line of the text stands there, and is out of range
abbrev pub BeginsOutOfRange : {X : Type 0} → (List ℕ → X → Type 0) → (X → Type 0) → List ℕ → Type 0
BeginsOutOfRange {X} IsText InRange left = (x : X) × (rest : List ℕ) × BeginsWith IsText left x rest × ¬ (InRange x)

-- Why a line that has to be there isn't given, by what is left: it is too long, no line of the text stands there, one out of range
-- does, a read failed, or out of memory.
abbrev pub IsLineRefusal : {X : Type 0} → (List ℕ → X → Type 0) → (X → Type 0) → Lines → Option (List ℕ) → ℕ → ℕ → LineFail → Type 0
IsLineRefusal IsText InRange lines left before now fail.Text = IfSome left (λ bytes. ¬ (IsLongAhead lines bytes) × BeginsWithNone IsText bytes)
IsLineRefusal IsText InRange lines left before now fail.Range = IfSome left (λ bytes. ¬ (IsLongAhead lines bytes) × BeginsOutOfRange IsText InRange bytes)
IsLineRefusal IsText InRange lines left before now fail.Fault = Rose before now
IsLineRefusal IsText InRange lines left before now fail.TooLong = IfSome left (IsLongAhead lines)
IsLineRefusal IsText InRange lines left before now fail.Memory = Unit {0}

-- The same of a line that needn't be there: something is left where its text is refused.
abbrev pub IsNextRefusal : {X : Type 0} → (List ℕ → X → Type 0) → (X → Type 0) → Lines → Option (List ℕ) → ℕ → ℕ → LineFail → Type 0
IsNextRefusal IsText InRange lines left before now fail.Text = IfSome left (λ bytes. ¬ (IsLongAhead lines bytes) × (bytes ≢ []) × BeginsWithNone IsText bytes)
IsNextRefusal IsText InRange lines left before now fail.Range = IfSome left (λ bytes. ¬ (IsLongAhead lines bytes) × BeginsOutOfRange IsText InRange bytes)
IsNextRefusal IsText InRange lines left before now fail.Fault = Rose before now
IsNextRefusal IsText InRange lines left before now fail.TooLong = IfSome left (IsLongAhead lines)
IsNextRefusal IsText InRange lines left before now fail.Memory = Unit {0}

-- Why a line that has to be there isn't had: the file ends before its line feed, it is too long, a read failed, or out of memory.
abbrev pub IsNeededFault : Lines → Option (List ℕ) → ℕ → ℕ → LineFail → Type 0
IsNeededFault lines left before now fail.Text = IfSome left (EndsIn lines)
IsNeededFault lines left before now fail.Range = ⊥
IsNeededFault lines left before now fail.Fault = Rose before now
IsNeededFault lines left before now fail.TooLong = IfSome left (IsLongAhead lines)
IsNeededFault lines left before now fail.Memory = Unit {0}

-- ---- the end

-- Nothing is left, and the file isn't too long.
pub record IsAtEnd (lines : Lines) (left : List ℕ) : Type 0 where
  pub none : left ≡ []
  pub short : ¬ (IsLongAhead lines left)

-- Why this isn't the end of the file: a line is left that is too long, or any other byte, a read failed, or out of memory.
abbrev pub IsEndRefusal : Lines → Option (List ℕ) → ℕ → ℕ → LineFail → Type 0
IsEndRefusal lines left before now fail.Text = IfSome left (λ bytes. ¬ (IsLongAhead lines bytes) × (bytes ≢ []))
IsEndRefusal lines left before now fail.Range = ⊥
IsEndRefusal lines left before now fail.Fault = Rose before now
IsEndRefusal lines left before now fail.TooLong = IfSome left (IsLongAhead lines)
IsEndRefusal lines left before now fail.Memory = Unit {0}

-- ---- a first line that is fixed, here with its line feed

-- A file begins with it, it isn't too long, and these bytes are left after it.
pub record HasFirstLine (first : List ℕ) (new : Lines) (bytes : List ℕ) (after : Option (List ℕ)) : Type 0 where
  pub body : List ℕ
  pub begins : bytes ≡ first ++ body
  pub short : ¬ (IsTooLong new.lengths (length bytes) bytes)
  pub left : after ≡ Some body
  pub taken : new.taken + length body ≡ length bytes

-- Why a file doesn't begin with it: the line there is too long, or it is another one or has no line feed, a read failed, or memory
-- ran out.
abbrev pub IsFirstRefusal : List ℕ → Lengths → Option (List ℕ) → ℕ → ℕ → LineFail → Type 0
IsFirstRefusal first lengths left before now fail.Text =
    IfSome left (λ bytes. ¬ (IsTooLong lengths (length bytes) bytes) × ((body : List ℕ) → bytes ≢ first ++ body))
IsFirstRefusal first lengths left before now fail.Range = ⊥
IsFirstRefusal first lengths left before now fail.Fault = Rose before now
IsFirstRefusal first lengths left before now fail.TooLong = IfSome left (λ bytes. IsTooLong lengths (length bytes) bytes)
IsFirstRefusal first lengths left before now fail.Memory = Unit {0}

-- It begins with the first line of version 1, with that of version 2, or with that of version 3; and why with none of them.
abbrev pub HasAnyFirst : List ℕ → List ℕ → List ℕ → FileState → List ℕ → Option (List ℕ) → Type 0
HasAnyFirst one two three file bytes after =
    ((file.version ≡ 1) × HasFirstLine one file.lines bytes after) ⊎ ((file.version ≡ 2) × HasFirstLine two file.lines bytes after) ⊎
    ((file.version ≡ 3) × HasFirstLine three file.lines bytes after)

abbrev pub IsAnyRefusal : List ℕ → List ℕ → List ℕ → Lengths → Option (List ℕ) → ℕ → ℕ → LineFail → Type 0
IsAnyRefusal one two three lengths left before now why =
    IsFirstRefusal one lengths left before now why × IsFirstRefusal two lengths left before now why × IsFirstRefusal three lengths left before now why

-- ---- what is kept

-- While the file goes on, more bytes were taken than lines were read; so lines can be counted.
pub record IsCounted (file : FileState) : Type 0 where
  pub piece : FitsPiece file.lines
  pub small : file.lines.lengths.file < 2 ^ 64
  pub within : GoesOn file → file.lines.taken ≤ file.lines.lengths.file
  pub counted : GoesOn file → file.number < file.lines.taken
  pub few : file.failed ≡ None → file.number < file.lines.lengths.file

-- What an answer leaves of a file: its version and its lengths, the failure that is answered, and less than a piece that is read ahead.
pub record KeepsFile {X : Type 0} (old new : FileState) (result : Result X LineFail) : Type 0 where
  pub version : new.version ≡ old.version
  pub lengths : new.lines.lengths ≡ old.lines.lengths
  pub failed : new.failed ≡ result_err result
  pub piece : FitsPiece new.lines

-- the same file, which gives this answer from now on
abbrev pub settled : FileState → Option LineFail → FileState
settled file failed = record { version = file.version; lines = file.lines; number = file.number; ended = file.ended; failed = failed }

-- A file of a version whose header of so many lines was read.
pub record IsStarted (version number : ℕ) (limits : Limits) (file : FileState) : Type 0 where
  pub version_is : file.version ≡ version
  pub number_is : file.number ≡ number
  pub lengths : file.lines.lengths ≡ lengths_of limits
  pub piece : FitsPiece file.lines
  pub goes_on : GoesOn file

-- After its first failure a file answers the same again, and after its end that it ends; so it stays as it is.
pub record AnswersAgain {X : Type 0} (end : Result X LineFail) (old new : FileState) (result : Result X LineFail) : Type 0 where
  pub failed : IfSome old.failed (λ fail. (result ≡ Err fail) × (new ≡ old))
  pub ended : old.failed ≡ None → old.ended ≡ true → (result ≡ end) × OnOk end (new ≡ old)

-- ---- the answers of a file that goes on, in a slot of a desk that is seen before and now

-- how many lines an answer is of, and whether it is the end
abbrev pub lines_of_file : {X : Type 0} → Result (Option X) LineFail → ℕ
lines_of_file (Ok None) = 0
lines_of_file (Ok (Some x)) = 1
lines_of_file (Err fail) = 1

abbrev pub is_end : {X : Type 0} → Result (Option X) LineFail → Bool
is_end (Ok None) = true
is_end (Ok (Some x)) = false
is_end (Err fail) = false

-- the next line as it stands there, or none at the end of the file
pub record GivesLine (slot : Slot) (old new : FileState) (before now : View) (result : Result (Option (Vec ℕ Global)) LineFail) : Type 0 where
  pub line : IfOk result (λ r. IfSome r (λ line. TakesLine old.lines new.lines (left_of_file slot old before) (left_of_file slot new now) line.items))
  pub end : IfOk result (λ r. IfNone r (IfSome (left_of_file slot old before) (λ bytes. (bytes ≡ []) × EndsIn old.lines bytes)))
  pub fault : IfErr result (IsLineFault old.lines (left_of_file slot old before) before.read_faults now.read_faults)
  pub number : new.number ≡ old.number + lines_of_file result
  pub ended : new.ended ≡ is_end result

-- the same of a line that has to be there
pub record GivesNeeded (slot : Slot) (old new : FileState) (before now : View) (result : Result (Vec ℕ Global) LineFail) : Type 0 where
  pub line : IfOk result (λ line. TakesLine old.lines new.lines (left_of_file slot old before) (left_of_file slot new now) line.items)
  pub fault : IfErr result (IsNeededFault old.lines (left_of_file slot old before) before.read_faults now.read_faults)
  pub number : new.number ≡ old.number + 1
  pub ended : OnOk result (new.ended ≡ false)

-- the end
pub record GivesEnd (slot : Slot) (old new : FileState) (before now : View) (result : Result (Unit {0}) LineFail) : Type 0 where
  pub end : OnOk result (IfSome (left_of_file slot old before) (IsAtEnd old.lines))
  pub refused : IfErr result (IsEndRefusal old.lines (left_of_file slot old before) before.read_faults now.read_faults)
  pub number : OnErr result (new.number ≡ old.number + 1)

-- What the next line says in a grammar, `IsSaid` of what code has of it; or the end of the file.
pub record ReadsLine {X Y : Type 0} (IsText : List ℕ → X → Type 0) (InRange : X → Type 0) (IsSaid : List ℕ → Y → Type 0) (slot : Slot) (old new : FileState)
    (before now : View) (result : Result (Option Y) LineFail) : Type 0 where
  pub text : IfOk result (λ r. IfSome r (λ y. (text : List ℕ) × IsSaid text y))
  pub line : IfOk result (λ r. IfSome r (λ y. IfSome (left_of_file slot old before)
      (λ left. TakesText IsSaid old.lines new.lines left (left_of_file slot new now) y)))
  pub end : IfOk result (λ r. IfNone r (IfSome (left_of_file slot old before) (IsAtEnd old.lines)))
  pub refused : IfErr result (IsNextRefusal IsText InRange old.lines (left_of_file slot old before) before.read_faults now.read_faults)
  pub number : new.number ≡ old.number + lines_of_file result
  pub ended : new.ended ≡ is_end result

-- the same of a line that has to be there
pub record ReadsNeeded {X Y : Type 0} (IsText : List ℕ → X → Type 0) (InRange : X → Type 0) (IsSaid : List ℕ → Y → Type 0) (slot : Slot) (old new : FileState)
    (before now : View) (result : Result Y LineFail) : Type 0 where
  pub text : IfOk result (λ y. (text : List ℕ) × IsSaid text y)
  pub line : IfOk result (λ y. IfSome (left_of_file slot old before) (λ left. TakesText IsSaid old.lines new.lines left (left_of_file slot new now) y))
  pub refused : IfErr result (IsLineRefusal IsText InRange old.lines (left_of_file slot old before) before.read_faults now.read_faults)
  pub number : new.number ≡ old.number + 1
  pub ended : OnOk result (new.ended ≡ false)
