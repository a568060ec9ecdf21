-- Lines of a file that is read by pieces, and the lengths that they may have.
use Rattle.std.specs.Prelude.{◌≡◌, ◌≢◌, ◌+◌, ◌<◌, ◌≤◌, ℕ, List, [], ◌∷◌, ◌++◌, length, IfSome}
use Rattle.std.specs.Io.KnownBytes.{Consumes, prepend_known}
use Rattle.std.specs.List.{All}
use Rattle.std.specs.declared.option.Option.{Option}
use Rattle.mv_desk.specs.View.{Rose}
use Rattle.mv_desk.specs.declared.limits.Limits.{Limits}
use Rattle.mv_text.specs.declared.line_fail.LineFail.{LineFail}
use Rattle.mv_text.specs.declared.line_fail.LineFail.TheVariants as fail
use Rattle.graph_core.specs.Text.{newline}
use Rattle.graph_core.specs.Text.JudgedLines.{Lengths, IsTooLong}
use Rattle.mv_text.specs.declared.room.TheConstants.{ROOM}

-- the bytes ahead, and then what is left after them, where that is told
abbrev pub known_from : List ℕ → Option (List ℕ) → Option (List ℕ)
known_from ahead left = prepend_known ahead left

-- the lengths that limits set for a certificate
abbrev pub lengths_of : Limits → Lengths
lengths_of limits = record { file = limits.certificate; line = limits.line }

-- What a reader of lines has: the bytes of the piece in hand, how many bytes it took before them, and the lengths that a file and
-- its lines may have.
pub record Lines : Type 0 where
  pub ahead : List ℕ
  pub taken : ℕ
  pub lengths : Lengths

-- Past what was taken, fewer bytes than a piece have been read.
abbrev pub FitsPiece : Lines → Type 0
FitsPiece lines = length lines.ahead < ROOM

-- Of a file of which this reader took bytes, this is left: the line there is too long, or holds the first byte past the limit.
abbrev pub IsLongAhead : Lines → List ℕ → Type 0
IsLongAhead lines left = IsTooLong lines.lengths (lines.taken + length left) left

-- A line of at most the lengths that are allowed, and its line feed, were taken.
pub record TakesLine (old new : Lines) (before after : Option (List ℕ)) (line : List ℕ) : Type 0 where
  pub no_end : All (λ b. b ≢ newline) line
  pub short : length line ≤ old.lengths.line
  pub within : old.taken + length line + 1 ≤ old.lengths.file
  pub taken : new.taken ≡ old.taken + length line + 1
  pub lengths : new.lengths ≡ old.lengths
  pub bytes : Consumes before after (line ++ newline ∷ [])

-- The file ends after these bytes, which have no line feed and aren't too long.
pub record EndsIn (lines : Lines) (bytes : List ℕ) : Type 0 where
  pub no_end : All (λ b. b ≢ newline) bytes
  pub short : length bytes ≤ lines.lengths.line
  pub within : lines.taken + length bytes ≤ lines.lengths.file

-- Why the next byte isn't given: a read failed, or it is the first one past the file's limit.
abbrev pub IsByteFault : Lines → Option (List ℕ) → ℕ → ℕ → LineFail → Type 0
IsByteFault lines left before now fail.Text = ⊥
IsByteFault lines left before now fail.Range = ⊥
IsByteFault lines left before now fail.Fault = Rose before now
IsByteFault lines left before now fail.TooLong = (lines.taken ≡ lines.lengths.file) × IfSome left (λ bytes. bytes ≢ [])
IsByteFault lines left before now fail.Memory = ⊥

-- Why there is no line: the file ends within it, it is too long, a read failed, or out of memory.
abbrev pub IsLineFault : Lines → Option (List ℕ) → ℕ → ℕ → LineFail → Type 0
IsLineFault lines left before now fail.Text = IfSome left (λ bytes. (bytes ≢ []) × EndsIn lines bytes)
IsLineFault lines left before now fail.Range = ⊥
IsLineFault lines left before now fail.Fault = Rose before now
IsLineFault lines left before now fail.TooLong = IfSome left (IsLongAhead lines)
IsLineFault lines left before now fail.Memory = Unit {0}

-- Bytes of the piece in hand that are no line feeds were put after those of a line, which may have as many.
pub record TakesPlain (old new : Lines) (line longer : List ℕ) : Type 0 where
  pub part : List ℕ
  pub no_end : All (λ b. b ≢ newline) part
  pub ahead : old.ahead ≡ part ++ new.ahead
  pub items : longer ≡ line ++ part
  pub short : length longer ≤ new.lengths.line
  pub taken : new.taken ≡ old.taken + length part
  pub lengths : new.lengths ≡ old.lengths
