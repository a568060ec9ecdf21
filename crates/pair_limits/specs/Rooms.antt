-- What is left of the limits after a text.
use Rattle.std.specs.Prelude.{◌≡◌, ℕ, ◌-◌, ◌==◌, ◌||◌, ◌&&◌, not, Bool, true, false, List, [], ◌∷◌, if◌then◌else◌}
use Rattle.graph_core.specs.Text.{newline}
use Rattle.graph_core.specs.Text.JudgedLines.{Lengths}
use Rattle.pair_limits.specs.declared.room.Room.{Room}

-- before the first byte
abbrev pub whole_room : Lengths → Room
whole_room lengths = record { file = lengths.file; line = lengths.line; most = lengths.line; over = false }

-- there is none for another byte
abbrev pub passed : Room → Room
passed r = record { file = r.file; line = r.line; most = r.most; over = true }

-- A line feed begins a line, and isn't counted as a byte of the line that it ends.
abbrev pub behind_byte : Room → ℕ → Room
behind_byte r b = if (r.file == 0) || ((r.line == 0) && not (b == newline)) then passed r else record {
  file = r.file - 1;
  line = if b == newline then r.most else r.line - 1;
  most = r.most;
  over = r.over;
}

-- after all bytes of a text
unfoldable pub behind : Room → List ℕ → Room
behind r [] = r
behind r (b ∷ bytes) = behind (behind_byte r b) bytes

-- A text is taken from a room.
pub record Takes (text : List ℕ) (old new : Room) : Type 0 where
  pub left : new ≡ behind old text

-- whether a statement holds
abbrev pub TellsWhether : Bool → Type 0 → Type 0
TellsWhether true P = P
TellsWhether false P = ¬ P
