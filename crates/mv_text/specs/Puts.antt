-- Pieces of a text that wait, and are written when there are enough of them.
use Rattle.std.specs.Prelude.{◌≡◌, ℕ, List, ◌++◌, OnOk, OnErr, Result}
use Rattle.mv_desk.specs.View.{View, KeepsTelling}
use Rattle.mv_desk.specs.Calls.{HasWriteCause, Writes, WritesPart, WritesTo}
use Rattle.mv_desk.specs.declared.faults.WriteFault.{WriteFault}
use Rattle.mv_desk.specs.declared.slot.Slot.{Slot}

-- An output: where it writes, what waits, and whether a write failed.
pub record Pending : Type 0 where
  pub slot : Slot
  pub waits : List ℕ
  pub result : Result (Unit {0}) WriteFault

-- Of a text a front part was written, and the others wait.
pub record IsInPart (slot : Slot) (text waits : List ℕ) (start now : View) : Type 0 where
  pub part : List ℕ
  pub all : text ≡ part ++ waits
  pub writes : WritesTo slot part start now

-- A text was put since the start; or a write failed, after a front part of it.
pub record HasPut (text : List ℕ) (output : Pending) (start now : View) : Type 0 where
  pub whole : OnOk output.result (IsInPart output.slot text output.waits start now)
  pub part : OnErr output.result (WritesPart output.slot text start now)
  pub cause : HasWriteCause start now output.result
  pub tells : KeepsTelling start now

-- A text was put after each one that was put before, for the same slot.
pub record Puts (text : List ℕ) (old new : Pending) (before now : View) : Type 0 where
  pub slot : new.slot ≡ old.slot
  pub puts : (done : List ℕ) (start : View) → HasPut done old start before → HasPut (done ++ text) new start now

-- What waits was written after what was put before.
pub record Flushes (old : Pending) (result : Result (Unit {0}) WriteFault) (before now : View) : Type 0 where
  pub flushes : (done : List ℕ) (start : View) → HasPut done old start before → Writes old.slot done start now result
