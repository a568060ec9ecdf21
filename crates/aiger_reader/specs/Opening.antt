-- What a call does that opens one file and reads it.
use Rattle.std.specs.Prelude.{◌≡◌, ◌≢◌, ◌≤◌, ℕ, List, OnOk, Result}
use Rattle.mv_desk.specs.View.{View, KeepsTelling, OpensFiles, SlotStays}
use Rattle.mv_desk.specs.declared.slot.Slot.{Slot}

-- One file was opened in this slot, or failed to open, and read; no other slot and no file changed. No read failed where there is
-- an answer.
pub record OpensOnly {T E : Type 0} (slot : Slot) (old new : View) (result : Result T E) : Type 0 where
  pub others : (other : Slot) → other ≢ slot → SlotStays other old new
  pub held : (name : List ℕ) → new.held name ≡ old.held name
  pub opened : OpensFiles 1 old new
  pub later : old.read_faults ≤ new.read_faults
  pub stands : OnOk result (new.read_faults ≡ old.read_faults)
  pub write_faults : new.write_faults ≡ old.write_faults
  pub tells : KeepsTelling old new
