-- What the reading of a whole certificate does to what a desk tells. Private clauses alone cite it.
use Rattle.std.specs.Prelude.{◌≢◌, List, ℕ}
use Rattle.command_core.specs.Files.{NameIsTold}
use Rattle.mv_desk.specs.Calls.{Inspects}
use Rattle.mv_desk.specs.View.{KeepsTelling, OpensFiles, SlotStays, View}
use Rattle.mv_desk.specs.declared.slot.Slot.{Slot}

-- One file of this name was opened in the slot, or failed to open, and read; no other slot and no file changed.
pub record ReadsCertificate (at : Slot) (name : List ℕ) (before after : View) : Type 0 where
  pub others : (other : Slot) → other ≢ at → SlotStays other before after
  pub named : NameIsTold at name before after
  pub opened : OpensFiles 1 before after
  pub inspects : Inspects before after
  pub tells : KeepsTelling before after
