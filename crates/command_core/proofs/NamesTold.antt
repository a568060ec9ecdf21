-- That the name of a slot is told still.
use Rattle.std.proofs.Common.{◌≡◌, List, ℕ, ◌∙◌}
use Rattle.mv_desk.specs.Calls.{Opens, ReadsOnly}
use Rattle.mv_desk.specs.View.{View, SlotStays}
use Rattle.mv_desk.specs.declared.slot.Slot.{Slot}
use Rattle.command_core.specs.Files.{NameIsTold}
use Rattle.command_core.proofs.HeldFiles.{same_told}

module _ (at : Slot) (name : List ℕ) where
  -- the file was opened there, and read
  pub opened_told : (a b c : View) → Opens at name a b → ReadsOnly at b c → NameIsTold at name a c
  opened_told a b c opens reads held told = same_told (b.name at) (c.name at) reads.mode.name (opens.named held told)

  pub told_later : (a b c : View) → NameIsTold at name a b → SlotStays at b c → NameIsTold at name a c
  told_later a b c first stays held told = same_told (b.name at) (c.name at) stays.mode.name (first held told)

  pub told_earlier : (a b c : View) → SlotStays at a b → b.held name ≡ a.held name → NameIsTold at name b c → NameIsTold at name a c
  told_earlier a b c stays same later held told = later (held.0, same ∙ held.1) (same_told (a.name at) (b.name at) stays.mode.name told)
