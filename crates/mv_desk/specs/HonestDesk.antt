-- What an honest desk in memory tells.
use Rattle.std.specs.Prelude.{ℕ, List, Option}
use Rattle.mv_desk.specs.Files.{held_at}
use Rattle.mv_desk.specs.Memory.{out_in, rest_in, tells}
use Rattle.mv_desk.specs.View.{View}
use Rattle.mv_desk.specs.declared.slot.Slot.{Slot}
use Rattle.mv_desk.specs.declared.memory.honest_desk.HonestDesk.{HonestDesk}

-- it tells everything but the name of a slot that was opened under a name that isn't held, and no read ever failed
unfoldable pub view_of : HonestDesk → View
view_of desk = tells desk.shelf (record { opened = desk.opened; read_faults = 0; write_faults = desk.write_faults })

-- the bytes under a name, if it is held
abbrev pub held_of : HonestDesk → List ℕ → Option (List ℕ)
held_of desk name = held_at desk.shelf.0 name

-- what is still to be read from a slot
abbrev pub rest_of : HonestDesk → Slot → List ℕ
rest_of desk slot = rest_in desk.shelf slot

-- what was written to a slot
abbrev pub out_of : HonestDesk → Slot → List ℕ
out_of desk slot = out_in desk.shelf slot
