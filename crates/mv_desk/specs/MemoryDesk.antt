-- What a desk in memory tells, and when its calls fail.
use Rattle.std.specs.Prelude.{ℕ, List, Option}
use Rattle.mv_desk.specs.Files.{held_at}
use Rattle.mv_desk.specs.Memory.{out_in, rest_in, tells}
use Rattle.mv_desk.specs.Script.{Plan}
use Rattle.mv_desk.specs.View.{View}
use Rattle.mv_desk.specs.declared.slot.Slot.{Slot}
use Rattle.mv_desk.specs.declared.memory.memory_desk.MemoryDesk.{MemoryDesk}

-- it tells everything
unfoldable pub memory_view_of : MemoryDesk → View
memory_view_of desk = tells desk.shelf desk.counts

-- the bytes under a name, if it is held
abbrev pub held_in_memory : MemoryDesk → List ℕ → Option (List ℕ)
held_in_memory desk name = held_at desk.shelf.0 name

-- what is still to be read from a slot
abbrev pub rest_in_memory : MemoryDesk → Slot → List ℕ
rest_in_memory desk slot = rest_in desk.shelf slot

-- what was written to a slot
abbrev pub out_in_memory : MemoryDesk → Slot → List ℕ
out_in_memory desk slot = out_in desk.shelf slot

-- which of the next calls fail, and how the next reads and writes are cut
abbrev pub script_of : MemoryDesk → Plan
script_of desk = desk.script
