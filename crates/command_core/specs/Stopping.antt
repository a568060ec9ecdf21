-- Why a call on files has no answer of its own, and where each such stop comes.
use Rattle.std.specs.Prelude.{◌≡◌, ◌⊎◌, ℕ, List, IfSome, ⊤}
use Rattle.std.specs.declared.option.Option.{Option}
use Rattle.graph_core.specs.declared.profile.Profile.{Profile}
use Rattle.mv_desk.specs.View.{View, OpensAtMost, OpensFiles, Rose}
use Rattle.mv_desk.specs.declared.slot.Slot.{Slot}
use Rattle.aiger_reader.specs.declared.fail.ReadFail.{ReadFail}
use Rattle.aiger_reader.specs.declared.fail.ReadFail.TheVariants as fail
use Rattle.command_core.specs.declared.stop.Stop.{Stop}
use Rattle.command_core.specs.declared.stop.Stop.TheVariants as stop
use Rattle.aiger_reader.specs.Refusals.{IsGraphRefusal, IsGraphTooLong}

-- no graph was read in this slot
abbrev pub stop_of_read : Slot → ReadFail → Stop
stop_of_read at (fail.Text p) = stop.Graph at (fail.Text p)
stop_of_read at (fail.Header f) = stop.Graph at (fail.Header f)
stop_of_read at (fail.Graph f) = stop.Graph at (fail.Graph f)
stop_of_read at fail.Fault = stop.ReadFault
stop_of_read at fail.TooLong = stop.TooLong at
stop_of_read at fail.Memory = stop.Memory

-- ---- what is due to files

-- the file of this slot, or a line of it, is too long, of which something holds
abbrev pub IsLong : Slot → Type 0 → Stop → Type 0
IsLong at P (stop.TooLong slot) = (slot ≡ at) × P
IsLong at P _ = ⊥

-- The file of this slot spells no graph of the profile within the limit, where it is told: it is refused, or too long.
abbrev pub IsGraphStop : Slot → Profile → ℕ → Option (List ℕ) → Stop → Type 0
IsGraphStop at profile limit file (stop.Graph slot why) = (slot ≡ at) × IfSome file (λ bytes. IsGraphRefusal profile limit bytes why)
IsGraphStop at profile limit file why = IsLong at (IfSome file (IsGraphTooLong profile limit)) why

-- the file of this slot has the cause
abbrev pub IsAbout : Slot → Stop → Type 0
IsAbout at (stop.Graph slot why) = slot ≡ at
IsAbout at (stop.TooLong slot) = slot ≡ at
IsAbout at _ = ⊥

-- ---- where each comes

-- In place of what is due: a fault where it was counted, and out of memory at any time.
abbrev pub Interrupts : View → View → Stop → Type 0
Interrupts before now stop.ReadFault = Rose before.read_faults now.read_faults
Interrupts before now stop.WriteFault = Rose before.write_faults now.write_faults
Interrupts before now stop.Memory = ⊤
Interrupts before now _ = ⊥

-- Of a call that only reads: what is due to its files, or what interrupts. No write fault comes.
abbrev pub IsStop : (Stop → Type 0) → View → View → Stop → Type 0
IsStop Due before now (stop.Graph at why) = Due (stop.Graph at why)
IsStop Due before now (stop.TooLong at) = Due (stop.TooLong at)
IsStop Due before now stop.WriteFault = ⊥
IsStop Due before now why = Interrupts before now why

-- The answer that is due is given, or in its place a stop that interrupts.
abbrev pub GivesDue : {A : Type 0} → (Stop → A) → View → View → A → A → Type 0
GivesDue stopped before now due given = (given ≡ due) ⊎ ((why : Stop) × (given ≡ stopped why) × Interrupts before now why)

-- How many files were opened, where files are opened in an order, up to the one that has the cause; a file is written once all are read.
-- Where a read failed or memory was wanted, at most all.
abbrev pub OpensUpTo : (Slot → ℕ) → ℕ → Stop → View → View → Type 0
OpensUpTo place all (stop.Graph at why) before now = OpensFiles (place at) before now
OpensUpTo place all (stop.TooLong at) before now = OpensFiles (place at) before now
OpensUpTo place all stop.WriteFault before now = OpensFiles all before now
OpensUpTo place all _ before now = OpensAtMost all before now
