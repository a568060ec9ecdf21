-- What the real desk tells: which slots are open, and its counts.
use Rattle.std.specs.Prelude.{ℕ, Bool, true, false, List, None, Option}
use Rattle.mv_desk.specs.View.{View}
use Rattle.mv_desk.specs.declared.counts.Counts.{Counts}
use Rattle.mv_desk.specs.declared.slot.Slot.{Slot}
use Rattle.mv_desk.specs.declared.slot.Slot.TheVariants.{Graph, Other, Clauses, Algebra, Report}
use Rattle.mv_desk.specs.declared.real.channel.Channel.{Channel}
use Rattle.mv_desk.specs.declared.real.channel.Channel.TheVariants.{Closed, Standard, Reading, Writing}
use Rattle.mv_desk.specs.declared.real.channels.Channels.{Channels}

-- a file that was opened
abbrev pub is_reading : {F : Type 0} → Channel F → Bool
is_reading (Reading file) = true
is_reading Closed = false
is_reading Standard = false
is_reading (Writing file) = false

-- standard output, or a file that was created
abbrev pub is_writing : {F : Type 0} → Channel F → Bool
is_writing (Writing file) = true
is_writing Standard = true
is_writing Closed = false
is_writing (Reading file) = false

-- what is known to be still to come from a file that was opened
abbrev pub remaining_of : {F : Type 0} → (F → Option (List ℕ)) → Channel F → Option (List ℕ)
remaining_of remaining (Reading file) = remaining file
remaining_of remaining Closed = None
remaining_of remaining Standard = None
remaining_of remaining (Writing file) = None

-- what is known to stand in a file that was created
abbrev pub contents_of : {F : Type 0} → (F → Option (List ℕ)) → Channel F → Option (List ℕ)
contents_of contents (Writing file) = contents file
contents_of contents Closed = None
contents_of contents Standard = None
contents_of contents (Reading file) = None

-- the channel of a slot
abbrev pub channel_at : {F : Type 0} → Channels F → Slot → Channel F
channel_at channels Graph = channels.graph
channel_at channels Other = channels.other
channel_at channels Clauses = channels.clauses
channel_at channels Algebra = channels.algebra
channel_at channels Report = channels.report

-- the channels with this one in the slot
abbrev pub with_channel : {F : Type 0} → Channels F → Slot → Channel F → Channels F
with_channel channels Graph channel = record channels { graph = channel }
with_channel channels Other channel = record channels { other = channel }
with_channel channels Clauses channel = record channels { clauses = channel }
with_channel channels Algebra channel = record channels { algebra = channel }
with_channel channels Report channel = record channels { report = channel }

-- it tells no contents and no names
abbrev pub real_view : {F : Type 0} → Channels F → Counts → View
real_view channels counts = record {
  held = λ _. None;
  left = λ _. None;
  written = λ _. None;
  name = λ _. None;
  reads = λ slot. is_reading (channel_at channels slot);
  writes = λ slot. is_writing (channel_at channels slot);
  opened = counts.opened;
  read_faults = counts.read_faults;
  write_faults = counts.write_faults;
}
