-- Files in memory, and what each slot has of them.
use Rattle.std.specs.Prelude.{◌≡◌, ℕ, Bool, true, false, List, [], drop, set, ◌++◌, None, Some, Option}
use Rattle.mv_desk.specs.Files.{File, IsFirst, file_at, held_at}
use Rattle.mv_desk.specs.View.{View}
use Rattle.mv_desk.specs.declared.counts.Counts.{Counts}
use Rattle.mv_desk.specs.declared.slot.Slot.{Slot}
use Rattle.mv_desk.specs.declared.slot.Slot.TheVariants.{Graph, Other, Clauses, Algebra, Report}
use Rattle.mv_desk.specs.declared.memory.place.Place.{Place}
use Rattle.mv_desk.specs.declared.memory.place.Place.TheVariants as place
use Rattle.mv_desk.specs.declared.memory.places.Places.{Places}

-- the place of a slot
abbrev pub place_at : Places → Slot → Place
place_at places Graph = places.graph
place_at places Other = places.other
place_at places Clauses = places.clauses
place_at places Algebra = places.algebra
place_at places Report = places.report

-- the places with this one in the slot
abbrev pub with_place : Places → Slot → Place → Places
with_place places Graph new = record places { graph = new }
with_place places Other new = record places { other = new }
with_place places Clauses new = record places { clauses = new }
with_place places Algebra new = record places { algebra = new }
with_place places Report new = record places { report = new }

-- nothing is open but the report
abbrev pub fresh_places : Places
fresh_places = record { graph = place.Closed; other = place.Closed; clauses = place.Closed; algebra = place.Closed; report = place.Printing [] }

-- what is still to be read
abbrev pub left_at : List File → Place → List ℕ
left_at files (place.Reading file at) = drop at (file_at files file).1
left_at files place.Absent = []
left_at files place.Closed = []
left_at files (place.Printing written) = []
left_at files (place.Writing file written) = []

-- what was written
abbrev pub written_of : Place → List ℕ
written_of (place.Printing written) = written
written_of (place.Writing file written) = written
written_of place.Closed = []
written_of place.Absent = []
written_of (place.Reading file at) = []

-- under which name it is open, if that is told
abbrev pub name_of : List File → Place → Option (Option (List ℕ))
name_of files (place.Reading file at) = Some (Some (file_at files file).0)
name_of files (place.Writing file written) = Some (Some (file_at files file).0)
name_of files place.Closed = Some None
name_of files (place.Printing written) = Some None
name_of files place.Absent = None

abbrev pub is_read : Place → Bool
is_read (place.Reading file at) = true
is_read place.Absent = true
is_read place.Closed = false
is_read (place.Printing written) = false
is_read (place.Writing file written) = false

abbrev pub is_written : Place → Bool
is_written (place.Writing file written) = true
is_written (place.Printing written) = true
is_written place.Closed = false
is_written place.Absent = false
is_written (place.Reading file at) = false

-- a place stands at a file that is the first of its name
abbrev pub StandsAtFirst : List File → Place → Type 0
StandsAtFirst files (place.Reading file at) = IsFirst files file
StandsAtFirst files (place.Writing file written) = IsFirst files file
StandsAtFirst files place.Closed = Unit {0}
StandsAtFirst files place.Absent = Unit {0}
StandsAtFirst files (place.Printing written) = Unit {0}

-- each place does
abbrev pub AllFit : List File → Places → Type 0
AllFit files places = (slot : Slot) → StandsAtFirst files (place_at places slot)

-- what a desk tells of these files and places
abbrev pub memory_view : List File → Places → Counts → View
memory_view files places counts = record {
  held = λ name. Some (held_at files name);
  left = λ slot. Some (left_at files (place_at places slot));
  written = λ slot. Some (written_of (place_at places slot));
  name = λ slot. name_of files (place_at places slot);
  reads = λ slot. is_read (place_at places slot);
  writes = λ slot. is_written (place_at places slot);
  opened = counts.opened;
  read_faults = counts.read_faults;
  write_faults = counts.write_faults;
}

-- files, and the places in them
abbrev pub Shelved : Type 0
Shelved = List File × Places

-- what a desk tells of them
abbrev pub tells : Shelved → Counts → View
tells shelf = memory_view shelf.0 shelf.1

-- what is still to be read from a slot, and what was written to it
abbrev pub rest_in : Shelved → Slot → List ℕ
rest_in shelf slot = left_at shelf.0 (place_at shelf.1 slot)

abbrev pub out_in : Shelved → Slot → List ℕ
out_in shelf slot = written_of (place_at shelf.1 slot)

-- a piece goes to the end of what was written, and of the file
abbrev pub WritesInto : List ℕ → List File → Place → List File → Place → Type 0
WritesInto piece files (place.Printing written) files' new = (files' ≡ files) × (new ≡ place.Printing (written ++ piece))
WritesInto piece files (place.Writing file written) files' new =
    (files' ≡ set files file ((file_at files file).0, (file_at files file).1 ++ piece)) × (new ≡ place.Writing file (written ++ piece))
WritesInto piece files place.Closed files' new = Unit {0}
WritesInto piece files place.Absent files' new = Unit {0}
WritesInto piece files (place.Reading file at) files' new = Unit {0}
