-- What a desk tells of the outside. A file's name and its bytes are lists of bytes.
use Rattle.std.specs.Prelude.{◌≡◌, ℕ, ◌+◌, ◌-◌, ◌^◌, ◌≤◌, suc, zero, min, Bool, true, List, [], None, Some, IfSome, IsSome, Option, option_map, unwrap_or}
use Rattle.mv_desk.specs.declared.slot.Slot.{Slot}
use Rattle.mv_desk.specs.declared.slot.Slot.TheVariants.{Report}

-- The contents and the names are optional: `None` where the desk doesn't tell them.
pub record View : Type 0 where
  -- the bytes under a name: not told, no such name, or these
  pub held : List ℕ → Option (Option (List ℕ))
  -- what is still to be read from a slot
  pub left : Slot → Option (List ℕ)
  -- what was written to a slot since it was created
  pub written : Slot → Option (List ℕ)
  -- under which name a slot is open: not told, under none, or this one
  pub name : Slot → Option (Option (List ℕ))
  -- the slot is open for reading
  pub reads : Slot → Bool
  -- the slot is open for writing
  pub writes : Slot → Bool
  -- how many files were opened for reading, or failed to open
  pub opened : ℕ
  -- how many reads failed, and how many writes
  pub read_faults : ℕ
  pub write_faults : ℕ

-- the bytes that opening a name gives, where told: a name that isn't held counts as an empty file
abbrev pub bytes_under : View → List ℕ → Option (List ℕ)
bytes_under view name = option_map (λ bytes. unwrap_or bytes []) (view.held name)

-- the name is told to be held
abbrev pub IsHeld : View → List ℕ → Type 0
IsHeld view name = (bytes : List ℕ) × (view.held name ≡ Some (Some bytes))

-- the report is open for writing, and under no name
pub record HasReport (view : View) : Type 0 where
  pub writes : view.writes Report ≡ true
  pub unnamed : IfSome (view.name Report) (λ name. name ≡ None)

-- one more; a count stands still at its type's end
abbrev pub raised : ℕ → ℕ
raised count = min (count + 1) (2 ^ 64 - 1)

-- a count rose; one that stands at its type's end counts as risen
abbrev pub Rose : ℕ → ℕ → Type 0
Rose before now = raised before ≤ now

-- a count that was raised this often
abbrev pub raised_by : ℕ → ℕ → ℕ
raised_by zero count = count
raised_by (suc more) count = raised (raised_by more count)

-- this many files were opened for reading, or failed to open
abbrev pub OpensFiles : ℕ → View → View → Type 0
OpensFiles count old new = new.opened ≡ raised_by count old.opened

-- at most this many were
abbrev pub OpensAtMost : ℕ → View → View → Type 0
OpensAtMost most old new = (count : ℕ) × (count ≤ most) × OpensFiles count old new

-- what was told is told still
pub record KeepsTelling (old new : View) : Type 0 where
  pub held : (name : List ℕ) → IsSome (old.held name) → IsSome (new.held name)
  pub left : (slot : Slot) → IsSome (old.left slot) → IsSome (new.left slot)
  pub written : (slot : Slot) → IsSome (old.written slot) → IsSome (new.written slot)

-- how a slot is open is as it was
pub record ModeStays (slot : Slot) (old new : View) : Type 0 where
  pub reads : new.reads slot ≡ old.reads slot
  pub writes : new.writes slot ≡ old.writes slot
  pub name : new.name slot ≡ old.name slot

-- a slot is as it was
pub record SlotStays (slot : Slot) (old new : View) : Type 0 where
  pub mode : ModeStays slot old new
  pub left : new.left slot ≡ old.left slot
  pub written : new.written slot ≡ old.written slot

-- each slot and each name is as it was
pub record IsSame (old new : View) : Type 0 where
  pub slots : (slot : Slot) → SlotStays slot old new
  pub held : (name : List ℕ) → new.held name ≡ old.held name

-- which bytes are held under each name, and under which name each slot is open
pub record IsTold (view : View) : Type 0 where
  pub held : (name : List ℕ) → IsSome (view.held name)
  pub names : (slot : Slot) → IsSome (view.name slot)
