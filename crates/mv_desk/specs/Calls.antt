-- What the calls of a desk do to what it tells.
use Rattle.std.specs.Prelude.{◌≡◌, ◌≢◌, ℕ, ◌<◌, ◌≤◌, ◌++◌, true, false, List, [], None, Some, IfSome, IsSome, OnErr, OnOk, Option, Result, ⊤}
use Rattle.std.specs.Io.{StartsWith}
use Rattle.std.specs.Io.KnownBytes.{Appends, Keeps}
use Rattle.mv_desk.specs.View.{View, IsHeld, KeepsTelling, ModeStays, Rose, SlotStays, bytes_under}
use Rattle.mv_desk.specs.declared.slot.Slot.{Slot}
use Rattle.mv_desk.specs.declared.slot.Slot.TheVariants.{Report}

-- an error comes only where the count of read faults rose, and else it stands; the count of write faults is as it was
pub record HasReadCause {T E : Type 0} (old new : View) (result : Result T E) : Type 0 where
  pub later : old.read_faults ≤ new.read_faults
  pub stands : OnOk result (new.read_faults ≡ old.read_faults)
  pub rose : OnErr result (Rose old.read_faults new.read_faults)
  pub write_faults : new.write_faults ≡ old.write_faults

-- an error comes only where the count of write faults rose, and else it stands; the other counts are as they were
pub record HasWriteCause {T E : Type 0} (old new : View) (result : Result T E) : Type 0 where
  pub later : old.write_faults ≤ new.write_faults
  pub stands : OnOk result (new.write_faults ≡ old.write_faults)
  pub rose : OnErr result (Rose old.write_faults new.write_faults)
  pub read_faults : new.read_faults ≡ old.read_faults
  pub opened : new.opened ≡ old.opened

-- where it is told it is this, and it is told where it was
abbrev pub Becomes : {A : Type 0} → Option A → Option A → A → Type 0
Becomes None new value = IfSome new (λ x. x ≡ value)
Becomes (Some before) new value = new ≡ Some value

-- ---- opening and reading

-- a slot was opened for reading under a name
pub record Opens (slot : Slot) (given : List ℕ) (old new : View) : Type 0 where
  pub left : Keeps (bytes_under old given) (new.left slot)
  pub reads : new.reads slot ≡ true
  pub writes : new.writes slot ≡ false
  pub name : IfSome (new.name slot) (λ name. name ≡ Some given)
  -- the name is told still, but for a desk that opens a name that isn't held
  pub named : IsHeld old given → IsSome (old.name slot) → IsSome (new.name slot)
  pub others : (other : Slot) → other ≢ slot → SlotStays other old new
  pub held : (name : List ℕ) → new.held name ≡ old.held name

-- nothing changed but what is left in this slot, and the count of read faults, which didn't fall
pub record ReadsOnly (slot : Slot) (old new : View) : Type 0 where
  pub mode : ModeStays slot old new
  pub written : new.written slot ≡ old.written slot
  pub others : (other : Slot) → other ≢ slot → SlotStays other old new
  pub held : (name : List ℕ) → new.held name ≡ old.held name
  pub later : old.read_faults ≤ new.read_faults
  pub write_faults : new.write_faults ≡ old.write_faults
  pub opened : new.opened ≡ old.opened

-- what a call that reads from one slot alone does, whatever it answers
pub record Reads {T E : Type 0} (slot : Slot) (old new : View) (result : Result T E) : Type 0 where
  pub only : ReadsOnly slot old new
  -- no read failed where it has an answer
  pub stands : OnOk result (new.read_faults ≡ old.read_faults)
  pub tells : KeepsTelling old new

-- files were only opened and read, the report wasn't touched
pub record Inspects (old new : View) : Type 0 where
  pub report : SlotStays Report old new
  pub held : (name : List ℕ) → new.held name ≡ old.held name
  pub later : old.read_faults ≤ new.read_faults
  pub write_faults : new.write_faults ≡ old.write_faults

-- ---- creating and writing

-- two names of slots are told to be no common one: one of them is none, or they differ
abbrev pub AreApart : Option (Option (List ℕ)) → Option (Option (List ℕ)) → Type 0
AreApart (Some None) other = ⊤
AreApart one (Some None) = ⊤
AreApart (Some (Some one)) (Some (Some other)) = one ≢ other
AreApart one other = ⊥

-- another slot, while the bytes under a name change: what is left in it stays, if it isn't under that name
pub record OtherStays (name : Option (Option (List ℕ))) (slot : Slot) (old new : View) : Type 0 where
  pub mode : ModeStays slot old new
  pub written : new.written slot ≡ old.written slot
  pub left : AreApart name (old.name slot) → new.left slot ≡ old.left slot

-- a slot was created under a name, and so opened for writing
pub record Creates (slot : Slot) (given : List ℕ) (old new : View) : Type 0 where
  pub reads : new.reads slot ≡ false
  pub writes : new.writes slot ≡ true
  pub name : Becomes (old.name slot) (new.name slot) (Some given)
  pub written : Becomes (old.written slot) (new.written slot) []
  pub bytes : Becomes (old.held given) (new.held given) (Some [])
  pub others : (other : Slot) → other ≢ slot → OtherStays (Some (Some given)) other old new
  pub held : (name : List ℕ) → name ≢ given → new.held name ≡ old.held name

-- bytes that are told to be held get a piece at their end
abbrev pub HeldGrows : Option (Option (List ℕ)) → Option (Option (List ℕ)) → List ℕ → Type 0
HeldGrows (Some (Some bytes)) new piece = new ≡ Some (Some (bytes ++ piece))
HeldGrows old new piece = ⊤

-- where the name of a slot is told, the bytes under it grow
abbrev pub BytesGrow : Option (Option (List ℕ)) → View → View → List ℕ → Type 0
BytesGrow (Some (Some name)) old new piece = HeldGrows (old.held name) (new.held name) piece
BytesGrow name old new piece = ⊤

-- a piece was written to a slot, and nothing else changed but what is under its name
pub record WritesTo (slot : Slot) (piece : List ℕ) (old new : View) : Type 0 where
  pub mode : ModeStays slot old new
  pub written : Appends (old.written slot) (new.written slot) piece
  pub bytes : BytesGrow (old.name slot) old new piece
  pub others : (other : Slot) → other ≢ slot → OtherStays (old.name slot) other old new
  pub held : (name : List ℕ) → AreApart (old.name slot) (Some (Some name)) → new.held name ≡ old.held name

-- a piece that isn't empty is taken in part at least
pub record TakesSome (taken len : ℕ) : Type 0 where
  pub most : taken ≤ len
  pub some : 0 < len → 0 < taken

-- a front part of these bytes was written
pub record WritesPart (slot : Slot) (bytes : List ℕ) (old new : View) : Type 0 where
  pub part : List ℕ
  pub starts : StartsWith bytes part
  pub writes : WritesTo slot part old new

-- what a call that writes these bytes to one slot does, whatever it answers
pub record Writes {T E : Type 0} (slot : Slot) (bytes : List ℕ) (old new : View) (result : Result T E) : Type 0 where
  pub whole : OnOk result (WritesTo slot bytes old new)
  pub part : OnErr result (WritesPart slot bytes old new)
  pub cause : HasWriteCause old new result
  pub tells : KeepsTelling old new
