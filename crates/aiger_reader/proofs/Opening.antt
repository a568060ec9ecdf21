-- A file that is opened in a slot, and read there.
use Rattle.std.specs.Prelude.{◌≢◌, Result, Ok, Err}
use Rattle.mv_desk.specs.Calls.{Inspects}
use Rattle.mv_desk.specs.View.{View}
use Rattle.mv_desk.specs.declared.slot.Slot.{Slot}
use Rattle.mv_desk.specs.declared.slot.Slot.TheVariants.{Report}
use Rattle.aiger_reader.specs.Opening.{OpensOnly}

-- a slot but the report
pub Inspects-OpensOnly : {T E : Type 0} (slot : Slot) (a b : View) (result : Result T E) → Report ≢ slot → OpensOnly slot a b result → Inspects a b
Inspects-OpensOnly slot a b result apart opens = record {
  report = opens.others Report apart;
  held = opens.held;
  later = opens.later;
  write_faults = opens.write_faults;
}

-- another error, and another type of errors
pub OpensOnly-Ok : {T E F : Type 0} (slot : Slot) (a b : View) (x : T) → OpensOnly {E = E} slot a b (Ok x) → OpensOnly {E = F} slot a b (Ok x)
OpensOnly-Ok slot a b x o = record { others = o.others; held = o.held; opened = o.opened; later = o.later; stands = o.stands; write_faults = o.write_faults; tells = o.tells }

pub OpensOnly-Err : {T E F : Type 0} (slot : Slot) (a b : View) (e : E) (f : F) → OpensOnly {T = T} slot a b (Err e) → OpensOnly {T = T} slot a b (Err f)
OpensOnly-Err slot a b e f o = record { others = o.others; held = o.held; opened = o.opened; later = o.later; stands = tt; write_faults = o.write_faults; tells = o.tells }
