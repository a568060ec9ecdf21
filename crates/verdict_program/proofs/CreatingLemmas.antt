-- What creating a graph's file and writing to it does to the report.
use Rattle.std.proofs.Common.{◌≢◌, ℕ, ◌≤◌, List, refl, ◌∙◌, arith}
use Rattle.mv_desk.specs.Calls.{Creates, Inspects, WritesTo}
use Rattle.mv_desk.specs.View.{IsSame, View}
use Rattle.mv_desk.specs.declared.slot.Slot.{Slot}
use Rattle.mv_desk.specs.declared.slot.Slot.TheVariants as slot
use Rattle.mv_desk.proofs.CallerLemmas.{ModeStays-trans, SlotStays-refl}
use Rattle.verdict_program.specs.Runs.{ReportStays}

other_slot : slot.Report ≢ slot.Graph
other_slot e = cc

pub no_clauses : slot.Report ≢ slot.Clauses
no_clauses e = cc

-- a file was created in another slot and written to
pub slot_leaves : (at : Slot) → slot.Report ≢ at → (name text : List ℕ) (a b c : View) → Creates at name a b → WritesTo at text b c → ReportStays a c
slot_leaves at other name text a b c p q =
    let first = p.others slot.Report other in
    let then = q.others slot.Report other in
    record { mode = ModeStays-trans slot.Report a b c first.mode then.mode; written = then.written ∙ first.written }

pub file_leaves : (name text : List ℕ) (a b c : View) → Creates slot.Graph name a b → WritesTo slot.Graph text b c → ReportStays a c
file_leaves = slot_leaves slot.Graph other_slot

-- files were read
pub reads_leave : (a b : View) → Inspects a b → ReportStays a b
reads_leave a b inspects = record { mode = inspects.report.mode; written = inspects.report.written }

pub leaves_both : (a b c : View) → ReportStays a b → ReportStays b c → ReportStays a c
leaves_both a b c first then = record { mode = ModeStays-trans slot.Report a b c first.mode then.mode; written = then.written ∙ first.written }

-- no file could be created
pub same_leaves : (a b : View) → IsSame a b → ReportStays a b
same_leaves a b same = let s = same.slots slot.Report in record { mode = s.mode; written = s.written }

-- ---- nothing was done

pub IsSame-refl : (a : View) → IsSame a a
IsSame-refl a = record { slots = λ each. SlotStays-refl each a; held = λ _. refl }

pub no_fault : (a : View) → a.write_faults ≤ a.write_faults
no_fault a = omega arith
