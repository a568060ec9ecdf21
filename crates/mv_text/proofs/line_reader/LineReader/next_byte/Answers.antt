use Rattle.std.proofs.Common.{◌≡◌, ◌+◌, Ok, OnOk, Result, ap, sym, arith}
use Rattle.mv_desk.specs.Calls.{Reads}
use Rattle.mv_desk.specs.View.{View}
use Rattle.mv_desk.specs.declared.slot.Slot.{Slot}
use Rattle.mv_text.specs.LineReading.{known_from}
use Rattle.mv_text.proofs.LineLengths.{not_over}
use Rattle.mv_text.proofs.line_reader.LineReader.next_byte.Goals as goal

-- what reading did, whatever is answered of it
reads_as : {S F T E : Type 0} {slot : Slot} {a b : View} {r : Result S F} {s : Result T E} → Reads slot a b r → OnOk s (b.read_faults ≡ a.read_faults) → Reads slot a b s
reads_as h stands = record { only = h.only; stands = stands; tells = h.tells }

pub returns-in-Ok-None-clause-bytes : goal.returns-in-Ok-None-clause-bytes
returns-in-Ok-None-clause-bytes g c = rw (sym c.self.view_is) (rw c.in-Ok-None.field-0-is at c.in-Ok-None.ensures.bytes)

pub returns-in-Ok-None-clause-end : goal.returns-in-Ok-None-clause-end
returns-in-Ok-None-clause-end g c = c.in-Ok-None.ensures.end (ap (λ b. Ok b) c.in-Ok-None.field-0-is)

pub returns-in-Ok-None-clause-reads : goal.returns-in-Ok-None-clause-reads
returns-in-Ok-None-clause-reads g c = reads_as c.in-Ok-None.ensures.reads c.in-Ok-None.ensures.reads.stands

pub returns-in-Ok-Some-clause-fault : goal.returns-in-Ok-Some-clause-fault
returns-in-Ok-Some-clause-fault g c =
    rw (sym c.self.view_is) (
      c.if-self.true,
      not_over (known_from c.self.inside.bytes ((g.D.Desk.seen c.args.desk.now).left c.args.slot)) (known_from c.next.new.self ((g.D.Desk.seen c.next.new.desk).left c.args.slot)) c.in-Ok-Some.field-0-0
          (rw c.in-Ok-Some.field-0-is at c.in-Ok-Some.ensures.bytes),
    )

pub returns-in-Ok-Some-clause-reads : goal.returns-in-Ok-Some-clause-reads
returns-in-Ok-Some-clause-reads g c = reads_as c.in-Ok-Some.ensures.reads tt

pub returns-in-Ok-Some-2-clause-bytes : goal.returns-in-Ok-Some-2-clause-bytes
returns-in-Ok-Some-2-clause-bytes g c = rw (sym c.self.view_is) (rw c.in-Ok-Some.field-0-is at c.in-Ok-Some.ensures.bytes)

pub returns-in-Ok-Some-2-clause-reads : goal.returns-in-Ok-Some-2-clause-reads
returns-in-Ok-Some-2-clause-reads g c = reads_as c.in-Ok-Some.ensures.reads c.in-Ok-Some.ensures.reads.stands

pub returns-in-Err-clause-fault : goal.returns-in-Err-clause-fault
returns-in-Err-clause-fault g c = c.in-Err.ensures.cause.rose

pub returns-in-Err-clause-reads : goal.returns-in-Err-clause-reads
returns-in-Err-clause-reads g c = reads_as c.in-Err.ensures.reads tt

pub invariant_of-self : goal.invariant_of-self
invariant_of-self g c = (c.self.invariant.0, c.in-Ok-None.ensures.piece)

pub invariant_of-self-then-self : goal.invariant_of-self-then-self
invariant_of-self-then-self g c = (c.self.invariant.0, c.in-Ok-Some.ensures.piece)

pub invariant_of-self-in-Ok-Some-2 : goal.invariant_of-self-in-Ok-Some-2
invariant_of-self-in-Ok-Some-2 g c = (omega (arith, c.self.invariant.0, c.if-self.false), c.in-Ok-Some.ensures.piece)

pub invariant_of-self-in-Err : goal.invariant_of-self-in-Err
invariant_of-self-in-Err g c = (c.self.invariant.0, c.in-Err.ensures.piece)

pub returns-in-Ok-None-clause-taken : goal.returns-in-Ok-None-clause-taken
returns-in-Ok-None-clause-taken g c = omega (arith, ap (λ s. s.taken) c.self.view_is)

pub returns-in-Ok-None-clause-within : goal.returns-in-Ok-None-clause-within
returns-in-Ok-None-clause-within g c = c.self.invariant.0

pub returns-in-Ok-None-clause-piece : goal.returns-in-Ok-None-clause-piece
returns-in-Ok-None-clause-piece g c = c.in-Ok-None.ensures.piece

pub returns-in-Ok-None-clause-lengths : goal.returns-in-Ok-None-clause-lengths
returns-in-Ok-None-clause-lengths g c = ap (λ s. s.lengths) c.self.view_is

pub returns-in-Ok-Some-clause-within : goal.returns-in-Ok-Some-clause-within
returns-in-Ok-Some-clause-within g c = c.self.invariant.0

pub returns-in-Ok-Some-clause-piece : goal.returns-in-Ok-Some-clause-piece
returns-in-Ok-Some-clause-piece g c = c.in-Ok-Some.ensures.piece

pub returns-in-Ok-Some-clause-lengths : goal.returns-in-Ok-Some-clause-lengths
returns-in-Ok-Some-clause-lengths g c = ap (λ s. s.lengths) c.self.view_is

pub returns-in-Ok-Some-2-clause-taken : goal.returns-in-Ok-Some-2-clause-taken
returns-in-Ok-Some-2-clause-taken g c = ap (λ s. s.taken + 1) c.self.view_is

pub returns-in-Ok-Some-2-clause-within : goal.returns-in-Ok-Some-2-clause-within
returns-in-Ok-Some-2-clause-within g c = omega (arith, c.self.invariant.0, c.if-self.false)

pub returns-in-Ok-Some-2-clause-piece : goal.returns-in-Ok-Some-2-clause-piece
returns-in-Ok-Some-2-clause-piece g c = c.in-Ok-Some.ensures.piece

pub returns-in-Ok-Some-2-clause-lengths : goal.returns-in-Ok-Some-2-clause-lengths
returns-in-Ok-Some-2-clause-lengths g c = ap (λ s. s.lengths) c.self.view_is

pub returns-in-Err-clause-within : goal.returns-in-Err-clause-within
returns-in-Err-clause-within g c = c.self.invariant.0

pub returns-in-Err-clause-piece : goal.returns-in-Err-clause-piece
returns-in-Err-clause-piece g c = c.in-Err.ensures.piece

pub returns-in-Err-clause-lengths : goal.returns-in-Err-clause-lengths
returns-in-Err-clause-lengths g c = ap (λ s. s.lengths) c.self.view_is
