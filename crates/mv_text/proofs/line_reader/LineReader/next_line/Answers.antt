use Rattle.std.proofs.Common.{◌≡◌, ◌≢◌, ◌==◌, ◌∙◌, ◌++◌, ◌∷◌, ◌+◌, [], refl, ap, sym, subst, arith, rules, length, eqb-true, OnOk, Result, Some, if◌then◌else◌}
use Rattle.std.proofs.lemmas.Bool.{false≢true}
use Rattle.std.proofs.lemmas.List.{nil_from_length}
use Rattle.std.proofs.lemmas.Result.{err_from_is_err_and}
use Rattle.std.specs.Io.KnownBytes.{Consumes}
use Rattle.std.specs.Option.{option_to_list}
use Rattle.mv_desk.specs.Calls.{Reads, ReadsOnly}
use Rattle.mv_desk.specs.View.{KeepsTelling, View}
use Rattle.mv_desk.specs.declared.slot.Slot.{Slot}
use Rattle.mv_desk.proofs.CallerLemmas.{ReadsOnly-refl, ReadsOnly-trans, KeepsTelling-refl, KeepsTelling-trans}
use Rattle.mv_text.specs.LineReading.{EndsIn, known_from}
use Rattle.mv_text.proofs.LineLengths.{LineSoFar, none_so_far, plain_goes_on, long_line, byte_fault, one_byte, one_more, line_ends, file_ends}
use Rattle.mv_text.proofs.line_reader.LineReader.next_line.Goals as goal

-- what reading did, whatever is answered in the end
reads_then : {S F T E : Type 0} (slot : Slot) (a b c : View) {r : Result S F} {s : Result T E} → ReadsOnly slot a b → KeepsTelling a b → Reads slot b c r → OnOk s (c.read_faults ≡ a.read_faults) → Reads slot a c s
reads_then slot a b c only tells reads stands = record {
  only = ReadsOnly-trans slot a b c only reads.only;
  stands = stands;
  tells = KeepsTelling-trans a b c tells reads.tells;
}

pub returns-then-len-longest-clause-fault : goal.returns-then-len-longest-clause-fault
returns-then-len-longest-clause-fault g c =
    let count : c.loop-line.line.len ≡ length c.loop-line.line.items = c.loop-line.line.ok.0 in
    let same = ap (λ l. l.line) (c.in-Ok-Some.ensures.lengths ∙ c.loop-line.invariant.lengths) in
    long_line c.args.self.now (known_from c.args.self.now.ahead ((g.D.Desk.seen c.args.desk.now).left c.args.slot)) (known_from c.next_byte.new.self.ahead ((g.D.Desk.seen c.next_byte.new.desk).left c.args.slot)) c.loop-line.line.items c.in-Ok-Some.byte
    (one_byte (known_from c.args.self.now.ahead ((g.D.Desk.seen c.args.desk.now).left c.args.slot)) (known_from c.loop-line.self.ahead ((g.D.Desk.seen c.loop-line.desk).left c.args.slot))
    (known_from c.next_byte.new.self.ahead ((g.D.Desk.seen c.next_byte.new.desk).left c.args.slot)) c.loop-line.line.items c.in-Ok-Some.byte c.in-Ok-Some.field-0
    c.in-Ok-Some.field-0-is c.loop-line.invariant.bytes c.in-Ok-Some.ensures.bytes) c.loop-line.invariant.no_end
    c.in-Ok-Some.byte-test.1 (omega (arith, same, c.len.ensures, c.longest.ensures, c.if-len-longest.true))

pub loop-line-init : goal.loop-line-init
loop-line-init g c =
    let v = g.D.Desk.seen c.args.desk.now in
    let none = c.new-line.ensures.items in
    let so_far = plain_goes_on c.args.self.now c.args.self.now c.take_plain.new.self (known_from c.args.self.now.ahead (v.left c.args.slot)) (v.left c.args.slot) c.new-line.result.items c.take_plain.new.line.items
    (none_so_far c.args.self.now (known_from c.args.self.now.ahead (v.left c.args.slot)) c.new-line.result.items none) c.in_ok-take_plain.ensures.ok in
    record {
      only = ReadsOnly-refl c.args.slot v;
      stands = refl;
      tells = KeepsTelling-refl v;
      lengths = so_far.lengths;
      taken = so_far.taken;
      no_end = so_far.no_end;
      short = so_far.short;
      bytes = so_far.bytes;
    }

pub loop-line-preserved : goal.loop-line-preserved
loop-line-preserved g c =
    let items : c.push.new.self.items ≡ c.loop-line.line.items ++ c.in-Ok-Some.byte ∷ [] = search (rules, c.push.ensures.items) in
    let count : c.loop-line.line.len ≡ length c.loop-line.line.items = c.loop-line.line.ok.0 in
    let same = ap (λ l. l.line) c.in-Ok-Some.ensures.lengths in
    let more = one_more c.loop-line.line.items c.push.new.self.items c.in-Ok-Some.byte c.next_byte.new.self.lengths.line items c.loop-line.invariant.no_end c.in-Ok-Some.byte-test.1 (omega (arith, same, c.loop-line.invariant.short))
    (λ e. c.if-len-longest.false (c.len.ensures ∙ count ∙ e ∙ sym c.longest.ensures)) in
    let one = subst (λ o. c.next_byte.new.self.taken ≡ c.loop-line.self.taken + length (option_to_list o)) c.in-Ok-Some.field-0-is c.in-Ok-Some.ensures.taken in
    let before = known_from c.args.self.now.ahead ((g.D.Desk.seen c.args.desk.now).left c.args.slot) in
    let left = (g.D.Desk.seen c.next_byte.new.desk).left c.args.slot in
    let with_byte : LineSoFar c.args.self.now c.next_byte.new.self before (known_from c.next_byte.new.self.ahead left) c.push.new.self.items = record {
      lengths = c.in-Ok-Some.ensures.lengths ∙ c.loop-line.invariant.lengths;
      taken = omega (arith, one, more.2, c.loop-line.invariant.taken);
      no_end = more.0;
      short = more.1;
      bytes = subst (λ z. Consumes before (known_from c.next_byte.new.self.ahead left) z) (sym items)
          (one_byte before (known_from c.loop-line.self.ahead ((g.D.Desk.seen c.loop-line.desk).left c.args.slot))
          (known_from c.next_byte.new.self.ahead left) c.loop-line.line.items c.in-Ok-Some.byte c.in-Ok-Some.field-0
          c.in-Ok-Some.field-0-is c.loop-line.invariant.bytes c.in-Ok-Some.ensures.bytes);
    } in
    let so_far = plain_goes_on c.args.self.now c.next_byte.new.self c.take_plain-in-Ok-Some.new.self before left c.push.new.self.items c.take_plain-in-Ok-Some.new.line.items with_byte c.in_ok-take_plain-in-Ok-Some.ensures.ok in
    record {
      only = ReadsOnly-trans c.args.slot (g.D.Desk.seen c.args.desk.now) (g.D.Desk.seen c.loop-line.desk) (g.D.Desk.seen c.next_byte.new.desk) c.loop-line.invariant.only c.in-Ok-Some.ensures.reads.only;
      stands = c.in-Ok-Some.ensures.reads.stands ∙ c.loop-line.invariant.stands;
      tells = KeepsTelling-trans (g.D.Desk.seen c.args.desk.now) (g.D.Desk.seen c.loop-line.desk) (g.D.Desk.seen c.next_byte.new.desk) c.loop-line.invariant.tells c.in-Ok-Some.ensures.reads.tells;
      lengths = so_far.lengths;
      taken = so_far.taken;
      no_end = so_far.no_end;
      short = so_far.short;
      bytes = so_far.bytes;
    }

pub returns-in-Err-clause-fault : goal.returns-in-Err-clause-fault
returns-in-Err-clause-fault g c =
    byte_fault c.args.self.now c.loop-line.self (known_from c.args.self.now.ahead ((g.D.Desk.seen c.args.desk.now).left c.args.slot)) (known_from c.loop-line.self.ahead ((g.D.Desk.seen c.loop-line.desk).left c.args.slot)) c.loop-line.line.items
    (g.D.Desk.seen c.args.desk.now).read_faults (g.D.Desk.seen c.loop-line.desk).read_faults (g.D.Desk.seen c.next_byte.new.desk).read_faults c.in-Err.fail c.loop-line.invariant.bytes c.loop-line.invariant.no_end c.loop-line.invariant.taken
    c.loop-line.invariant.lengths c.loop-line.invariant.only.later c.in-Err.ensures.fault

pub next_byte-requires : goal.next_byte-requires
next_byte-requires g c = c.loop-line.invariant.only.mode.reads ∙ c.requires

pub returns-in-Ok-None-clause-end : goal.returns-in-Ok-None-clause-end
returns-in-Ok-None-clause-end g c =
    let before = known_from c.args.self.now.ahead ((g.D.Desk.seen c.args.desk.now).left c.args.slot) in
    let now = known_from c.loop-line.self.ahead ((g.D.Desk.seen c.loop-line.desk).left c.args.slot) in
    let after = known_from c.next_byte.new.self.ahead ((g.D.Desk.seen c.next_byte.new.desk).left c.args.slot) in
    let so_far : LineSoFar c.args.self.now c.loop-line.self before now c.loop-line.line.items = record {
      lengths = c.loop-line.invariant.lengths;
      taken = c.loop-line.invariant.taken;
      no_end = c.loop-line.invariant.no_end;
      short = c.loop-line.invariant.short;
      bytes = c.loop-line.invariant.bytes;
    } in
    file_ends c.args.self.now c.loop-line.self c.next_byte.new.self before now after c.loop-line.line.items c.in-Ok-None.field-0 so_far c.in-Ok-None.field-0-is c.in-Ok-None.ensures.bytes c.in-Ok-None.ensures.end c.in-Ok-None.ensures.taken c.in-Ok-None.ensures.within c.in-Ok-None.ensures.lengths
    (λ left. (left ≡ []) × EndsIn c.args.self.now left) (λ ends. (nil_from_length c.loop-line.line.items (sym c.loop-line.line.ok.0 ∙ eqb-true c.loop-line.line.len 0 (sym c.is_empty.ensures ∙ c.if-is_empty.true)), ends))

pub returns-in-Ok-None-clause-piece : goal.returns-in-Ok-None-clause-piece
returns-in-Ok-None-clause-piece g c = c.in-Ok-None.ensures.piece

pub returns-in-Ok-None-clause-lengths : goal.returns-in-Ok-None-clause-lengths
returns-in-Ok-None-clause-lengths g c = c.in-Ok-None.ensures.lengths ∙ c.loop-line.invariant.lengths

pub returns-in-Ok-None-clause-reads : goal.returns-in-Ok-None-clause-reads
returns-in-Ok-None-clause-reads g c = reads_then c.args.slot (g.D.Desk.seen c.args.desk.now) (g.D.Desk.seen c.loop-line.desk) (g.D.Desk.seen c.next_byte.new.desk) c.loop-line.invariant.only c.loop-line.invariant.tells c.in-Ok-None.ensures.reads (c.in-Ok-None.ensures.reads.stands ∙ c.loop-line.invariant.stands)

pub returns-in-Ok-None-2-clause-fault : goal.returns-in-Ok-None-2-clause-fault
returns-in-Ok-None-2-clause-fault g c =
    let before = known_from c.args.self.now.ahead ((g.D.Desk.seen c.args.desk.now).left c.args.slot) in
    let now = known_from c.loop-line.self.ahead ((g.D.Desk.seen c.loop-line.desk).left c.args.slot) in
    let after = known_from c.next_byte.new.self.ahead ((g.D.Desk.seen c.next_byte.new.desk).left c.args.slot) in
    let so_far : LineSoFar c.args.self.now c.loop-line.self before now c.loop-line.line.items = record {
      lengths = c.loop-line.invariant.lengths;
      taken = c.loop-line.invariant.taken;
      no_end = c.loop-line.invariant.no_end;
      short = c.loop-line.invariant.short;
      bytes = c.loop-line.invariant.bytes;
    } in
    file_ends c.args.self.now c.loop-line.self c.next_byte.new.self before now after c.loop-line.line.items c.in-Ok-None.field-0 so_far c.in-Ok-None.field-0-is c.in-Ok-None.ensures.bytes c.in-Ok-None.ensures.end c.in-Ok-None.ensures.taken c.in-Ok-None.ensures.within c.in-Ok-None.ensures.lengths
    (λ left. (left ≢ []) × EndsIn c.args.self.now left) (λ ends. ((λ e. false≢true (sym c.if-is_empty.false ∙ c.is_empty.ensures ∙ ap (λ n. n == 0) (c.loop-line.line.ok.0 ∙ ap length e))), ends))

pub returns-in-Ok-None-2-clause-piece : goal.returns-in-Ok-None-2-clause-piece
returns-in-Ok-None-2-clause-piece g c = c.in-Ok-None.ensures.piece

pub returns-in-Ok-None-2-clause-lengths : goal.returns-in-Ok-None-2-clause-lengths
returns-in-Ok-None-2-clause-lengths g c = c.in-Ok-None.ensures.lengths ∙ c.loop-line.invariant.lengths

pub returns-in-Ok-None-2-clause-reads : goal.returns-in-Ok-None-2-clause-reads
returns-in-Ok-None-2-clause-reads g c = reads_then c.args.slot (g.D.Desk.seen c.args.desk.now) (g.D.Desk.seen c.loop-line.desk) (g.D.Desk.seen c.next_byte.new.desk) c.loop-line.invariant.only c.loop-line.invariant.tells c.in-Ok-None.ensures.reads tt

pub returns-in-Ok-Some-eq10-clause-line : goal.returns-in-Ok-Some-eq10-clause-line
returns-in-Ok-Some-eq10-clause-line g c =
    let before = known_from c.args.self.now.ahead ((g.D.Desk.seen c.args.desk.now).left c.args.slot) in
    let now = known_from c.loop-line.self.ahead ((g.D.Desk.seen c.loop-line.desk).left c.args.slot) in
    let after = known_from c.next_byte.new.self.ahead ((g.D.Desk.seen c.next_byte.new.desk).left c.args.slot) in
    let so_far : LineSoFar c.args.self.now c.loop-line.self before now c.loop-line.line.items = record {
      lengths = c.loop-line.invariant.lengths;
      taken = c.loop-line.invariant.taken;
      no_end = c.loop-line.invariant.no_end;
      short = c.loop-line.invariant.short;
      bytes = c.loop-line.invariant.bytes;
    } in
    line_ends c.args.self.now c.loop-line.self c.next_byte.new.self before now after c.loop-line.line.items c.in-Ok-Some-eq10.field-0 so_far (c.in-Ok-Some-eq10.field-0-is ∙ ap (λ b. Some b) c.in-Ok-Some-eq10.field-0-0-test) c.in-Ok-Some-eq10.ensures.bytes c.in-Ok-Some-eq10.ensures.taken c.in-Ok-Some-eq10.ensures.within c.in-Ok-Some-eq10.ensures.lengths

pub returns-in-Ok-Some-eq10-clause-piece : goal.returns-in-Ok-Some-eq10-clause-piece
returns-in-Ok-Some-eq10-clause-piece g c = c.in-Ok-Some-eq10.ensures.piece

pub returns-in-Ok-Some-eq10-clause-lengths : goal.returns-in-Ok-Some-eq10-clause-lengths
returns-in-Ok-Some-eq10-clause-lengths g c = c.in-Ok-Some-eq10.ensures.lengths ∙ c.loop-line.invariant.lengths

pub returns-in-Ok-Some-eq10-clause-reads : goal.returns-in-Ok-Some-eq10-clause-reads
returns-in-Ok-Some-eq10-clause-reads g c = reads_then c.args.slot (g.D.Desk.seen c.args.desk.now) (g.D.Desk.seen c.loop-line.desk) (g.D.Desk.seen c.next_byte.new.desk) c.loop-line.invariant.only c.loop-line.invariant.tells c.in-Ok-Some-eq10.ensures.reads (c.in-Ok-Some-eq10.ensures.reads.stands ∙ c.loop-line.invariant.stands)

pub returns-then-len-longest-clause-piece : goal.returns-then-len-longest-clause-piece
returns-then-len-longest-clause-piece g c = c.in-Ok-Some.ensures.piece

pub returns-then-len-longest-clause-lengths : goal.returns-then-len-longest-clause-lengths
returns-then-len-longest-clause-lengths g c = c.in-Ok-Some.ensures.lengths ∙ c.loop-line.invariant.lengths

pub returns-then-len-longest-clause-reads : goal.returns-then-len-longest-clause-reads
returns-then-len-longest-clause-reads g c = reads_then c.args.slot (g.D.Desk.seen c.args.desk.now) (g.D.Desk.seen c.loop-line.desk) (g.D.Desk.seen c.next_byte.new.desk) c.loop-line.invariant.only c.loop-line.invariant.tells c.in-Ok-Some.ensures.reads tt

pub returns-then-is_err-clause-piece : goal.returns-then-is_err-clause-piece
returns-then-is_err-clause-piece g c = c.in-Ok-Some.ensures.piece

pub returns-then-is_err-clause-lengths : goal.returns-then-is_err-clause-lengths
returns-then-is_err-clause-lengths g c = c.in-Ok-Some.ensures.lengths ∙ c.loop-line.invariant.lengths

pub returns-then-is_err-clause-reads : goal.returns-then-is_err-clause-reads
returns-then-is_err-clause-reads g c = reads_then c.args.slot (g.D.Desk.seen c.args.desk.now) (g.D.Desk.seen c.loop-line.desk) (g.D.Desk.seen c.next_byte.new.desk) c.loop-line.invariant.only c.loop-line.invariant.tells c.in-Ok-Some.ensures.reads tt

pub returns-in-Err-clause-piece : goal.returns-in-Err-clause-piece
returns-in-Err-clause-piece g c = c.in-Err.ensures.piece

pub returns-in-Err-clause-lengths : goal.returns-in-Err-clause-lengths
returns-in-Err-clause-lengths g c = c.in-Err.ensures.lengths ∙ c.loop-line.invariant.lengths

pub returns-in-Err-clause-reads : goal.returns-in-Err-clause-reads
returns-in-Err-clause-reads g c = reads_then c.args.slot (g.D.Desk.seen c.args.desk.now) (g.D.Desk.seen c.loop-line.desk) (g.D.Desk.seen c.next_byte.new.desk) c.loop-line.invariant.only c.loop-line.invariant.tells c.in-Err.ensures.reads tt

pub returns-in_err-take_plain-in-Ok-Some-clause-reads : goal.returns-in_err-take_plain-in-Ok-Some-clause-reads
returns-in_err-take_plain-in-Ok-Some-clause-reads g c = reads_then c.args.slot (g.D.Desk.seen c.args.desk.now) (g.D.Desk.seen c.loop-line.desk) (g.D.Desk.seen c.next_byte.new.desk) c.loop-line.invariant.only c.loop-line.invariant.tells c.in-Ok-Some.ensures.reads (rw ((err_from_is_err_and c.from_residual-in_err-take_plain-in-Ok-Some.result c.from_residual-in_err-take_plain-in-Ok-Some.ensures.1).1) tt)

pub take_plain-requires-in-Ok-Some : goal.take_plain-requires-in-Ok-Some
take_plain-requires-in-Ok-Some g c =
    let items = subst (λ b. c.push.new.self.items ≡ if b then c.loop-line.line.items ++ c.in-Ok-Some.byte ∷ [] else c.loop-line.line.items) c.if-is_err.ensures.negation c.push.ensures.items in
    let same = ap (λ l. l.line) c.in-Ok-Some.ensures.lengths in
    (one_more c.loop-line.line.items c.push.new.self.items c.in-Ok-Some.byte c.next_byte.new.self.lengths.line items c.loop-line.invariant.no_end c.in-Ok-Some.byte-test.1 (omega (arith, same, c.loop-line.invariant.short))
    (λ e. c.if-len-longest.false (c.len.ensures ∙ c.loop-line.line.ok.0 ∙ e ∙ sym c.longest.ensures))).1

pub loop-line-smaller : goal.loop-line-smaller
loop-line-smaller g c =
    let plain = c.in_ok-take_plain-in-Ok-Some.ensures.ok in
    let one = subst (λ o. c.next_byte.new.self.taken ≡ c.loop-line.self.taken + length (option_to_list o)) c.in-Ok-Some.field-0-is c.in-Ok-Some.ensures.taken in
    omega (arith, ap (λ l. l.file) plain.lengths, ap (λ l. l.file) c.in-Ok-Some.ensures.lengths, plain.taken, one, c.in-Ok-Some.ensures.within)
