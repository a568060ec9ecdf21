use Rattle.std.proofs.Common.{◌∙◌, [], take, refl, subst, append-nil, Ok, Err}
use Rattle.std.proofs.KnownBytes.{Consumes-nil, Consumes-trans}
use Rattle.mv_desk.proofs.CallerLemmas.{KeepsTelling-refl, KeepsTelling-trans, ReadsOnly-refl, ReadsOnly-trans, reads_on}
use Rattle.std.specs.Io.KnownBytes.{Consumes}
use Rattle.mv_desk.specs.View.{Rose}
use Rattle.mv_desk.specs.declared.faults.ReadFault.TheVariants.{Fault, Memory}
use Rattle.mv_desk.proofs.whole.read_front.Goals as goal

pub loop-slot-init : goal.loop-slot-init
loop-slot-init g c =
    let a = g.D.Desk.seen c.args.desk.now in
    record { only = ReadsOnly-refl c.args.slot a; stands = refl; tells = KeepsTelling-refl a; bytes = rw c.new-bytes.ensures.items (Consumes-nil (a.left c.args.slot)) }

pub returns-in-Ok-eq0-clause-front : goal.returns-in-Ok-eq0-clause-front
returns-in-Ok-eq0-clause-front g c =
    let old = g.D.Desk.seen c.args.desk.now in
    let mid = g.D.Desk.seen c.loop-slot.desk in
    let new = g.D.Desk.seen c.read.new.self in
    let none : Consumes (mid.left c.args.slot) (new.left c.args.slot) [] =
    subst (λ n. Consumes (mid.left c.args.slot) (new.left c.args.slot) (take n c.read.new.into)) c.in-Ok-eq0.field-0-test c.in-Ok-eq0.ensures.bytes.0 in
    subst (Consumes (old.left c.args.slot) (new.left c.args.slot)) (append-nil c.loop-slot.bytes.items)
    (Consumes-trans (old.left c.args.slot) (mid.left c.args.slot) (new.left c.args.slot) c.loop-slot.bytes.items [] c.loop-slot.invariant.bytes none)

pub returns-in-Ok-eq0-clause-reads : goal.returns-in-Ok-eq0-clause-reads
returns-in-Ok-eq0-clause-reads g c = reads_on c.args.slot (g.D.Desk.seen c.args.desk.now) (g.D.Desk.seen c.loop-slot.desk) (g.D.Desk.seen c.read.new.self) c.loop-slot.invariant.only c.loop-slot.invariant.tells c.read.ensures.only c.read.ensures.tells (Ok c.loop-slot.bytes) (c.in-Ok-eq0.ensures.cause.stands ∙ c.loop-slot.invariant.stands)

pub returns-then-is_err-clause-reads : goal.returns-then-is_err-clause-reads
returns-then-is_err-clause-reads g c = reads_on c.args.slot (g.D.Desk.seen c.args.desk.now) (g.D.Desk.seen c.loop-slot.desk) (g.D.Desk.seen c.read.new.self) c.loop-slot.invariant.only c.loop-slot.invariant.tells c.read.ensures.only c.read.ensures.tells (Err Memory) tt

pub loop-slot-preserved : goal.loop-slot-preserved
loop-slot-preserved g c =
    let old = g.D.Desk.seen c.args.desk.now in
    let mid = g.D.Desk.seen c.loop-slot.desk in
    let new = g.D.Desk.seen c.read.new.self in
    record {
      only = ReadsOnly-trans c.args.slot old mid new c.loop-slot.invariant.only c.read.ensures.only;
      stands = c.in-Ok.ensures.cause.stands ∙ c.loop-slot.invariant.stands;
      tells = KeepsTelling-trans old mid new c.loop-slot.invariant.tells c.read.ensures.tells;
      bytes = rw (c.extend_from_slice.ensures.items, c.if-is_err.ensures.negation)
          (Consumes-trans (old.left c.args.slot) (mid.left c.args.slot) (new.left c.args.slot) c.loop-slot.bytes.items (take c.in-Ok.count c.read.new.into) c.loop-slot.invariant.bytes c.in-Ok.ensures.bytes.0);
    }

pub returns-in-Err-clause-fault : goal.returns-in-Err-clause-fault
returns-in-Err-clause-fault g c h = subst (λ n. Rose n (g.D.Desk.seen c.read.new.self).read_faults) c.loop-slot.invariant.stands c.in-Err.ensures.cause.rose

pub returns-in-Err-clause-reads : goal.returns-in-Err-clause-reads
returns-in-Err-clause-reads g c = reads_on c.args.slot (g.D.Desk.seen c.args.desk.now) (g.D.Desk.seen c.loop-slot.desk) (g.D.Desk.seen c.read.new.self) c.loop-slot.invariant.only c.loop-slot.invariant.tells c.read.ensures.only c.read.ensures.tells (Err Fault) tt

pub returns-clause-front : goal.returns-clause-front
returns-clause-front g c = c.loop-slot.invariant.bytes

pub returns-clause-reads : goal.returns-clause-reads
returns-clause-reads g c = record { only = c.loop-slot.invariant.only; stands = c.loop-slot.invariant.stands; tells = c.loop-slot.invariant.tells }
