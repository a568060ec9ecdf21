use Rattle.std.proofs.Common.{IfSome, sym, subst}
use Rattle.std.proofs.lemmas.Result.{on_ok_weaker}
use Rattle.column_reducer.specs.Gathering.{HasTakenGate, IsGatePartOf}
use Rattle.column_reducer.proofs.Taken.{part_grown, taken_none, taken_part}
use Rattle.column_reducer.proofs.gathered.Gathered.take.Goals as goal

pub returns-in-None-clause-taken : goal.returns-in-None-clause-taken
returns-in-None-clause-taken c =
    let t = c.args.terms.now in
    subst (λ q. HasTakenGate t t c.args.gate.now q c.args.self.now c.args.self.now) (sym c.in-None.is) (taken_none t c.args.gate.now c.args.self.now)

pub returns-in_ok-set_power-in-Some-clause-taken : goal.returns-in_ok-set_power-in-Some-clause-taken
returns-in_ok-set_power-in-Some-clause-taken c =
    let t0 = c.args.terms.now in
    let t = c.set_power.new.terms in
    let x = c.args.gate.now in
    let part = c.in-Some.part in
    let more = c.push.new.self in
    on_ok_weaker c.push.result
    (λ has. subst (λ q. HasTakenGate t0 t x q c.args.self.now more) (sym c.in-Some.is)
    (taken_part t0 t x part c.args.self.now c.set_power.new.self more c.in_ok-set_power-in-Some.ensures.extends c.in_ok-set_power-in-Some.ensures.power has)) c.push.ensures

pub push-requires-clause-of : goal.push-requires-clause-of
push-requires-clause-of c =
    let t0 = c.args.terms.now in
    part_grown t0 c.set_power.new.terms c.in-Some.part c.in_ok-set_power-in-Some.ensures.extends (subst (λ q. IfSome q (IsGatePartOf t0)) c.in-Some.is c.requires.of)

pub push-requires-clause-stated : goal.push-requires-clause-stated
push-requires-clause-stated c = c.in_ok-set_power-in-Some.ensures.power.settles.of c.requires.gathered.4.of
