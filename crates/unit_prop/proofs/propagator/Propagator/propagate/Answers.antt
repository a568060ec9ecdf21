use Rattle.std.proofs.Common.{subst, length, take, Some}
use Rattle.unit_prop.specs.Standing.{IsFound, IsSound, Standing}
use Rattle.unit_prop.specs.Visits.{IsPropagating, IsFalse}
use Rattle.unit_prop.proofs.Standings.{sound_of}
use Rattle.unit_prop.proofs.VisitSteps.{grows_not}
use Rattle.unit_prop.proofs.Findings.{propagates_not, propagates_by, found_some, found_none, false_front, ground_some, ground_none}
use Rattle.unit_prop.proofs.propagator.Propagator.propagate.Goals as goal

pub returns-in-Some-clause-grows : goal.returns-in-Some-clause-grows
returns-in-Some-clause-grows c = propagates_not c.args.self.now

pub returns-in-Some-clause-found : goal.returns-in-Some-clause-found
returns-in-Some-clause-found c =
    let i = c.self.inside in let is = c.self.invariant in
    let f = false_front i.clauses.items i.units i.trail.lits c.in-Some.place (ground_some i.clauses.items (length i.clauses.items) (take i.units i.trail.lits) (take i.units i.trail.reasons) i.refuted c.in-Some.place c.in-Some.is is.ground) in
    let g = found_some i.clauses.items i.trail i.trail i.units c.args.self.now c.self.view_is (grows_not i.trail) is.propagating.kept.reasons i.watches i.head c.in-Some.place is.propagating f in
    subst (λ (s : Standing). IsFound c.args.self.now s (Some c.in-Some.place)) c.self.view_is g

pub returns-clause-grows : goal.returns-clause-grows
returns-clause-grows c = let i = c.self.inside in propagates_by i.clauses.items i.trail c.visit_all-conflict.new.trail i.units c.args.self.now c.self.view_is c.visit_all-conflict.ensures.grows c.self.invariant.propagating.kept.reasons

pub returns-clause-found : goal.returns-clause-found
returns-clause-found c =
    let i = c.self.inside in let is = c.self.invariant in
    let p : IsPropagating i.clauses.items c.visit_all-conflict.new.watches c.visit_all-conflict.new.trail (length c.visit_all-conflict.new.trail.lits) =
    subst (λ cs. IsPropagating cs c.visit_all-conflict.new.watches c.visit_all-conflict.new.trail (length c.visit_all-conflict.new.trail.lits)) c.deref.ensures.value (subst (IsPropagating c.deref.result.now c.visit_all-conflict.new.watches c.visit_all-conflict.new.trail) c.in_default-conflict.ensures.outcome c.in_default-conflict.ensures.kept) in
    found_none i.clauses.items i.trail c.visit_all-conflict.new.trail i.units c.args.self.now c.self.view_is c.visit_all-conflict.ensures.grows is.propagating.kept.reasons c.visit_all-conflict.new.watches p
    (ground_none i.clauses.items (length i.clauses.items) (take i.units i.trail.lits) (take i.units i.trail.reasons) i.refuted c.in_default.is is.ground)

pub returns-in-Some-conflict-clause-grows : goal.returns-in-Some-conflict-clause-grows
returns-in-Some-conflict-clause-grows c = let i = c.self.inside in propagates_by i.clauses.items i.trail c.visit_all-conflict.new.trail i.units c.args.self.now c.self.view_is c.visit_all-conflict.ensures.grows c.self.invariant.propagating.kept.reasons

pub returns-in-Some-conflict-clause-found : goal.returns-in-Some-conflict-clause-found
returns-in-Some-conflict-clause-found c =
    let i = c.self.inside in
    let p = subst (λ cs. IsPropagating cs c.visit_all-conflict.new.watches c.visit_all-conflict.new.trail c.visit_all-conflict.new.head) c.deref.ensures.value c.in-Some-conflict.ensures.kept in
    let f = subst (λ cs. IsFalse cs c.visit_all-conflict.new.trail.lits c.in-Some-conflict.place) c.deref.ensures.value c.in-Some-conflict.ensures.outcome in
    found_some i.clauses.items i.trail c.visit_all-conflict.new.trail i.units c.args.self.now c.self.view_is c.visit_all-conflict.ensures.grows c.self.invariant.propagating.kept.reasons c.visit_all-conflict.new.watches c.visit_all-conflict.new.head c.in-Some-conflict.place p f

pub returns-in-Some-clause-sound : goal.returns-in-Some-clause-sound
returns-in-Some-clause-sound c = let i = c.self.inside in subst IsSound c.self.view_is (sound_of i.clauses.items i.trail i.head i.units c.self.invariant.propagating.kept)

pub returns-in-Some-conflict-clause-sound : goal.returns-in-Some-conflict-clause-sound
returns-in-Some-conflict-clause-sound c =
    let i = c.self.inside in
    let p = subst (λ cs. IsPropagating cs c.visit_all-conflict.new.watches c.visit_all-conflict.new.trail c.visit_all-conflict.new.head) c.deref.ensures.value c.in-Some-conflict.ensures.kept in
    sound_of i.clauses.items c.visit_all-conflict.new.trail c.visit_all-conflict.new.head i.units p.kept

pub returns-clause-sound : goal.returns-clause-sound
returns-clause-sound c =
    let i = c.self.inside in
    let p = subst (λ cs. IsPropagating cs c.visit_all-conflict.new.watches c.visit_all-conflict.new.trail c.visit_all-conflict.new.head) c.deref.ensures.value c.in_default-conflict.ensures.kept in
    sound_of i.clauses.items c.visit_all-conflict.new.trail c.visit_all-conflict.new.head i.units p.kept
