use Rattle.std.proofs.Common.{ap, subst, sym, ◌∙◌, w32}
use Rattle.std.proofs.lemmas.Int.{to_z-of_z}
use Rattle.unit_prop.specs.Standing.{IsSound, Standing}
use Rattle.unit_prop.specs.Trail.{IsLiteralUpTo, IsOpen}
use Rattle.unit_prop.specs.Ground.{standing_of}
use Rattle.unit_prop.proofs.Standings.{assumes, assumed_view, sound_of}
use Rattle.unit_prop.proofs.propagator.Propagator.assume.Goals as goal

pub invariant_of-self : goal.invariant_of-self
invariant_of-self c =
    let i = c.self.inside in
    let fits = to_z-of_z w32 c.args.lit c.ranges.lit in
    let within : IsLiteralUpTo i.trail.max c.args.lit = subst (λ m. IsLiteralUpTo m c.args.lit) (sym (ap (λ (s : Standing). s.trail.greatest) c.self.view_is)) c.requires in
    let free : IsOpen i.trail.lits c.args.lit = rw fits at c.in-None.ensures.value in
    rw (rw fits at c.push.ensures) (assumes i.clauses.items i.shorts.items i.watches i.trail i.head i.units i.refuted c.self.invariant c.args.lit within free)

pub returns-in-None-clause-stands : goal.returns-in-None-clause-stands
returns-in-None-clause-stands c =
    let i = c.self.inside in
    let fits = to_z-of_z w32 c.args.lit c.ranges.lit in
    let free : IsOpen i.trail.lits c.args.lit = rw fits at c.in-None.ensures.value in
    let seen : IsOpen c.args.self.now.trail.literals c.args.lit = subst (λ (s : Standing). IsOpen s.trail.literals c.args.lit) c.self.view_is free in
    let e = rw fits at c.push.ensures in
    (ap (λ t. standing_of i.clauses.items t i.units) e ∙ assumed_view i.clauses.items i.shorts.items i.watches i.trail i.head i.units i.refuted c.self.invariant c.args.self.now c.self.view_is c.args.lit, seen.0, seen.1)

pub returns-in-None-clause-sound : goal.returns-in-None-clause-sound
returns-in-None-clause-sound c = let i = c.self.inside in subst IsSound c.self.view_is (sound_of i.clauses.items i.trail i.head i.units c.self.invariant.propagating.kept)

pub returns-in-Some-true-clause-sound : goal.returns-in-Some-true-clause-sound
returns-in-Some-true-clause-sound c = let i = c.self.inside in subst IsSound c.self.view_is (sound_of i.clauses.items i.trail i.head i.units c.self.invariant.propagating.kept)

pub returns-in-Some-false-clause-sound : goal.returns-in-Some-false-clause-sound
returns-in-Some-false-clause-sound c = let i = c.self.inside in subst IsSound c.self.view_is (sound_of i.clauses.items i.trail i.head i.units c.self.invariant.propagating.kept)
