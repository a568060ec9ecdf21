use Rattle.std.proofs.Common.{◌≡◌, ◌+◌, length, w32, SFits, ap, arith, rules, refl}
use Rattle.std.proofs.lemmas.Int.{to_z-of_z}
use Rattle.unit_prop.specs.Standing.{at}
use Rattle.cdcl_solver.proofs.AnalysisLemmas.{places_begin, places_more, analysis_begins}
use Rattle.cdcl_solver.proofs.analysis.Analysis.new.Goals as goal
use Rattle.unit_prop.specs.Trail.{signed_variable}
use Rattle.cdcl_solver.proofs.Trails.{trail_of}

pub loop-place-init : goal.loop-place-init
loop-place-init c =
    let v = c.in_ok-places.places in
    places_begin c.args.propagator.now c.args.level v.items (omega (arith, c.requires.max, c.in_ok-places.ensures))

pub index_mut-requires : goal.index_mut-requires
index_mut-requires c =
    let s = c.args.propagator.now in
    let same = c.trail-trail.ensures.value in
    let fits : SFits w32 (at c.trail-trail.result.now c.loop-place.place) = search rules in
    let var : c.variable.result ≡ signed_variable (at s.trail.literals c.loop-place.place) = rw (to_z-of_z, same) at c.variable.ensures in
    omega (arith, var, ((trail_of c.args.propagator.now c.requires.sound).in_range c.loop-place.place (omega (arith, ap length same))).1, c.loop-place.invariant.size, c.loop-place.places.ok.0)

pub loop-place-preserved : goal.loop-place-preserved
loop-place-preserved c =
    let s = c.args.propagator.now in
    let same = c.trail-trail.ensures.value in
    let fits : SFits w32 (at c.trail-trail.result.now c.loop-place.place) = search rules in
    let var : c.variable.result ≡ signed_variable (at s.trail.literals c.loop-place.place) = rw (to_z-of_z, same) at c.variable.ensures in
    rw var (places_more s c.args.level c.loop-place.place c.loop-place.places.items c.requires.sound c.loop-place.auto.place (omega (arith, ap length same)) c.loop-place.invariant)

pub returns : goal.returns
returns c =
    let s = c.args.propagator.now in
    let same = c.trail-trail.ensures.value in
    let all = analysis_begins s c.args.level c.loop-place.place (c.args.max + 1) c.in_ok-take_marks.field-0 c.loop-place.places.items c.requires.level (omega (arith, ap length same)) (omega (arith, ap length same, c.requires.level)) (omega (arith, c.requires.max))
    c.in_ok-take_marks.ensures c.loop-place.invariant in
    record { analysis = rw (c.new.ensures.items, same) all; level = refl }
