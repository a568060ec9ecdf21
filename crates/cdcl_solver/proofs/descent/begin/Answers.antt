use Rattle.std.proofs.Common.{w32, SFits, sym, subst, arith, rules, ⊎_elim}
use Rattle.std.specs.List.{Contains}
use Rattle.std.proofs.lemmas.Int.{to_z-of_z}
use Rattle.clause_core.proofs.Places.{below_suc, contains_at}
use Rattle.unit_prop.specs.Standing.{at}
use Rattle.unit_prop.specs.Standing.{Assumes}
use Rattle.unit_prop.specs.declared.assumed.Assumed.TheVariants.{Opposed}
use Rattle.cdcl_solver.proofs.SearchLemmas.{grows_not, sound_assumed, only_alone, only_assumed, same_assumed, stands_assumed, same_more, begins_true, begins_false, begins_opposed}
use Rattle.unit_prop.specs.Trail.{IsLiteralUpTo}
use Rattle.cdcl_solver.proofs.Trails.{clause_within, literal_positive}
use Rattle.cdcl_solver.proofs.descent.begin.Goals as goal

pub loop-lit-init : goal.loop-lit-init
loop-lit-init c = record { same = grows_not c.args.propagator.now; sound = c.mark-start.ensures.sound; only = only_alone c.args.propagator.now c.args.assumptions.now c.requires.alone; stand = λ i b. absurd (omega arith) }

pub assume-requires : goal.assume-requires
assume-requires c =
    let fits : SFits w32 (at c.args.assumptions.now c.loop-lit.lit-index) = search rules in
    let one = to_z-of_z w32 (at c.args.assumptions.now c.loop-lit.lit-index) fits in
    let within = clause_within c.args.propagator.now.trail.greatest c.args.assumptions.now c.requires.signed c.requires.in_range (at c.args.assumptions.now c.loop-lit.lit-index) (contains_at c.args.assumptions.now c.loop-lit.lit-index c.loop-lit-test.true) in
    rw one (subst (λ g. IsLiteralUpTo g (at c.args.assumptions.now c.loop-lit.lit-index)) (sym c.loop-lit.invariant.same.greatest) within)

pub returns-in-Opposed : goal.returns-in-Opposed
returns-in-Opposed c =
    let lit = at c.args.assumptions.now c.loop-lit.lit-index in
    let fits : SFits w32 (at c.args.assumptions.now c.loop-lit.lit-index) = search rules in
    let met : Assumes c.loop-lit.propagator (at c.args.assumptions.now c.loop-lit.lit-index) Opposed c.assume.new.self = rw (to_z-of_z, c.in-Opposed.is) at c.assume.ensures.stands in
    let within = clause_within c.args.propagator.now.trail.greatest c.args.assumptions.now c.requires.signed c.requires.in_range lit (contains_at c.args.assumptions.now c.loop-lit.lit-index c.loop-lit-test.true) in
    begins_opposed c.args.propagator.now c.loop-lit.propagator c.assume.new.self c.args.assumptions.now lit c.loop-lit.invariant.same c.loop-lit.invariant.sound c.loop-lit.invariant.only (literal_positive lit within.0) (contains_at c.args.assumptions.now c.loop-lit.lit-index c.loop-lit-test.true) met

pub loop-lit-preserved : goal.loop-lit-preserved
loop-lit-preserved c =
    let lit = at c.args.assumptions.now c.loop-lit.lit-index in
    let fits : SFits w32 (at c.args.assumptions.now c.loop-lit.lit-index) = search rules in
    let met : Assumes c.loop-lit.propagator (at c.args.assumptions.now c.loop-lit.lit-index) c.assume.result c.assume.new.self = rw to_z-of_z at c.assume.ensures.stands in
    let within = subst (λ g. IsLiteralUpTo g lit) (sym c.loop-lit.invariant.same.greatest) (clause_within c.args.propagator.now.trail.greatest c.args.assumptions.now c.requires.signed c.requires.in_range lit (contains_at c.args.assumptions.now c.loop-lit.lit-index c.loop-lit-test.true)) in
    let same = same_assumed c.loop-lit.propagator c.assume.new.self lit c.assume.result met in
    let stands = stands_assumed c.loop-lit.propagator c.assume.new.self lit c.assume.result c.in_default.not-Opposed met in
    record {
      same = same_more c.args.propagator.now c.loop-lit.propagator c.assume.new.self c.loop-lit.invariant.same same.0;
      sound = sound_assumed c.loop-lit.propagator c.assume.new.self lit c.assume.result c.loop-lit.invariant.sound within met;
      only = only_assumed c.loop-lit.propagator c.assume.new.self c.args.assumptions.now lit c.assume.result c.loop-lit.invariant.sound (contains_at c.args.assumptions.now c.loop-lit.lit-index c.loop-lit-test.true) c.loop-lit.invariant.only met;
      stand = λ i b. ⊎_elim (λ k. same.1 (at c.args.assumptions.now i) (c.loop-lit.invariant.stand i k)) (λ e. subst (λ j. Contains c.assume.new.self.trail.literals (at c.args.assumptions.now j)) (sym e) stands) (below_suc i c.loop-lit.lit-index b);
    }

pub returns-in-None : goal.returns-in-None
returns-in-None c =
    begins_true c.args.propagator.now c.loop-lit.propagator c.propagate.new.self c.args.assumptions.now c.loop-lit.invariant.sound c.loop-lit.invariant.same c.loop-lit.invariant.only (λ i b. c.loop-lit.invariant.stand i (omega arith)) c.in-None.ensures.grows c.in-None.ensures.sound c.in-None.ensures.found.0

pub returns-in-Some : goal.returns-in-Some
returns-in-Some c =
    begins_false c.args.propagator.now c.loop-lit.propagator c.propagate.new.self c.args.assumptions.now c.in-Some.field-0 c.loop-lit.invariant.sound c.loop-lit.invariant.same c.loop-lit.invariant.only c.in-Some.ensures.grows c.in-Some.ensures.sound c.in-Some.ensures.found.0
