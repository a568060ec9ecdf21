use Rattle.std.proofs.Common.{length, w32, SFits, subst, arith, rules, ⊎_elim, inl, inr}
use Rattle.std.proofs.lemmas.Int.{to_z-of_z}
use Rattle.clause_core.proofs.Places.{contains_at}
use Rattle.unit_prop.specs.Standing.{at}
use Rattle.cdcl_solver.specs.Analyses.{Sees, SeesAll}
use Rattle.cdcl_solver.proofs.AnalysisLemmas.{told_range, sees_one, sees_none, sees_more}
use Rattle.cdcl_solver.proofs.analysis.Analysis.mark.Goals as goal
use Rattle.unit_prop.specs.Trail.{signed_variable}

pub loop-lit-init : goal.loop-lit-init
loop-lit-init c = record { analysis = c.requires.analysis; sees = sees_none c.args.self.now c.clause-lit-items.result.now }

pub see-requires : goal.see-requires
see-requires c =
    let lits = c.clause-lit-items.result.now in
    let fits : SFits w32 (at c.clause-lit-items.result.now c.loop-lit.lit-index) = search rules in
    let one = to_z-of_z w32 (at c.clause-lit-items.result.now c.loop-lit.lit-index) fits in
    let has = contains_at lits c.loop-lit.lit-index c.loop-lit-test.true in
    let told = ⊎_elim inl (λ s. inr (c.loop-lit.invariant.sees.kept (signed_variable (at lits c.loop-lit.lit-index)) s)) (c.requires.told c.clause-lit-items.result.now c.clause-lit-items.ensures.value (at lits c.loop-lit.lit-index) has) in
    let range = told_range c.args.propagator.now c.loop-lit.self (at lits c.loop-lit.lit-index) c.requires.sound c.loop-lit.invariant.analysis told in
    record { seen = rw one (omega (arith, range, c.loop-lit.invariant.analysis.sizes.0)); places = rw one (omega (arith, range, c.loop-lit.invariant.analysis.sizes.1)) }

pub loop-lit-preserved : goal.loop-lit-preserved
loop-lit-preserved c =
    let lits = c.clause-lit-items.result.now in
    let fits : SFits w32 (at c.clause-lit-items.result.now c.loop-lit.lit-index) = search rules in
    let has = contains_at lits c.loop-lit.lit-index c.loop-lit-test.true in
    let sees : Sees c.args.propagator.now.trail.literals c.loop-lit.self c.see.new.self (at c.clause-lit-items.result.now c.loop-lit.lit-index) = rw (to_z-of_z, c.trail-trail.ensures.value) at c.in_ok-see.ensures in
    let told = ⊎_elim inl (λ s. inr (c.loop-lit.invariant.sees.kept (signed_variable (at lits c.loop-lit.lit-index)) s)) (c.requires.told c.clause-lit-items.result.now c.clause-lit-items.ensures.value (at lits c.loop-lit.lit-index) has) in
    let range = told_range c.args.propagator.now c.loop-lit.self (at lits c.loop-lit.lit-index) c.requires.sound c.loop-lit.invariant.analysis told in
    let one = sees_one c.args.propagator.now c.loop-lit.self c.see.new.self (at lits c.loop-lit.lit-index) c.requires.sound c.loop-lit.invariant.analysis range told sees in
    record { analysis = one.analysis; sees = sees_more c.args.propagator.now c.args.self.now c.loop-lit.self c.see.new.self lits c.loop-lit.lit-index c.loop-lit.invariant.sees one }

pub returns : goal.returns
returns c =
    let all : SeesAll c.args.self.now c.loop-lit.self c.clause-lit-items.result.now (length c.clause-lit-items.result.now) = subst (λ n. SeesAll c.args.self.now c.loop-lit.self c.clause-lit-items.result.now n) (omega arith) c.loop-lit.invariant.sees in
    record { analysis = c.loop-lit.invariant.analysis; marks = (c.clause-lit-items.result.now, c.clause-lit-items.ensures.value, all) }
