use Rattle.std.proofs.Common.{◌≡◌, length, w32, SFits, ap, arith, rules}
use Rattle.std.proofs.lemmas.Int.{to_z-of_z}
use Rattle.clause_core.proofs.Places.{contains_at}
use Rattle.unit_prop.specs.Standing.{at}
use Rattle.unit_prop.specs.Trail.{signed_variable}
use Rattle.cdcl_solver.specs.Analyses.{AnalysisView}
use Rattle.cdcl_solver.proofs.Trails.{trail_of}
use Rattle.cdcl_solver.proofs.analysis.Analysis.saw.Goals as goal

pub has-requires : goal.has-requires
has-requires c =
    let s = c.args.propagator.now in
    let lits = c.clause-lit-items.result.now in
    let l = at lits c.loop-lit.lit-index in
    let fits : SFits w32 (at c.clause-lit-items.result.now c.loop-lit.lit-index) = search rules in
    let var : c.variable.result ≡ signed_variable (at c.clause-lit-items.result.now c.loop-lit.lit-index) = rw to_z-of_z at c.variable.ensures in
    let place = c.requires.standing lits c.clause-lit-items.ensures.value l (contains_at lits c.loop-lit.lit-index c.loop-lit-test.true) in
    omega (arith, var, place.1.1, ((trail_of s c.requires.sound).in_range place.0 place.1.0).1, c.requires.analysis.sizes.0, ap (λ (a : AnalysisView). length a.seen) c.self.view_is)
