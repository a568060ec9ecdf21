use Rattle.std.proofs.Common.{◌≡◌, arith, w32, SFits, Some, rules}
use Rattle.std.proofs.lemmas.Int.{to_z-of_z}
use Rattle.unit_prop.specs.Standing.{IsReasonOf}
use Rattle.unit_prop.specs.Trail.{signed_variable}
use Rattle.cdcl_solver.proofs.AnalysisLemmas.{early_false, reason_stands}
use Rattle.cdcl_solver.proofs.Trails.{false_range}
use Rattle.cdcl_solver.proofs.analysis.Analysis.follows.Goals as goal

pub reason-requires : goal.reason-requires
reason-requires c =
    let s = c.args.propagator.now in
    let fits : SFits w32 c.args.lit = search rules in
    let var : c.variable.result ≡ signed_variable c.args.lit = rw to_z-of_z at c.variable.ensures in
    let range = false_range s c.args.lit c.requires.sound (early_false s c.args.self.now c.args.lit c.requires.analysis c.requires.own) in
    record { some = omega (arith, var, range.0); within = omega (arith, var, range.1) }

pub saw-requires-clause-standing : goal.saw-requires-clause-standing
saw-requires-clause-standing c =
    let is : IsReasonOf c.args.propagator.now.trail c.variable.result (Some c.in-Some.reason) = rw c.in-Some.is at c.reason.ensures in
    reason_stands c.args.propagator.now is.0 c.in-Some.reason c.requires.sound is.1 is.3
