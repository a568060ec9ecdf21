use Rattle.std.proofs.Common.{subst}
use Rattle.joint_prover.specs.Endings.{IsCompared}
use Rattle.joint_prover.proofs.Noting.{placed_by_more}
use Rattle.joint_prover.proofs.plans.decide_by_guess.Goals as goal

pub decide_with_reference-requires-clause-shown : goal.decide_with_reference-requires-clause-shown
decide_with_reference-requires-clause-shown c =
    let job = c.args.job.now in
    let compared = subst (IsCompared job c.args.conflicts) c.in-Equal.is c.in_ok-placed.ensures in
    placed_by_more job.graph.now c.args.conflicts job.task.conflicts c.in-Equal.placed c.requires.few compared.0
