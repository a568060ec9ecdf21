use Rattle.std.proofs.Common.{subst}
use Rattle.stage_rewriter.specs.Placing.{AgreesBeside, IsPlacing}
use Rattle.joint_prover.proofs.reference.compare.Goals as goal

pub returns-in-Shown : goal.returns-in-Shown
returns-in-Shown c =
    let job = c.args.job.now in
    let placing = subst (IsPlacing job.graph.now job.operands.now c.args.conflicts _) c.in-Shown.is c.in_ok-placed.ensures.placing in
    (placing.1, subst AgreesBeside c.in-Shown.is c.in_ok-placed.ensures.agrees)
