use Rattle.std.proofs.Common.{subst, sym}
use Rattle.std.specs.Prelude.{IfSome}
use Rattle.joint_prover.specs.Endings.{IsEndedWithFound}
use Rattle.joint_prover.specs.declared.replacement.Replacement.TheVariants.{Beside}
use Rattle.joint_prover.proofs.Choosing.{some_ended_over}
use Rattle.joint_prover.proofs.Noting.{placed_is_found}
use Rattle.joint_prover.proofs.plans.decide_with_reference.Goals as goal

pub returns : goal.returns
returns c =
    let job = c.args.job.now in
    let placed = c.args.placed in
    subst (λ o. IfSome o (IsEndedWithFound job)) (sym c.with_beside.ensures)
    (some_ended_over job (Beside placed.beside) c.in_ok-ended.ended (placed_is_found job.graph.now job.task.conflicts placed c.requires.shown c.requires.agree) c.in_ok-ended.ensures)
