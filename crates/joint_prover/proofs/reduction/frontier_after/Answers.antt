use Rattle.joint_prover.proofs.TakenLists.{columns_more, gates_more}
use Rattle.joint_prover.proofs.reduction.frontier_after.Goals as goal

pub loop-step-preserved : goal.loop-step-preserved
loop-step-preserved c =
    let i = c.loop-step.step-index in
    record {
      columns = columns_more _ _ i c.loop-step.columns.items c.push_step.new.columns.items c.loop-step-test.true c.loop-step.invariant.columns c.in_ok-push_step.ensures.columns;
      gates = gates_more _ _ i c.loop-step.gates.items c.push_step.new.gates.items c.loop-step-test.true c.loop-step.invariant.gates c.in_ok-push_step.ensures.gates;
    }
