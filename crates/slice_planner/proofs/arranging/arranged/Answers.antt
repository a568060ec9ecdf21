use Rattle.slice_planner.proofs.GroupSteps.{of_reversed}
use Rattle.slice_planner.proofs.arranging.arranged.Goals as goal

pub are_adders-requires : goal.are_adders-requires
are_adders-requires c = of_reversed c.args.extended.now.gates c.gates.result.now c.in_ok-arrangement.arrangement.gates c.gates.ensures.value c.in_ok-arrangement.ensures.gates

pub returns-then-branch-clause-gates : goal.returns-then-branch-clause-gates
returns-then-branch-clause-gates c = of_reversed c.args.extended.now.gates c.gates.result.now c.in_ok-arrangement.arrangement.gates c.gates.ensures.value c.in_ok-arrangement.ensures.gates
