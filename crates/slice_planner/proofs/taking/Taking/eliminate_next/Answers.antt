use Rattle.slice_planner.proofs.GroupSteps.{ready_now}
use Rattle.slice_planner.proofs.taking.Taking.eliminate_next.Goals as goal

pub eliminate-requires-clause-ready : goal.eliminate-requires-clause-ready
eliminate-requires-clause-ready c =
    let w = c.self.inside in
    ready_now w.extended.now w.steps.items w.below w.gone.items w.readers.items c.self.invariant c.gates-gates.ensures.extension c.args.self.now c.args.gate.v c.self.view_is c.requires.next
