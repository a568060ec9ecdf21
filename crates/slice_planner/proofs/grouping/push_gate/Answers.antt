use Rattle.std.specs.List.{Contains}
use Rattle.slice_planner.proofs.GroupSteps.{all_pushed}
use Rattle.slice_planner.proofs.grouping.push_gate.Goals as goal

pub returns-in-Some-clause-gates : goal.returns-in-Some-clause-gates
returns-in-Some-clause-gates c =
    all_pushed (Contains c.args.extended.now.gates) c.args.gates.now.items c.push.new.self.items c.in-Some.gate c.in_ok-push.ensures.items c.requires c.in-Some.ensures
