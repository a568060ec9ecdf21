use Rattle.std.proofs.lemmas.Result.{IfOk-weaker}
use Rattle.goal_refuter.specs.Beginnings.{IsOutcomeBehind, IsOutcomeFor}
use Rattle.std.proofs.Common.{false}
use Rattle.goal_refuter.proofs.refuting.refute_behind.Goals as goal

pub refute_each-requires-clause-over : goal.refute_each-requires-clause-over
refute_each-requires-clause-over c = (c.requires.over.0, c.requires.over.1, c.requires.over.2, (c.requires.over.3, tt))

pub returns : goal.returns
returns c =
    IfOk-weaker c.refute_each.result (IsOutcomeFor false c.args.solver.now c.args.begun c.args.goals.now c.args.conflicts) (IsOutcomeBehind c.args.solver.now c.args.begun c.args.goals.now c.args.conflicts)
    (λ o outcome e given over begun. outcome e given over (begun, tt)) c.refute_each.ensures
