use Rattle.std.proofs.Common.{arith}
use Rattle.graph_core.specs.declared.literal.Lit.{Lit}
use Rattle.goal_refuter.proofs.GoalClauses.{pairs_goals, pairs_goals_all}
use Rattle.goal_refuter.proofs.goals.pair_goals.Goals as goal

pub loop-place-preserved : goal.loop-place-preserved
loop-place-preserved c =
    let none : Lit × Lit = (record { 0 = 0 }, record { 0 = 0 }) in
    pairs_goals c.args.pairs.now c.loop-place.place none c.loop-place.goals c.push_goals.new.goals (omega arith) c.loop-place.invariant c.in_ok-push_goals.ensures

pub returns : goal.returns
returns c = pairs_goals_all c.args.pairs.now c.loop-place.place c.loop-place.goals (omega arith) c.loop-place.invariant
