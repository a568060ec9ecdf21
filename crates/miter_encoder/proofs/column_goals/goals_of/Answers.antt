use Rattle.std.proofs.Common.{arith}
use Rattle.graph_core.specs.declared.literal.Lit.{Lit}
use Rattle.miter_encoder.proofs.PairGoals.{no_goals, pairs_all, pairs_mean, pairs_more}
use Rattle.miter_encoder.proofs.column_goals.goals_of.Goals as goal

pub loop-column-init : goal.loop-column-init
loop-column-init c = rw c.new-goals.ensures no_goals

pub loop-column-preserved : goal.loop-column-preserved
loop-column-preserved c =
    let none : Lit × Lit = (record { 0 = 0 }, record { 0 = 0 }) in
    pairs_more c.args.pairs.now c.loop-column.column none c.loop-column.goals c.push_column.new.goals (omega arith) c.loop-column.invariant c.in_ok-push_column.ensures

pub returns-clause-sets : goal.returns-clause-sets
returns-clause-sets c = pairs_all c.args.pairs.now c.loop-column.column c.loop-column.goals (omega arith) c.loop-column.invariant

pub returns-clause-meaning : goal.returns-clause-meaning
returns-clause-meaning c = pairs_mean c.args.pairs.now c.loop-column.goals (returns-clause-sets c)
