use Rattle.std.proofs.Common.{◌≡◌, ◌<◌, ◌^◌, ℕ, List, arith, sym, subst}
use Rattle.std.specs.List.{All}
use Rattle.std.proofs.lemmas.Result.{IfOk-weaker}
use Rattle.clause_core.specs.Clause.{IsClauseInRange}
use Rattle.goal_refuter.specs.Refutations.{unmet_goals}
use Rattle.goal_refuter.specs.Refuting.{IsGoalsOutcome, IsOutcomeOver}
use Rattle.goal_refuter.proofs.GoalClauses.{sets_range}
use Rattle.graph_core.specs.declared.gate.Gate.{Gate}
use Rattle.miter_encoder.proofs.GateRanges.{within_range}
use Rattle.same_core.specs.Merged.{over}
use Rattle.same_core.proofs.MergedColumns.{are_over, goals_range}
use Rattle.same_core.proofs.solving.decide.Goals as goal

pub gate_clauses_of-requires : goal.gate_clauses_of-requires
gate_clauses_of-requires c =
    subst (λ (gates : List Gate). All (λ x. x.v < 2 ^ 31) gates) (sym c.gates-merged_gates.ensures)
    (λ k d below. let own = c.requires.within.own k d below in let small = c.requires.small in omega (arith, own.1, small))

pub refute_swept-requires-clause-small : goal.refute_swept-requires-clause-small
refute_swept-requires-clause-small c = subst (λ (m : ℕ). m < 2 ^ 31) (sym c.swept-swept.ensures) c.requires.small

pub refute_swept-requires-clause-clauses : goal.refute_swept-requires-clause-clauses
refute_swept-requires-clause-clauses c =
    let b = c.args.merged.now in
    let clauses = c.in_ok-clauses.clauses in
    let are = are_over b c.swept-swept.result.max c.gates-merged_gates.result.now c.pairs.result.now clauses c.in_ok-goals.goals c.swept-swept.ensures c.gates-merged_gates.ensures c.pairs.ensures c.in_ok-clauses.ensures.sets c.in_ok-goals.ensures in
    subst (λ (m : ℕ). All (IsClauseInRange m) clauses) (sym c.swept-swept.ensures) (within_range b.max b.gates clauses c.requires.within are.clauses_are)

pub refute_swept-requires-clause-goals : goal.refute_swept-requires-clause-goals
refute_swept-requires-clause-goals c =
    let b = c.args.merged.now in
    let goals = c.in_ok-goals.goals in
    let are = are_over b c.swept-swept.result.max c.gates-merged_gates.result.now c.pairs.result.now c.in_ok-clauses.clauses goals c.swept-swept.ensures c.gates-merged_gates.ensures c.pairs.ensures c.in_ok-clauses.ensures.sets c.in_ok-goals.ensures in
    subst (λ (m : ℕ). All (IsClauseInRange m) goals) (sym c.swept-swept.ensures) (sets_range b.max goals (unmet_goals (over b)) are.goals_are (goals_range b c.requires))

pub refute_swept-requires-clause-over : goal.refute_swept-requires-clause-over
refute_swept-requires-clause-over c = (
  over c.args.merged.now,
  are_over c.args.merged.now c.swept-swept.result.max c.gates-merged_gates.result.now c.pairs.result.now c.in_ok-clauses.clauses c.in_ok-goals.goals c.swept-swept.ensures c.gates-merged_gates.ensures c.pairs.ensures c.in_ok-clauses.ensures.sets
      c.in_ok-goals.ensures,
)

pub returns : goal.returns
returns c =
    let e = over c.args.merged.now in
    let clauses = c.in_ok-clauses.clauses in
    let goals = c.in_ok-goals.goals in
    let max = c.swept-swept.result.max in
    let are = are_over c.args.merged.now max c.gates-merged_gates.result.now c.pairs.result.now clauses goals c.swept-swept.ensures c.gates-merged_gates.ensures c.pairs.ensures c.in_ok-clauses.ensures.sets c.in_ok-goals.ensures in
    IfOk-weaker c.refute_swept.result (IsOutcomeOver max clauses goals c.args.conflicts) (IsGoalsOutcome e c.args.conflicts) (λ o outcome. outcome e are) c.refute_swept.ensures
