use Rattle.std.proofs.Common.{◌<◌, ℕ, List, length, sym, subst}
use Rattle.std.specs.List.{All}
use Rattle.std.proofs.lemmas.Result.{IfOk-weaker}
use Rattle.graph_core.specs.declared.literal.Lit.{Lit}
use Rattle.graph_core.specs.Graph.{Aig}
use Rattle.clause_core.specs.Clause.{IsClauseInRange}
use Rattle.goal_refuter.specs.Refutations.{unmet_goals}
use Rattle.goal_refuter.specs.Refuting.{AreOver, IsGoalsOutcome, IsOutcomeOver}
use Rattle.goal_refuter.proofs.GoalClauses.{sets_range}
use Rattle.gate_sweeper.proofs.ColumnGoals.{goals_range}
use Rattle.gate_sweeper.proofs.Replaced.{columns_within, goals_of_pairs}
use Rattle.gate_sweeper.proofs.extended.show_extended.Goals as goal

pub pairs_of-requires : goal.pairs_of-requires
pairs_of-requires c =
    let e = c.args.extended.now in
    subst (λ (g : Aig). All (λ o. o.0 < length g.outputs) c.as_slice.result.now) (sym c.graph.ensures)
    (subst (λ (outputs : List (ℕ × Lit)). All (λ o. o.0 < length e.graph.outputs) outputs) (sym c.as_slice.ensures) (columns_within e.graph c.args.beside.now c.requires.beside))

pub refute_swept-requires-clause-goals : goal.refute_swept-requires-clause-goals
refute_swept-requires-clause-goals c =
    let e = c.args.extended.now in
    let goals = c.in_ok-goals.goals in
    let same = goals_of_pairs e c.args.beside.now c.graph.result.now c.as_slice.result.now c.in_ok-pairs.pairs.items c.deref.result.now goals c.requires.beside c.requires.graph c.graph.ensures c.as_slice.ensures c.in_ok-pairs.ensures
    c.deref.ensures.value c.in_ok-goals.ensures in
    subst (λ (m : ℕ). All (IsClauseInRange m) goals) (sym c.max-max.ensures.value) (sets_range e.max goals (unmet_goals e) same (goals_range e c.max-max.ensures.extension))

pub refute_swept-requires-clause-over : goal.refute_swept-requires-clause-over
refute_swept-requires-clause-over c =
    let e = c.args.extended.now in (
      e,
      record {
        max_is = sym c.max-max.ensures.value;
        clauses_are = c.in_ok-clauses.ensures.sets;
        goals_are = goals_of_pairs e c.args.beside.now c.graph.result.now c.as_slice.result.now c.in_ok-pairs.pairs.items c.deref.result.now c.in_ok-goals.goals c.requires.beside c.requires.graph c.graph.ensures c.as_slice.ensures
            c.in_ok-pairs.ensures c.deref.ensures.value c.in_ok-goals.ensures;
      },
    )

pub returns : goal.returns
returns c =
    let e = c.args.extended.now in
    let max = c.max-max.result in
    let clauses = c.in_ok-clauses.clauses in
    let goals = c.in_ok-goals.goals in
    let over : AreOver e max clauses goals = record {
      max_is = sym c.max-max.ensures.value;
      clauses_are = c.in_ok-clauses.ensures.sets;
      goals_are = goals_of_pairs e c.args.beside.now c.graph.result.now c.as_slice.result.now c.in_ok-pairs.pairs.items c.deref.result.now goals c.requires.beside c.requires.graph c.graph.ensures c.as_slice.ensures
          c.in_ok-pairs.ensures c.deref.ensures.value c.in_ok-goals.ensures;
    } in
    IfOk-weaker c.refute_swept.result (IsOutcomeOver max clauses goals c.args.conflicts) (IsGoalsOutcome e c.args.conflicts) (λ o outcome. outcome e over) c.refute_swept.ensures
