use Rattle.std.proofs.Common.{◌≡◌, ◌<◌, List, Some, length, slice_index_or, sym, ap, ◌∙◌, subst, arith, true≢false}
use Rattle.std.specs.List.{slice_get}
use Rattle.std.proofs.lemmas.Option.{slice_get-get_or}
use Rattle.graph_core.specs.declared.literal.Lit.{Lit}
use Rattle.miter_encoder.proofs.GoalLists.{goals_all, goals_more, goals_same}
use Rattle.miter_encoder.proofs.column_goals.goals.Goals.{then-replaced+in_ok-push_column, else-replaced}
use Rattle.miter_encoder.proofs.Meanings.{goals_mean}
use Rattle.miter_encoder.proofs.column_goals.goals.Goals as goal

pub loop-column-preserved : goal.loop-column-preserved
loop-column-preserved c =
    let e = c.args.extended.now in
    let outputs : c.output_literals-outputs.result.now ≡ e.graph.outputs = c.output_literals-outputs.ensures.value ∙ ap (λ g. g.outputs) c.graph.ensures in
    let low : c.loop-column.column < length c.output_literals-outputs.result.now = omega arith in
    let old : Lit = slice_index_or c.output_literals-outputs.result.now c.loop-column.column (record { 0 = 0 }) in
    let olds : slice_get e.graph.outputs c.loop-column.column ≡ Some old = subst (λ (ls : List Lit). slice_get ls c.loop-column.column ≡ Some old) outputs (slice_get-get_or c.output_literals-outputs.result.now c.loop-column.column (record { 0 = 0 }) low) in
    elim c.if-replaced.branch [
      | then-replaced+in_ok-push_column w ↦
          rw w.goals-is (goals_more e c.loop-column.goals c.loop-column.column c.loop-column.invariant c.gates-gates.ensures.extension old w.new_output-new.result olds w.new_output-new.ensures w.push_column.new.goals
          (c.replaced.ensures.0 w.if-replaced.true) w.in_ok-push_column.ensures)
      | else-replaced w ↦ rw w.goals-is (goals_same e c.loop-column.goals c.loop-column.column c.loop-column.invariant (λ some. true≢false (sym (c.replaced.ensures.1 some) ∙ w.if-replaced.false)))
    ]

pub returns-clause-sets : goal.returns-clause-sets
returns-clause-sets c =
    let outputs : c.output_literals-outputs.result.now ≡ c.args.extended.now.graph.outputs = c.output_literals-outputs.ensures.value ∙ ap (λ g. g.outputs) c.graph.ensures in
    goals_all c.args.extended.now c.loop-column.goals c.loop-column.column c.gates-gates.ensures.extension c.loop-column.invariant (omega (arith, ap length outputs))

pub returns-clause-meaning : goal.returns-clause-meaning
returns-clause-meaning c = goals_mean c.args.extended.now c.loop-column.goals (returns-clause-sets c)
