use Rattle.std.proofs.Common.{◌≡◌, ◌<◌, ◌≤◌, List, Some, length, slice_index_or, ap, ◌∙◌, subst, arith}
use Rattle.std.specs.List.{slice_get}
use Rattle.std.proofs.lemmas.Option.{slice_get-get_or}
use Rattle.graph_core.specs.declared.literal.Lit.{Lit}
use Rattle.stage_rewriter.proofs.Columns.{goals_all, goals_more, goals_none}
use Rattle.stage_rewriter.proofs.goals.unmet_goals.Goals as goal

pub loop-column-init : goal.loop-column-init
loop-column-init c = rw c.new-goals.ensures (goals_none c.args.extended.now c.args.cut.now c.requires.cut c.requires.graph)

pub loop-column-preserved : goal.loop-column-preserved
loop-column-preserved c =
    let e = c.args.extended.now in
    let k = c.loop-column.column in
    let outputs : c.output_literals-outputs.result.now ≡ e.graph.outputs = c.output_literals-outputs.ensures.value ∙ ap (λ g. g.outputs) c.graph.ensures in
    let below : k < length c.output_literals-outputs.result.now = omega arith in
    let low : c.args.cut.now.lo ≤ k = omega arith in
    let old : Lit = slice_index_or c.output_literals-outputs.result.now k (record { 0 = 0 }) in
    let olds : slice_get e.graph.outputs k ≡ Some old = subst (λ (ls : List Lit). slice_get ls k ≡ Some old) outputs (slice_get-get_or c.output_literals-outputs.result.now k (record { 0 = 0 }) below) in
    goals_more e c.args.cut.now c.requires.cut c.requires.graph c.gates-gates.ensures.extension k old c.new_output-new.result c.loop-column.goals c.push_goals.new.goals low (omega (arith, ap length outputs))
    olds c.new_output-new.ensures c.loop-column.invariant c.in_ok-push_goals.ensures

pub returns : goal.returns
returns c =
    let outputs : c.output_literals-outputs.result.now ≡ c.args.extended.now.graph.outputs = c.output_literals-outputs.ensures.value ∙ ap (λ g. g.outputs) c.graph.ensures in
    goals_all c.args.extended.now c.args.cut.now c.requires.cut c.requires.graph c.loop-column.column c.loop-column.goals (omega (arith, ap length outputs)) c.loop-column.invariant
