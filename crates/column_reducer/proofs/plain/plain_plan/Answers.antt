use Rattle.std.proofs.Common.{◌≡◌, ◌++◌, map, length, ap, ◌∙◌}
use Rattle.std.specs.Prelude.{reverse}
use Rattle.frontier_core.specs.Sets.{count_from}
use Rattle.frontier_core.specs.Plan.{plain_steps}
use Rattle.frontier_core.specs.declared.step.Step.TheVariants.{Add, Eliminate}
use Rattle.column_reducer.proofs.PlainSteps.{alone_order, plan_made}
use Rattle.column_reducer.proofs.plain.plain_plan.Goals as goal

pub invariant_of-result : goal.invariant_of-result
invariant_of-result c =
    let e = c.args.extended.now in
    let keys = c.in_ok-order.order.items in
    let vs = reverse (map (λ key. key.1) keys) in
    let outputs : c.outputs-outputs.result ≡ length e.graph.outputs = c.outputs-outputs.ensures.value ∙ ap (λ g. length g.outputs) c.graph-graph.ensures in
    let order = alone_order e c.graph-graph.result.now.gates keys c.gates-gates.ensures.extension c.requires.alone (ap (λ g. g.gates) c.graph-graph.ensures) c.in_ok-order.ensures in
    let steps : c.in_ok-steps-2.steps.items ≡ plain_steps e vs = c.in_ok-steps-2.ensures ∙ ap (λ ss. ss ++ map Eliminate vs) (c.in_ok-steps.ensures ∙ ap (λ n. map Add (count_from 0 n)) outputs) in
    plan_made e vs c.in_ok-steps-2.steps.items c.outputs-outputs.result c.gates-gates.ensures.extension order steps outputs

pub returns-clause-plain : goal.returns-clause-plain
returns-clause-plain c =
    let e = c.args.extended.now in
    let keys = c.in_ok-order.order.items in
    let vs = reverse (map (λ key. key.1) keys) in
    let outputs : c.outputs-outputs.result ≡ length e.graph.outputs = c.outputs-outputs.ensures.value ∙ ap (λ g. length g.outputs) c.graph-graph.ensures in
    let order = alone_order e c.graph-graph.result.now.gates keys c.gates-gates.ensures.extension c.requires.alone (ap (λ g. g.gates) c.graph-graph.ensures) c.in_ok-order.ensures in
    (vs, order, c.in_ok-steps-2.ensures ∙ ap (λ ss. ss ++ map Eliminate vs) (c.in_ok-steps.ensures ∙ ap (λ n. map Add (count_from 0 n)) outputs))
