use Rattle.std.proofs.Common.{◌≡◌, ◌+◌, length, arith, ap, ap₂, ◌∙◌}
use Rattle.std.proofs.lemmas.List.{take_at}
use Rattle.graph_core.specs.Graph.{evaluated}
use Rattle.graph_core.specs.Graph.Assignments.{listed, word}
use Rattle.graph_core.proofs.OfGraphs.CallerLemmas.{are_inputs, length-inputs_at, word_is_evaluated}
use Rattle.graph_core.proofs.OfGraphs.ValueSteps.{outputs_below}
use Rattle.graph_core.proofs.graph.Graph.value_at.Goals as goal

pub value_into-requires-clause-as_many : goal.value_into-requires-clause-as_many
value_into-requires-clause-as_many c =
    let made = ap length c.in_ok-inputs.ensures in
    let size = length-inputs_at c.args.operands.now c.args.numbers in
    let whole = ap length (are_inputs c.args.self.now c.args.operands.now c.requires.shape c.requires.operands) in
    omega (arith, ap length c.deref.ensures.value)

pub word_of-requires-clause-in_range : goal.word_of-requires-clause-in_range
word_of-requires-clause-in_range c k d below =
    let low = outputs_below c.args.self.now c.output_literals.ensures.built c.output_literals.result.now c.output_literals.ensures.value k d below in
    let seen = ap (λ g. g.max) c.self.view_is in
    let made = c.in_ok-values.ensures.len in
    let back = c.deref_mut.ensures.writes_back in
    let lent = ap length c.deref_mut.ensures.value in
    omega (arith, ap length c.deref-2.ensures.value)

pub returns : goal.returns
returns c =
    let seen = ap (λ g. length g.inputs) c.self.view_is in
    let kept = take_at c.value_into.new.values _ c.in_ok-values.values.len (omega (arith, c.value_into.auto.values, c.deref_mut.ensures.len)) in
    let bits = c.deref.ensures.value ∙ c.in_ok-inputs.ensures in
    c.word_of.ensures ∙ ap (λ vs. word (listed vs) c.output_literals.result.now) (c.deref-2.ensures.value ∙ kept) ∙
    word_is_evaluated c.args.self.now c.deref.result.now c.value_into.new.values c.value_into.ensures c.output_literals.result.now ∙
    ap₂ (λ given ls. word (evaluated c.args.self.now given) ls) bits c.output_literals.ensures.value
