use Rattle.std.proofs.Common.{◌≡◌, ◌≢◌, ◌+◌, ℕ, List, Bool, AllPairs, length, take, get_or, slice_set, arith, sym, ap, subst, ◌∙◌}
use Rattle.std.proofs.lemmas.List.{length-map}
use Rattle.graph_core.specs.declared.gate.Gate.{Gate}
use Rattle.graph_core.specs.Graph.Literals.{variable_of}
use Rattle.graph_core.specs.Graph.Assignments.{listed}
use Rattle.graph_core.specs.Graph.{evaluated, of_inputs}
use Rattle.graph_core.specs.Graph.Tables.{IsSettled}
use Rattle.graph_core.proofs.OfGraphs.CallerLemmas.{all_gates_written, constant_written, gate_in_range, inputs_apart, inputs_written, next_written}
use Rattle.operand_search.specs.Lanes.{lane, truth}
use Rattle.operand_search.proofs.Bits.{lane_set}
use Rattle.operand_search.proofs.simulation.words_into.Goals as goal

abbrev no_gate : Gate
no_gate = record { v = 0; left = record { 0 = 0 }; right = record { 0 = 0 } }

pub inputs_into-requires-clause-apart : goal.inputs_into-requires-clause-apart
inputs_into-requires-clause-apart c =
    subst (AllPairs (λ l m. variable_of l ≢ variable_of m)) (sym c.input_literals.ensures.value) (inputs_apart c.args.graph.now c.input_literals.ensures.built.well_formed)

pub loop-gate-init : goal.loop-gate-init
loop-gate-init c i h =
    inputs_written c.args.graph.now c.input_literals.ensures.built.well_formed (lane i c.args.inputs.now) (lane i c.inputs_into.new.words)
    (λ v. c.inputs_into.ensures i v ∙ ap (λ ls. of_inputs ls (lane i c.args.inputs.now) v) c.input_literals.ensures.value)

pub gate_word-requires-clause-left : goal.gate_word-requires-clause-left
gate_word-requires-clause-left c =
    let g = c.args.graph.now in
    let order = c.schedule-gate-items.ensures.schedule in
    let range = gate_in_range g c.input_literals.ensures.built.well_formed _ (order.some c.loop-gate.gate-index no_gate c.loop-gate-test.true) in
    let left = range.left in
    let room = c.requires.room in
    omega arith

pub gate_word-requires-clause-right : goal.gate_word-requires-clause-right
gate_word-requires-clause-right c =
    let g = c.args.graph.now in
    let order = c.schedule-gate-items.ensures.schedule in
    let range = gate_in_range g c.input_literals.ensures.built.well_formed _ (order.some c.loop-gate.gate-index no_gate c.loop-gate-test.true) in
    let right = range.right in
    let room = c.requires.room in
    omega arith

pub gate_word-requires-clause-constant : goal.gate_word-requires-clause-constant
gate_word-requires-clause-constant c i h =
    constant_written c.args.graph.now c.input_literals.ensures.built.well_formed (lane i c.args.inputs.now) (take c.loop-gate.gate-index c.schedule-gate-items.result.now)
    (lane i c.loop-gate.words) (c.loop-gate.invariant i h)

pub bounds-words-gate : goal.bounds-words-gate
bounds-words-gate c =
    let g = c.args.graph.now in
    let order = c.schedule-gate-items.ensures.schedule in
    let range = gate_in_range g c.input_literals.ensures.built.well_formed _ (order.some c.loop-gate.gate-index no_gate c.loop-gate-test.true) in
    let own = range.own in
    let room = c.requires.room in
    omega arith

pub loop-gate-preserved : goal.loop-gate-preserved
loop-gate-preserved c i h =
    let g = c.args.graph.now in
    let schedule = c.schedule-gate-items.result.now in
    let k = c.loop-gate.gate-index in
    let words = c.loop-gate.words in
    let x = get_or schedule k no_gate in
    let bits = lane i c.args.inputs.now in
    let room = c.requires.room in
    let kept = c.loop-gate.auto.words in
    let size : length (lane i words) ≡ g.max + 1 = omega (arith, length-map words (truth i)) in
    let P : List Bool → Type 0 = λ values. (v : ℕ) → IsSettled g.gates (take (k + 1) schedule) v → listed values v ≡ evaluated g bits v in
    subst P (sym (lane_set i words x.v c.gate_word.result ∙ ap (slice_set (lane i words) x.v) (c.gate_word.ensures i h)))
    (next_written g c.input_literals.ensures.built.well_formed bits schedule c.schedule-gate-items.ensures.schedule (lane i words) k no_gate c.loop-gate-test.true size (c.loop-gate.invariant i h))

pub returns : goal.returns
returns c i h =
    all_gates_written c.args.graph.now c.input_literals.ensures.built.well_formed (lane i c.args.inputs.now) c.schedule-gate-items.result.now c.schedule-gate-items.ensures.schedule
    (lane i c.loop-gate.words) c.loop-gate.gate-index c.loop-gate-test.false (c.loop-gate.invariant i h)
