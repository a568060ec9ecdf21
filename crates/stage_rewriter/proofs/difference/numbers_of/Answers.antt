use Rattle.std.proofs.Common.{◌≡◌, List, length, slice_index_or, sym, ap, ◌∙◌, arith}
use Rattle.std.proofs.lemmas.List.{length-map}
use Rattle.graph_core.specs.declared.literal.Lit.{Lit}
use Rattle.graph_core.specs.Graph.Assignments.{literal}
use Rattle.cdcl_solver.specs.Solving.{assignment_of}
use Rattle.gate_sweeper.proofs.Values.{map_all, map_more}
use Rattle.graph_core.proofs.OfGraphs.CallerLemmas.{length-literals}
use Rattle.stage_rewriter.proofs.difference.numbers_of.Goals as goal

pub loop-lit-preserved : goal.loop-lit-preserved
loop-lit-preserved c =
    let f = literal (assignment_of c.args.values.now) in
    let lits = c.args.graph.now.inputs in
    let i = c.loop-lit.lit-index in
    let d : Lit = record { 0 = 0 } in
    let same : c.input_literals-lit-items.result.now ≡ lits = c.input_literals-lit-items.ensures.value in
    let value : c.value_of.result ≡ f (slice_index_or lits i d) = c.value_of.ensures ∙ ap (λ (ls : List Lit). f (slice_index_or ls i d)) same in
    c.in_ok-push.ensures.items ∙ map_more f lits i d c.loop-lit.inputs.items c.value_of.result (omega (arith, ap length same)) c.loop-lit.invariant value

pub numbers_of-requires : goal.numbers_of-requires
numbers_of-requires c =
    let g = c.args.graph.now in
    let s = c.args.operands.now in
    let all = map_all (literal (assignment_of c.args.values.now)) g.inputs c.loop-lit.lit-index c.loop-lit.inputs.items (omega (arith, ap length c.input_literals-lit-items.ensures.value)) c.loop-lit.invariant in
    record {
      as_many = ap length (c.deref.ensures.value ∙ all) ∙ length-map g.inputs (literal (assignment_of c.args.values.now)) ∙
          sym (length-literals g s c.requires.shape c.requires.operands);
    }

pub returns-clause-inputs : goal.returns-clause-inputs
returns-clause-inputs c =
    let all = map_all (literal (assignment_of c.args.values.now)) c.args.graph.now.inputs c.loop-lit.lit-index c.loop-lit.inputs.items (omega (arith, ap length c.input_literals-lit-items.ensures.value)) c.loop-lit.invariant in
    sym all ∙ sym c.deref.ensures.value ∙ c.numbers_of.ensures.inputs
