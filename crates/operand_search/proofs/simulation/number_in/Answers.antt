use Rattle.std.proofs.Common.{◌*◌, ◌+◌, arith, ap, ap₂, ◌∙◌}
use Rattle.graph_core.specs.declared.literal.Lit.{Lit}
use Rattle.graph_core.specs.Graph.Assignments.{bit, listed}
use Rattle.graph_core.proofs.OfGraphs.CallerLemmas.{bit_low, byte_is_bit, word_fits, word_step}
use Rattle.operand_search.specs.Lanes.{lane}
use Rattle.operand_search.proofs.simulation.number_in.Goals as goal

pub overflow_mul-number : goal.overflow_mul-number
overflow_mul-number c =
    let fits = word_fits (listed (lane c.args.place c.args.words.now)) c.args.lits.now c.loop-k.k c.loop-k-test.true c.requires.narrow in
    let same = c.loop-k.invariant in
    omega arith

pub overflow_add-number : goal.overflow_add-number
overflow_add-number c =
    let fits = word_fits (listed (lane c.args.place c.args.words.now)) c.args.lits.now c.loop-k.k c.loop-k-test.true c.requires.narrow in
    let same = c.loop-k.invariant in
    let byte = byte_is_bit c.is_true_in.result in
    let low = bit_low c.is_true_in.result in
    let value = c.from.ensures in
    omega arith

pub loop-k-preserved : goal.loop-k-preserved
loop-k-preserved c =
    let d : Lit = record { 0 = 0 } in
    let σ = listed (lane c.args.place c.args.words.now) in
    ap₂ (λ w b. 2 * w + b) c.loop-k.invariant (c.from.ensures ∙ byte_is_bit c.is_true_in.result ∙ ap bit c.is_true_in.ensures) ∙
    word_step σ c.args.lits.now c.loop-k.k d c.loop-k-test.true c.loop-k.auto.k
