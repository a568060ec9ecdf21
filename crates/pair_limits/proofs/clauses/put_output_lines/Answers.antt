use Rattle.std.proofs.Common.{◌++◌, ◌+◌, ◌∷◌, [], ap, ap₂, drop, get_or}
use Rattle.std.proofs.lemmas.List.{drop_all}
use Rattle.graph_core.specs.Text.{newline}
use Rattle.drup_text.specs.WrittenTexts.{output_lines_text, two_text}
use Rattle.drup_text.proofs.WrittenLoops.{next_output, no_output}
use Rattle.pair_limits.proofs.Behind.{up_to_all, up_to_more, text_is}
use Rattle.pair_limits.proofs.clauses.put_output_lines.Goals as goal

pub loop-output-preserved : goal.loop-output-preserved
loop-output-preserved c =
    let i = c.loop-output.output-index in
    let outputs = c.args.outputs.now in
    let output = get_or outputs i no_output in
    up_to_more (two_text output.0 output.1.0 ++ newline ∷ []) (output_lines_text (drop (i + 1) outputs)) (next_output outputs i no_output c.loop-output-test.true) c.loop-output.invariant
    (text_is (ap₂ (λ a b. two_text a b ++ newline ∷ []) c.from.ensures c.from-in-loop-output.ensures) c.put_two.ensures)

pub returns : goal.returns
returns c = up_to_all (ap output_lines_text (drop_all c.loop-output.output-index c.args.outputs.now c.loop-output-test.false)) c.loop-output.invariant
