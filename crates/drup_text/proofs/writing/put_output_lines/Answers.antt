use Rattle.std.proofs.Common.{◌++◌, ◌+◌, ◌∷◌, [], ap₂, drop, get_or}
use Rattle.graph_core.specs.Text.{newline}
use Rattle.mv_text.proofs.CallerLemmas.{Puts-is, up_to_more}
use Rattle.drup_text.specs.WrittenTexts.{output_lines_text, two_text}
use Rattle.drup_text.proofs.WrittenLoops.{next_output, no_output}
use Rattle.drup_text.proofs.writing.put_output_lines.Goals as goal

pub loop-item-preserved : goal.loop-item-preserved
loop-item-preserved g c =
    let i = c.loop-item.item-index in
    let outputs = c.args.outputs.now in
    let item = get_or outputs i no_output in
    record {
      «open» = c.put_two.ensures.open;
      puts = up_to_more (two_text item.0 item.1.0 ++ newline ∷ []) (output_lines_text (drop (i + 1) outputs)) (next_output outputs i no_output c.loop-item-test.true) c.loop-item.invariant.puts
          (Puts-is (ap₂ (λ a b. two_text a b ++ newline ∷ []) c.from.ensures c.from-in-loop-item.ensures) c.put_two.ensures.puts);
    }
