use Rattle.std.proofs.Common.{length}
use Rattle.std.specs.Prelude.{decimal}
use Rattle.drup_text.specs.WrittenTexts.{output_lines_text}
use Rattle.drup_text.proofs.WrittenLoops.{outputs_end}
use Rattle.pair_limits.proofs.Behind.{text_is, text_then}
use Rattle.pair_limits.proofs.clauses.put_outputs.Goals as goal

pub returns : goal.returns
returns c =
    text_is (outputs_end (decimal (length c.args.outputs.now)) (output_lines_text c.args.outputs.now))
    (text_then (text_then (text_then c.put.ensures c.put_number.ensures) c.put-2.ensures) c.put_output_lines.ensures)
