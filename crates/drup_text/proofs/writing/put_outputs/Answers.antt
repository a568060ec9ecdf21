use Rattle.std.proofs.Common.{length}
use Rattle.std.specs.Prelude.{decimal}
use Rattle.mv_text.proofs.CallerLemmas.{Puts-is, Puts-then}
use Rattle.drup_text.specs.WrittenTexts.{output_lines_text}
use Rattle.drup_text.proofs.WrittenLoops.{outputs_end}
use Rattle.drup_text.proofs.writing.put_outputs.Goals as goal

pub returns-clause-puts : goal.returns-clause-puts
returns-clause-puts g c =
    Puts-is (outputs_end (decimal (length c.args.outputs.now)) (output_lines_text c.args.outputs.now))
    (Puts-then (Puts-then (Puts-then c.put.ensures.puts c.put_number.ensures.puts) c.put-2.ensures.puts) c.put_output_lines.ensures.puts)
