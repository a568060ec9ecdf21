use Rattle.std.proofs.Common.{drop}
use Rattle.drup_text.specs.WrittenTexts.{output_lines_text}
use Rattle.pair_limits.proofs.Behind.{TakesUpTo}
use Rattle.pair_limits.proofs.clauses.put_output_lines.Given as goal

abbrev pub invariant-loop-output : goal.invariant-loop-output
invariant-loop-output l = TakesUpTo (output_lines_text l.outputs) (output_lines_text (drop l.output-index l.outputs)) l.initial.room l.room
