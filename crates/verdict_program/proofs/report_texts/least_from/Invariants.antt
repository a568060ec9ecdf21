use Rattle.std.specs.Prelude.{◌≡◌, take}
use Rattle.verdict_program.specs.Answer.{least_from}
use Rattle.verdict_program.proofs.report_texts.least_from.Given as goal

abbrev pub invariant-loop-output : goal.invariant-loop-output
invariant-loop-output l = l.least ≡ least_from l.fn.column (take l.output-index l.outputs)
