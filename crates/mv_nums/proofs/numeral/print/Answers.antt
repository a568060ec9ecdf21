use Rattle.std.proofs.Common.{arith}
use Rattle.std.proofs.lemmas.Grind.{common_steps}
use Rattle.mv_nums.proofs.Decimal.{shown_is_numeral}
use Rattle.mv_nums.proofs.numeral.print.Goals as goal

pub returns-clause-numeral : goal.returns-clause-numeral
returns-clause-numeral c = shown_is_numeral c.args.value _ c.ranges.value.fits (grind (arith, common_steps))
