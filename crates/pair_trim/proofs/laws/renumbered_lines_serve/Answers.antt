use Rattle.pair_trim.proofs.UsedLines.{renumbered_lines_serve as law}
use Rattle.pair_trim.proofs.laws.renumbered_lines_serve.Goals as goal

pub returns : goal.returns
returns c = law
