use Rattle.pair_trim.proofs.Renumbering.{kept_lines_are_writable as law}
use Rattle.pair_trim.proofs.laws.kept_lines_are_writable.Goals as goal

pub returns : goal.returns
returns c = law
