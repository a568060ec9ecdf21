use Rattle.pair_trim.proofs.KeptLines.{kept_lines_are_lawful as law}
use Rattle.pair_trim.proofs.laws.kept_lines_are_lawful.Goals as goal

pub returns : goal.returns
returns c = law
