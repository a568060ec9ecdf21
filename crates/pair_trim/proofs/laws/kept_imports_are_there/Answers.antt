use Rattle.pair_trim.proofs.Renumbering.{kept_imports_are_there as law}
use Rattle.pair_trim.proofs.laws.kept_imports_are_there.Goals as goal

pub returns : goal.returns
returns c = law
