use Rattle.pair_trim.proofs.Renumbering.{kept_pair_is_lawful as law}
use Rattle.pair_trim.proofs.laws.kept_pair_is_lawful.Goals as goal

pub returns : goal.returns
returns c = law
