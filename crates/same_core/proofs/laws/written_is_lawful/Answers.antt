use Rattle.same_core.proofs.Wholes.{written_is_lawful as law}
use Rattle.same_core.proofs.laws.written_is_lawful.Goals as goal

pub returns : goal.returns
returns c = law
