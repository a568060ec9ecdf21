use Rattle.goal_refuter.proofs.LogLines.{refuted_is_lawful as law}
use Rattle.goal_refuter.proofs.laws.refuted_is_lawful.Goals as goal

pub returns : goal.returns
returns c = law
