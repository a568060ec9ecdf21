use Rattle.ripple_graft.proofs.BesideGraphs.{evaluations_go_on_beside as law}
use Rattle.ripple_graft.proofs.laws.evaluations_go_on_beside.Goals as goal

pub returns : goal.returns
returns c = law
