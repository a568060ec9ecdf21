use Rattle.ripple_graft.proofs.BesideGraphs.{beside_extends as law}
use Rattle.ripple_graft.proofs.laws.beside_extends.Goals as goal

pub returns : goal.returns
returns c = law
