use Rattle.adder_finder.proofs.FitCuts.{fit_is_cut as law}
use Rattle.adder_finder.proofs.laws.fit_is_cut.Goals as goal

pub returns : goal.returns
returns c = law
