use Rattle.adder_finder.proofs.FinalStages.{final_stage_is_one as law}
use Rattle.adder_finder.proofs.laws.final_stage_is_one.Goals as goal

pub returns : goal.returns
returns c = law
