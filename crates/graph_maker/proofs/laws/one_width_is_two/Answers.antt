use Rattle.graph_maker.proofs.MadeOfWidths.{one_width_is_two as law}
use Rattle.graph_maker.proofs.laws.one_width_is_two.Goals as goal

pub returns : goal.returns
returns c = law
