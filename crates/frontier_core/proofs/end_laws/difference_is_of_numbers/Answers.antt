use Rattle.frontier_core.proofs.LeastValues.{difference_is_of_numbers as law}
use Rattle.frontier_core.proofs.end_laws.difference_is_of_numbers.Goals as goal

pub returns : goal.returns
returns c = law
