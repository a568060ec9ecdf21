use Rattle.drup_checker.proofs.StepLaws.{added_are_right as law}
use Rattle.drup_checker.proofs.laws.added_are_right.Goals as goal

pub returns : goal.returns
returns c = law
