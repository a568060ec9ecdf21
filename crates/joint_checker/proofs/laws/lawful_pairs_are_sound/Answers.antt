use Rattle.joint_checker.proofs.Joined.{lawful_pairs_are_sound as law}
use Rattle.joint_checker.proofs.laws.lawful_pairs_are_sound.Goals as goal

pub returns : goal.returns
returns c = law
