use Rattle.adder_finder.proofs.XorShapes.{xor_shape_is_xor as law}
use Rattle.adder_finder.proofs.laws.xor_shape_is_xor.Goals as goal

pub returns : goal.returns
returns c = law
