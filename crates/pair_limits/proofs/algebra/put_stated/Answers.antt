use Rattle.pair_limits.proofs.Behind.{text_then}
use Rattle.pair_limits.proofs.algebra.put_stated.Goals as goal

pub returns : goal.returns
returns c = text_then c.put_poly.ensures c.put.ensures
