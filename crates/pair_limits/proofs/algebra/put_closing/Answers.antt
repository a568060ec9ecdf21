use Rattle.pair_limits.proofs.Behind.{text_then}
use Rattle.pair_limits.proofs.algebra.put_closing.Goals as goal

pub returns : goal.returns
returns c = text_then c.put.ensures c.put_id.ensures
