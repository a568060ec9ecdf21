use Rattle.std.proofs.Common.{ap, decimal}
use Rattle.pair_limits.proofs.Behind.{text_is, text_then}
use Rattle.pair_limits.proofs.algebra.put_id.Goals as goal

pub returns : goal.returns
returns c = text_then (text_is (ap decimal c.from.ensures) c.put_number.ensures) c.put.ensures
