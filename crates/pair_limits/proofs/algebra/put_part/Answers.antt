use Rattle.std.proofs.Common.{append_assoc}
use Rattle.pair_limits.proofs.Behind.{text_is, text_then}
use Rattle.pair_limits.proofs.algebra.put_part.Goals as goal

pub returns : goal.returns
returns c = text_is (simp append_assoc) (text_then (text_then c.put_id.ensures c.put_poly.ensures) c.put.ensures)
