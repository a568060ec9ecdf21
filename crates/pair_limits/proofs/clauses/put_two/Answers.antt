use Rattle.std.proofs.Common.{append_assoc}
use Rattle.pair_limits.proofs.Behind.{text_is, text_then}
use Rattle.pair_limits.proofs.clauses.put_two.Goals as goal

pub returns : goal.returns
returns c = text_is (simp append_assoc) (text_then (text_then (text_then c.put_number.ensures c.put.ensures) c.put_number-2.ensures) c.put-2.ensures)
