use Rattle.pair_limits.proofs.Behind.{text_is, text_then}
use Rattle.pair_limits.proofs.algebra.put_certificate.Goals as goal

pub returns : goal.returns
returns c =
    text_then (text_then (text_is c.header.ensures c.put.ensures) c.put-2.ensures)
    (text_then c.put_lines.ensures (text_then c.put_closing.ensures c.put-3.ensures))
