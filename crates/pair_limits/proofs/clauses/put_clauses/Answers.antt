use Rattle.pair_limits.proofs.Behind.{text_then}
use Rattle.pair_limits.proofs.clauses.put_clauses.Goals as goal

pub returns : goal.returns
returns c = text_then c.put_header.ensures c.put_lines.ensures
