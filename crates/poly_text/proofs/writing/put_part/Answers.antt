use Rattle.std.proofs.Common.{lit≤}
use Rattle.mv_text.proofs.CallerLemmas.{Puts-then}
use Rattle.poly_text.proofs.writing.put_part.Goals as goal

pub put_id-requires-clause-open : goal.put_id-requires-clause-open
put_id-requires-clause-open g c = c.requires.open

pub put_id-requires-clause-fits : goal.put_id-requires-clause-fits
put_id-requires-clause-fits g c = lit≤ tt

pub put_poly-requires-clause-open : goal.put_poly-requires-clause-open
put_poly-requires-clause-open g c = c.put_id.ensures.open

pub put_poly-requires-clause-of : goal.put_poly-requires-clause-of
put_poly-requires-clause-of g c = c.requires.of

pub put-requires-clause-open : goal.put-requires-clause-open
put-requires-clause-open g c = c.put_poly.ensures.open

pub put-requires-clause-fits : goal.put-requires-clause-fits
put-requires-clause-fits g c = lit≤ tt

pub returns-clause-open : goal.returns-clause-open
returns-clause-open g c = c.put.ensures.open

pub returns-clause-puts : goal.returns-clause-puts
returns-clause-puts g c = Puts-then (Puts-then c.put_id.ensures.puts c.put_poly.ensures.puts) c.put.ensures.puts
