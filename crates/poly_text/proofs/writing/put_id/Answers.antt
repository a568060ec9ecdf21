use Rattle.std.proofs.Common.{ap, decimal}
use Rattle.mv_text.proofs.CallerLemmas.{Puts-is, Puts-then}
use Rattle.poly_text.proofs.writing.put_id.Goals as goal

pub put-requires-clause-open : goal.put-requires-clause-open
put-requires-clause-open g c = c.put_number.ensures.open

pub put-requires-clause-fits : goal.put-requires-clause-fits
put-requires-clause-fits g c = c.requires.fits

pub returns-clause-open : goal.returns-clause-open
returns-clause-open g c = c.put.ensures.open

pub returns-clause-puts : goal.returns-clause-puts
returns-clause-puts g c = Puts-then (Puts-is (ap decimal c.from.ensures) c.put_number.ensures.puts) c.put.ensures.puts
