use Rattle.pair_limits.proofs.Lengths.{id_short}
use Rattle.pair_limits.proofs.surely.bytes_of_id.Goals as goal

pub returns-clause-short : goal.returns-clause-short
returns-clause-short c = id_short c.args._id c.ranges._id.fits
