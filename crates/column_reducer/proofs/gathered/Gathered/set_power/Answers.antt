use Rattle.std.proofs.Common.{refl}
use Rattle.column_reducer.proofs.Taken.{power_set}
use Rattle.column_reducer.proofs.gathered.Gathered.set_power.Goals as goal

pub returns-clause-power : goal.returns-clause-power
returns-clause-power c =
    power_set c.args.terms.now c.end_batch.new.terms c.args.self.now c.end_batch.new.self _ c.args.power c.in_ok-end_batch.ensures.ended refl refl refl refl refl refl c.requires.low
