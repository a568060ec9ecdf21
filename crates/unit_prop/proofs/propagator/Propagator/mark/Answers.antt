use Rattle.std.proofs.Common.{subst}
use Rattle.unit_prop.specs.Standing.{IsSound}
use Rattle.unit_prop.proofs.Standings.{sound_of}
use Rattle.unit_prop.proofs.propagator.Propagator.mark.Goals as goal

pub returns-clause-sound : goal.returns-clause-sound
returns-clause-sound c = let i = c.self.inside in subst IsSound c.self.view_is (sound_of i.clauses.items i.trail i.head i.units c.self.invariant.propagating.kept)
