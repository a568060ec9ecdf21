use Rattle.std.proofs.Common.{w32, SFits, pos, rules}
use Rattle.std.proofs.lemmas.Int.{to_z-of_z}
use Rattle.cdcl_solver.proofs.Trails.{is_within}
use Rattle.cdcl_solver.proofs.decision.value_of.Goals as goal

pub value-requires : goal.value-requires
value-requires c =
    let fits : SFits w32 c.positive.result = search rules in
    rw (to_z-of_z w32 c.positive.result fits, c.positive.ensures) (is_within c.args.propagator.now.trail.greatest (pos c.args.var) c.requires.signed c.requires.some c.requires.within)

pub returns : goal.returns
returns c =
    let fits : SFits w32 c.positive.result = search rules in
    rw (to_z-of_z, c.positive.ensures) at c.value.ensures
