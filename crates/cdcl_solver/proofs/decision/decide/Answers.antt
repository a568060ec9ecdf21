use Rattle.std.proofs.Common.{w32}
use Rattle.std.proofs.lemmas.Int.{to_z-of_z}
use Rattle.cdcl_solver.proofs.Trails.{is_within}
use Rattle.cdcl_solver.proofs.SearchLemmas.{decided}
use Rattle.cdcl_solver.proofs.decision.decide.Goals as goal

pub assume-requires : goal.assume-requires
assume-requires c =
    let fits = c.ranges.lit in
    rw (to_z-of_z w32 c.args.lit fits) (is_within c.args.propagator.now.trail.greatest c.args.lit c.requires.signed c.requires.choice.0 c.requires.choice.1)

pub returns : goal.returns
returns c =
    let fits = c.ranges.lit in
    let met = simp to_z-of_z at c.assume.ensures.stands in
    decided c.args.propagator.now c.assume.new.self c.propagate.new.self c.args.lit c.assume.result c.propagate.result c.requires.sound c.requires.settled c.requires.choice.2 met c.propagate.ensures.grows c.propagate.ensures.found c.propagate.ensures.sound
