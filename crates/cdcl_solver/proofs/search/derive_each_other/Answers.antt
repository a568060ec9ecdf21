use Rattle.std.proofs.lemmas.Int.{to_z-of_z}
use Rattle.unit_prop.specs.Standing.{live_of}
use Rattle.cdcl_solver.proofs.ShowLemmas.{none_flipped}
use Rattle.cdcl_solver.proofs.search.derive_each_other.Goals as goal

pub returns-then-one-lt0-clause-none : goal.returns-then-one-lt0-clause-none
returns-then-one-lt0-clause-none c f =
    let one = c.ranges.one in
    let other = c.ranges.other in
    let none = simp to_z-of_z at c.derive_both.ensures.none in
    none_flipped (live_of c.args.propagator.now.clauses) c.args.one c.args.other (none f)

pub returns-clause-none : goal.returns-clause-none
returns-clause-none c f =
    let one = c.ranges.one in
    let other = c.ranges.other in
    let none = simp to_z-of_z at c.derive_both-2.ensures.none in
    none f

pub returns-then-not-may_have_within-clause-none : goal.returns-then-not-may_have_within-clause-none
returns-then-not-may_have_within-clause-none c f =
    let one = c.ranges.one in
    let other = c.ranges.other in
    let none = simp to_z-of_z at c.may_have_within.ensures in
    none c.if-not-may_have_within.true
