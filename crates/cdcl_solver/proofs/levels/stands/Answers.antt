use Rattle.std.proofs.Common.{sym, ◌∙◌}
use Rattle.std.proofs.lemmas.Int.{to_z-of_z}
use Rattle.cdcl_solver.proofs.Trails.{told_true, told_false}
use Rattle.cdcl_solver.proofs.levels.stands.Goals as goal

pub returns-clause-there : goal.returns-clause-there
returns-clause-there c t =
    let fits = c.ranges.lit in
    let value = rw to_z-of_z at c.value.ensures in
    told_true c.args.propagator.now.trail.literals c.args.lit c.value.result value (sym c.unwrap_or.ensures ∙ t)

pub returns-clause-absent : goal.returns-clause-absent
returns-clause-absent c f has =
    let fits = c.ranges.lit in
    let value = rw to_z-of_z at c.value.ensures in
    told_false c.args.propagator.now c.args.lit c.value.result c.mark-sound.ensures.sound value (sym c.unwrap_or.ensures ∙ f) has
