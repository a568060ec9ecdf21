use Rattle.std.proofs.lemmas.Bool.{not-false}
use Rattle.std.proofs.lemmas.Int.{to_z-of_z}
use Rattle.cdcl_solver.proofs.search.leads_to.Goals as goal

pub returns-clause-none : goal.returns-clause-none
returns-clause-none c f =
    let one = c.ranges.one in
    let other = c.ranges.other in
    let none = simp to_z-of_z at c.stand_apart-apart.ensures.none in
    none (not-false c.stand_apart-apart.result f)
