use Rattle.std.proofs.Common.{[], ◌∷◌, subst}
use Rattle.std.proofs.lemmas.Int.{to_z-of_z}
use Rattle.unit_prop.specs.Standing.{Standing, live_of}
use Rattle.cdcl_solver.specs.Shows.{HasNoneWithin}
use Rattle.cdcl_solver.proofs.ShowLemmas.{none_flipped}
use Rattle.cdcl_solver.proofs.search.derive_both.Goals as goal

pub returns-then-not-leads_to-clause-none : goal.returns-then-not-leads_to-clause-none
returns-then-not-leads_to-clause-none c f =
    let one = c.ranges.one in
    let other = c.ranges.other in
    let none = simp to_z-of_z at c.leads_to.ensures.none in
    none c.if-not-leads_to.true

pub returns-clause-none : goal.returns-clause-none
returns-clause-none c f =
    let one = c.ranges.one in
    let other = c.ranges.other in
    let none = simp to_z-of_z at c.leads_to-2.ensures.none in
    none_flipped (live_of c.args.propagator.now.clauses) c.args.one c.args.other
    (subst (λ (s : Standing). HasNoneWithin (live_of s.clauses) (c.args.other ∷ c.args.one ∷ [])) c.leads_to.ensures.same (none f))
