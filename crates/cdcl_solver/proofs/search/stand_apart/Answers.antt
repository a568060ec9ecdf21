use Rattle.std.proofs.Common.{[], ◌∷◌, ℤ, w32, SFits, rules, ap}
use Rattle.std.proofs.lemmas.Bool.{not-true}
use Rattle.std.proofs.lemmas.Int.{to_z-of_z}
use Rattle.unit_prop.specs.Standing.{live_of}
use Rattle.cdcl_solver.proofs.ShowLemmas.{none_begun}
use Rattle.cdcl_solver.proofs.search.stand_apart.Goals as goal

pub returns-clause-none : goal.returns-clause-none
returns-clause-none c t =
    let one = c.ranges.one in
    let other = c.ranges.other in
    let small : SFits w32 c.negation.result = search rules in
    let is = rw to_z-of_z at c.negation.ensures in
    let under = simp to_z-of_z at c.if-not-begin.ensures.1 in
    let absent = simp to_z-of_z at c.stands.ensures.absent in
    none_begun c.begin.new.propagator c.args.one c.args.other (c.negation.result ∷ []) (live_of c.args.propagator.now.clauses) (ap (λ (l : ℤ). l ∷ []) is) (ap live_of c.if-not-begin.ensures.0.clauses) under (absent (not-true c.stands.result t))
