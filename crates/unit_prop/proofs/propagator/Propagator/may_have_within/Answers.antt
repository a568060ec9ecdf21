use Rattle.std.proofs.Common.{[], ◌∷◌, subst, w32}
use Rattle.std.specs.List.{Contains}
use Rattle.std.proofs.lemmas.Int.{to_z-of_z}
use Rattle.clause_core.specs.Clause.{Clause, IsSubset}
use Rattle.unit_prop.specs.Standing.{Standing, live_of}
use Rattle.unit_prop.specs.Trail.{IsOpen}
use Rattle.unit_prop.proofs.PairWalks.{none_within}
use Rattle.unit_prop.proofs.propagator.Propagator.may_have_within.Goals as goal

pub returns : goal.returns
returns c f =
    let i = c.self.inside in
    let one = to_z-of_z w32 c.args.one c.ranges.one in
    let other = to_z-of_z w32 c.args.other c.ranges.other in
    let first : IsOpen i.trail.lits c.args.one = rw one at c.in_default-value.ensures.value in
    let second : IsOpen i.trail.lits c.args.other = rw other at c.in_default-value-2.ensures.value in
    subst (λ (s : Standing). (d : Clause) → Contains (live_of s.clauses) d → IsSubset d (c.args.one ∷ c.args.other ∷ []) → ⊥) c.self.view_is
    (none_within i.clauses.items i.shorts.items i.watches i.trail i.head i.units i.refuted c.self.invariant c.in_default.is c.args.one c.args.other first second (rw (one, other) at (c.may_pair.ensures f)))
