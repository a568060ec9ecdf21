use Rattle.std.proofs.Common.{ℤ, SFits, subst, sym, rules, w32, ◌∙◌}
use Rattle.std.proofs.lemmas.Int.{to_z-of_z}
use Rattle.unit_prop.specs.Trail.{IsLiteralUpTo}
use Rattle.drup_checker.proofs.Opposed.{within_neg}
use Rattle.drup_checker.proofs.rup.oppose.Goals as goal

pub assume-requires : goal.assume-requires
assume-requires c =
    let fits = to_z-of_z w32 c.args.lit c.ranges.lit in
    let fits_opposite : SFits w32 c.negation-opposite.result = search rules in
    subst (λ (l : ℤ). IsLiteralUpTo c.args.propagator.now.trail.greatest l)
    (sym (rw fits at c.negation-opposite.ensures) ∙ sym (to_z-of_z w32 c.negation-opposite.result fits_opposite))
    (within_neg c.args.propagator.now.trail.greatest c.args.lit c.requires.small c.requires.in_range)
