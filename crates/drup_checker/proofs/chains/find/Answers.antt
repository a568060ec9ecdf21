use Rattle.std.proofs.Common.{◌≡◌, ◌-◌, ℕ, sym, subst, ◌∙◌, arith}
use Rattle.unit_prop.specs.Standing.{HasSetAt}
use Rattle.drup_checker.specs.Chains.{Leads}
use Rattle.drup_checker.proofs.Leading.{leads_behind, leads_nowhere}
use Rattle.drup_checker.proofs.chains.find.Goals as goal

pub loop-from-preserved : goal.loop-from-preserved
loop-from-preserved c =
    let place = c.loop-from.from - 1 in
    let low = c.requires.falls (c.loop-from.from - 1) in
    let missed = c.find_at-found.ensures.none (sym c.is_some.ensures ∙ c.if-is_some.false) in (
      omega (arith, low, c.loop-from.invariant.0),
      λ r has leads.
          leads_behind c.args.next.now (c.loop-from.from - 1) c.loop-from.from r (omega arith) (λ e. missed (subst (HasSetAt c.args.propagator.now.clauses c.args.clause.now) e has)) (c.loop-from.invariant.1 r has leads),
    )

pub returns-clause-none : goal.returns-clause-none
returns-clause-none c e r has leads =
    let end : c.loop-from.from ≡ 0 = omega arith in
    leads_nowhere c.args.next.now r (subst (λ (from : ℕ). Leads c.args.next.now from r) end (c.loop-from.invariant.1 r has leads))
