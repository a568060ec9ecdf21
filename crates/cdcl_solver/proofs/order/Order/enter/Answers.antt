use Rattle.std.proofs.Common.{◌≡◌, w32, SFits, sym, subst, arith, rules, ⊎_elim}
use Rattle.std.specs.List.{Contains}
use Rattle.std.proofs.lemmas.Int.{to_z-of_z}
use Rattle.clause_core.proofs.Places.{at_contained, below_suc}
use Rattle.unit_prop.specs.Standing.{at}
use Rattle.unit_prop.specs.Trail.{signed_variable}
use Rattle.cdcl_solver.proofs.OrderLemmas.{grows_more}
use Rattle.cdcl_solver.proofs.order.Order.enter.Goals as goal

pub loop-lit-preserved : goal.loop-lit-preserved
loop-lit-preserved c =
    let lits = c.args.lits.now in
    let fits : SFits w32 (at lits c.loop-lit.lit-index) = search rules in
    let var : c.variable.result ≡ signed_variable (at lits c.loop-lit.lit-index) = rw to_z-of_z at c.variable.ensures in
    let now = subst (Contains c.enter_variable.new.self.vars) var c.in_ok-enter_variable.ensures.entered in
    record {
      grows = grows_more c.args.self.now c.loop-lit.self c.enter_variable.new.self c.loop-lit.invariant.grows c.enter_variable.ensures.grows;
      entered = λ i b. ⊎_elim (λ k. c.enter_variable.ensures.grows.kept (signed_variable (at lits i)) (c.loop-lit.invariant.entered i k))
          (λ e. subst (λ j. Contains c.enter_variable.new.self.vars (signed_variable (at lits j))) (sym e) now) (below_suc i c.loop-lit.lit-index b);
    }

pub returns-clause-entered : goal.returns-clause-entered
returns-clause-entered c l has =
    let place = at_contained c.args.lits.now l has in
    subst (λ k. Contains c.loop-lit.self.vars (signed_variable k)) place.2 (c.loop-lit.invariant.entered place.0 (omega arith))
