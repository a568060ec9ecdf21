use Rattle.std.proofs.Common.{◌⊎◌, pos, neg_ℤ, sym, subst, ◌∙◌, arith, ⊎_elim, slice_index_or}
use Rattle.std.specs.List.{Contains}
use Rattle.clause_core.proofs.Places.{below_suc, same_at}
use Rattle.cdcl_solver.proofs.decision.first_open.Goals as goal

pub loop-var-preserved : goal.loop-var-preserved
loop-var-preserved c i b =
    ⊎_elim (c.loop-var.invariant i)
    (λ e. subst (λ j. Contains c.args.propagator.now.trail.literals (pos (slice_index_or c.args.vars.now j 0)) ⊎ Contains c.args.propagator.now.trail.literals (neg_ℤ (pos (slice_index_or c.args.vars.now j 0)))) (sym e) c.in_default.ensures)
    (below_suc i c.loop-var.var-index b)

pub returns : goal.returns
returns c v has =
    let same = same_at c.args.vars.now has.0 0 v has.1 ∙ has.2 in
    subst (λ w. Contains c.args.propagator.now.trail.literals (pos w) ⊎ Contains c.args.propagator.now.trail.literals (neg_ℤ (pos w))) same (c.loop-var.invariant has.0 (omega arith))
