use Rattle.std.proofs.Common.{w32, SFits, arith, rules, sym, subst, to_z, of_z, ⊎_elim}
use Rattle.std.specs.List.{Contains}
use Rattle.std.proofs.lemmas.Int.{to_z-of_z}
use Rattle.clause_core.proofs.Places.{below_suc}
use Rattle.unit_prop.specs.Standing.{at}
use Rattle.cdcl_solver.proofs.Standings.{covered}
use Rattle.cdcl_solver.proofs.levels.all_stand.Goals as goal

pub loop-lit-preserved : goal.loop-lit-preserved
loop-lit-preserved c i b =
    let lit = at c.args.lits.now c.loop-lit.lit-index in
    let fits : SFits w32 (at c.args.lits.now c.loop-lit.lit-index) = search rules in
    let one = to_z-of_z w32 lit fits in
    let has : Contains c.args.propagator.now.trail.literals (to_z w32 (of_z w32 (at c.args.lits.now c.loop-lit.lit-index))) = search rules in
    ⊎_elim (c.loop-lit.invariant i)
    (λ e. subst (λ j. Contains c.args.propagator.now.trail.literals (at c.args.lits.now j)) (sym e) (subst (Contains c.args.propagator.now.trail.literals) one has))
    (below_suc i c.loop-lit.lit-index b)

pub returns : goal.returns
returns c t = covered c.args.lits.now c.args.propagator.now.trail.literals (λ j b. c.loop-lit.invariant j (omega (arith)))
