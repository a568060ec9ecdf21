use Rattle.std.proofs.Common.{◌≡◌, ◌≢◌, ◌<◌, List, ℤ, pos, neg_ℤ, w32, SFits, length, sym, ap, subst, arith, rules}
use Rattle.std.specs.List.{All}
use Rattle.std.proofs.lemmas.Int.{to_z-of_z}
use Rattle.std.proofs.lemmas.List.Elements.{All-get_or}
use Rattle.clause_core.specs.Clause.{IsLiteral}
use Rattle.clause_core.proofs.CallerLemmas.{at}
use Rattle.unit_prop.specs.Standing.{Assumes}
use Rattle.unit_prop.specs.declared.assumed.Assumed.TheVariants.{Opposed}
use Rattle.drup_checker.specs.Opposing.{IsClauseMet}
use Rattle.drup_checker.proofs.Opposed.{begins_same, opposed_met, opposed_rup, opposes_more, opposes_none}
use Rattle.drup_checker.proofs.rup.oppose_all.Goals as goal

pub loop-lit-init : goal.loop-lit-init
loop-lit-init c = opposes_none c.args.propagator.now c.args.clause.now c.requires.free

pub returns-in-Opposed-clause-opposed : goal.returns-in-Opposed-clause-opposed
returns-in-Opposed-clause-opposed c =
    let fits : SFits w32 (at c.lits-lit-items.result.now c.loop-lit.lit-index) = search rules in
    let read = simp to_z-of_z at c.in-Opposed.ensures.stands in
    let same : c.lits-lit-items.result.now ≡ c.args.clause.now = c.lits-lit-items.ensures.value in
    let below : c.loop-lit.lit-index < length c.args.clause.now = omega (arith, ap length same) in
    let one = to_z-of_z w32 (at c.lits-lit-items.result.now c.loop-lit.lit-index) fits in
    rw one (subst (λ (xs : List ℤ). IsClauseMet c.oppose.new.propagator c.args.clause.now (at xs c.loop-lit.lit-index)) (sym same)
    (opposed_met c.args.propagator.now c.loop-lit.propagator c.oppose.new.propagator c.args.clause.now c.loop-lit.lit-index c.loop-lit.invariant c.in-Opposed.ensures.sound below
    (subst (λ (xs : List ℤ). Assumes c.loop-lit.propagator (neg_ℤ (at xs c.loop-lit.lit-index)) Opposed c.oppose.new.propagator) same read)))

pub returns-in-Opposed-clause-follows : goal.returns-in-Opposed-clause-follows
returns-in-Opposed-clause-follows c =
    let fits : SFits w32 (at c.lits-lit-items.result.now c.loop-lit.lit-index) = search rules in
    let read = simp to_z-of_z at c.in-Opposed.ensures.stands in
    let same : c.lits-lit-items.result.now ≡ c.args.clause.now = c.lits-lit-items.ensures.value in
    let below : c.loop-lit.lit-index < length c.args.clause.now = omega (arith, ap length same) in
    let literal = All-get_or IsLiteral c.lits-lit-items.result.now c.loop-lit.lit-index (pos 0) (omega arith) (subst (λ (xs : List ℤ). All IsLiteral xs) (sym same) c.lits-lit-items.ensures.clause.literals) in
    λ t. opposed_rup c.args.propagator.now c.loop-lit.propagator c.oppose.new.propagator c.args.clause.now c.loop-lit.lit-index c.loop-lit.invariant c.in-Opposed.ensures.sound below
    (subst (λ (xs : List ℤ). at xs c.loop-lit.lit-index ≢ pos 0) same literal.0)
    (subst (λ (xs : List ℤ). Assumes c.loop-lit.propagator (neg_ℤ (at xs c.loop-lit.lit-index)) Opposed c.oppose.new.propagator) same read)

pub returns-in-Opposed-clause-begins : goal.returns-in-Opposed-clause-begins
returns-in-Opposed-clause-begins c = begins_same c.args.propagator.now c.loop-lit.propagator c.oppose.new.propagator c.in-Opposed.ensures.stands.0 c.loop-lit.invariant.begins

pub loop-lit-preserved : goal.loop-lit-preserved
loop-lit-preserved c =
    let fits : SFits w32 (at c.lits-lit-items.result.now c.loop-lit.lit-index) = search rules in
    let read = simp to_z-of_z at c.oppose.ensures.stands in
    let same : c.lits-lit-items.result.now ≡ c.args.clause.now = c.lits-lit-items.ensures.value in
    let below : c.loop-lit.lit-index < length c.args.clause.now = omega (arith, ap length same) in
    opposes_more c.args.propagator.now c.loop-lit.propagator c.oppose.new.propagator c.args.clause.now c.loop-lit.lit-index c.oppose.result c.loop-lit.invariant c.oppose.ensures.sound below c.in_default.not-Opposed
    (subst (λ (xs : List ℤ). Assumes c.loop-lit.propagator (neg_ℤ (at xs c.loop-lit.lit-index)) c.oppose.result c.oppose.new.propagator) same read)
