use Rattle.std.proofs.Common.{◌≡◌, ◌+◌, ◌++◌, ◌∷◌, [], ◌∙◌, ℤ, List, length, ap, arith, rules, subst, sym, w32, SFits, IsTrue}
use Rattle.std.specs.List.{Contains}
use Rattle.std.proofs.lemmas.Int.{to_z-of_z}
use Rattle.clause_core.proofs.Places.{contains_at}
use Rattle.unit_prop.specs.Standing.{at}
use Rattle.cdcl_solver.specs.Analyses.{AnalysisView, Follows}
use Rattle.cdcl_solver.proofs.AnalysisLemmas.{AreNeededOf, needed_none, needed_more, needed_but_one, needed_all}
use Rattle.cdcl_solver.proofs.analysis.Analysis.needed.Goals as goal
use Rattle.cdcl_solver.proofs.analysis.Analysis.needed.Goals.{then-not-follows+in_ok-push, else-not-follows}

pub loop-lit-init : goal.loop-lit-init
loop-lit-init c = subst (AreNeededOf c.args.propagator.now c.args.self.now c.deref-lit-items.result.now 0) (sym c.new-needed.ensures.items) (needed_none c.args.propagator.now c.args.self.now c.deref-lit-items.result.now)

pub follows-requires-clause-own : goal.follows-requires-clause-own
follows-requires-clause-own c =
    let lits = c.deref-lit-items.result.now in
    let n = c.loop-lit.lit-index in
    let fits : SFits w32 (at c.deref-lit-items.result.now c.loop-lit.lit-index) = search rules in
    let own : c.deref-lit-items.result.now ≡ c.args.self.now.lits = c.deref-lit-items.ensures.value ∙ ap (λ (a : AnalysisView). a.lits) c.self.view_is in
    rw (to_z-of_z w32 (at c.deref-lit-items.result.now c.loop-lit.lit-index) fits) (subst (λ (ls : List ℤ). Contains ls (at lits n)) own (contains_at lits n c.loop-lit-test.true))

pub loop-lit-preserved : goal.loop-lit-preserved
loop-lit-preserved c =
    let s = c.args.propagator.now in
    let lits = c.deref-lit-items.result.now in
    let n = c.loop-lit.lit-index in
    let fits : SFits w32 (at c.deref-lit-items.result.now c.loop-lit.lit-index) = search rules in
    elim c.if-not-follows.branch [
      | then-not-follows+in_ok-push w ↦
          let pushed : c.if-not-follows.needed.items ≡ c.loop-lit.needed.items ++ at lits n ∷ [] =
          let items : w.push.new.self.items ≡ c.loop-lit.needed.items ++ at c.deref-lit-items.result.now c.loop-lit.lit-index ∷ [] = rw to_z-of_z at w.in_ok-push.ensures.items in
          ap (λ v. v.items) w.needed-is ∙ items in
          subst (AreNeededOf s c.args.self.now lits (n + 1)) (sym pushed) (needed_more s c.args.self.now lits n c.loop-lit.needed.items c.loop-lit-test.true c.loop-lit.invariant)
      | else-not-follows w ↦
          let same : c.if-not-follows.needed.items ≡ c.loop-lit.needed.items = ap (λ v. v.items) w.needed-is in
          let told : IsTrue c.follows.result → Follows c.args.propagator.now c.args.self.now (at c.deref-lit-items.result.now c.loop-lit.lit-index) = rw to_z-of_z at c.follows.ensures in
          subst (AreNeededOf s c.args.self.now lits (n + 1)) (sym same) (needed_but_one s c.args.self.now lits n c.loop-lit.needed.items (told w.if-not-follows.false) c.loop-lit.invariant)
    ]

pub returns : goal.returns
returns c =
    let own : c.deref-lit-items.result.now ≡ c.args.self.now.lits = c.deref-lit-items.ensures.value ∙ ap (λ (a : AnalysisView). a.lits) c.self.view_is in
    needed_all c.args.propagator.now c.args.self.now c.loop-lit.lit-index c.loop-lit.needed.items (omega (arith, c.loop-lit-test.false, ap length own))
    (subst (λ (ls : List ℤ). AreNeededOf c.args.propagator.now c.args.self.now ls c.loop-lit.lit-index c.loop-lit.needed.items) own c.loop-lit.invariant)
