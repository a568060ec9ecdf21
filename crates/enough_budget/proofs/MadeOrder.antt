-- A made graph's gates are listed each after those that it reads.
use Rattle.std.specs.Prelude.{◌≢◌, ℕ, suc, ◌*◌, ◌<◌, List, [], ◌∷◌}
use Rattle.std.specs.List.{AllByRecursion}
use Rattle.std.proofs.Common.{sym, ap, subst, ◌∙◌, arith, ⊎_elim}
use Rattle.std.proofs.lemmas.List.Elements.{recursion_from_All, All-from_recursion}
use Rattle.graph_core.specs.declared.gate.Gate.{Gate}
use Rattle.graph_core.specs.Graph.Literals.{variable_of}
use Rattle.graph_core.proofs.OfGraphs.CallerLemmas.{all_weaker}
use Rattle.graph_core.proofs.OfAiger.CallerLemmas.{ArePlaced}
use Rattle.graph_maker.specs.declared.adder.Adder.TheVariants.{Ripple}
use Rattle.graph_maker.specs.Made.{made}
use Rattle.graph_maker.proofs.MadeMultiplies.{numbered}
use Rattle.slice_planner.specs.GroupPlans.{AreInOrder}
use Rattle.enough_budget.specs.MadeGroups.{MadeGatesAreInOrder}
use Rattle.enough_budget.proofs.Swapped.{IsSame, ArePairs, firsts, seconds, paired}
use Rattle.enough_budget.proofs.WholeFrontiers.{placed_above}

placed_order : (v : ℕ) (gates : List Gate) → ArePlaced v gates → AreInOrder gates
placed_order v [] h = tt
placed_order v (x ∷ gates) h = (
  All-from_recursion (λ y. (variable_of x.left ≢ y.v) × (variable_of x.right ≢ y.v)) (x ∷ gates)
      (all_weaker (λ y. v < y.v) (λ y. (variable_of x.left ≢ y.v) × (variable_of x.right ≢ y.v)) (x ∷ gates) (λ y above. ((λ s. omega (arith, above, h.1)), (λ s. omega (arith, above, h.2)))) (placed_above v v (x ∷ gates) (omega arith) h)),
  placed_order (suc v) gates h.3,
)

pairs_order : (ps : List (Gate × Gate)) → ArePairs ps → AreInOrder (firsts ps) → AreInOrder (seconds ps)
pairs_order [] h o = tt
pairs_order (p ∷ ps) h o = (
  All-from_recursion (λ y. (variable_of p.1.left ≢ y.v) × (variable_of p.1.right ≢ y.v)) (seconds (p ∷ ps))
      (each (p ∷ ps) h (recursion_from_All (λ y. (variable_of p.0.left ≢ y.v) × (variable_of p.0.right ≢ y.v)) (firsts (p ∷ ps)) o.0)),
  pairs_order ps h.1 o.1,
)
  where
    one : (x y : Gate) → IsSame x y → (variable_of p.0.left ≢ x.v) × (variable_of p.0.right ≢ x.v) → (variable_of p.1.left ≢ y.v) × (variable_of p.1.right ≢ y.v)
    one x y s k = ⊎_elim
        (λ a. ((λ e. k.0 (ap variable_of a.0 ∙ e ∙ sym s.0)), (λ e. k.1 (ap variable_of a.1 ∙ e ∙ sym s.0))))
        (λ a. ((λ e. k.1 (ap variable_of a.1 ∙ e ∙ sym s.0)), (λ e. k.0 (ap variable_of a.0 ∙ e ∙ sym s.0)))) h.0.1

    each : (qs : List (Gate × Gate)) → ArePairs qs → AllByRecursion (λ y. (variable_of p.0.left ≢ y.v) × (variable_of p.0.right ≢ y.v)) (firsts qs) → AllByRecursion (λ y. (variable_of p.1.left ≢ y.v) × (variable_of p.1.right ≢ y.v)) (seconds qs)
    each [] a b = tt
    each (q ∷ qs) a b = (one q.0 q.1 a.0 b.0, each qs a.1 b.1)

pub made_gates_are_in_order : MadeGatesAreInOrder
made_gates_are_in_order kind n g pos same =
    let M = made kind n Ripple in
    let is = paired M.gates g.gates same.3 in
    subst AreInOrder is.second (pairs_order is.pairs is.same (subst AreInOrder (sym is.first) (placed_order (2 * n) M.gates (numbered kind n Ripple pos).gates)))
