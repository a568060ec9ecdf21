-- Gates beside a graph and outputs that fit one after the other.
use Rattle.std.specs.Prelude.{◌≡◌, ◌+◌, ◌<◌, ◌≤◌, ℕ, List, [], ◌∷◌, ◌++◌, length}
use Rattle.std.proofs.Common.{refl, sym, ap, subst, ◌∙◌, arith, length-append}
use Rattle.graph_core.specs.declared.bounds.TheConstants.{MOST_VARIABLES}
use Rattle.graph_core.specs.declared.literal.Lit.{Lit}
use Rattle.graph_core.specs.Graph.{Aig}
use Rattle.graph_core.specs.Graph.Extended.{Extended, without_cut}
use Rattle.ripple_graft.specs.Beside.{AreGates, AreOutputs, IsOutput, with_gate, with_gates, with_output, with_outputs}
use Rattle.ripple_graft.specs.Grafts.{IsKnownPair}

-- ---- one more

pub gates_more : (e : Extended) (pairs : List (Lit × Lit)) (p : Lit × Lit) → with_gates e (pairs ++ p ∷ []) ≡ with_gate (with_gates e pairs) p
gates_more e [] p = refl
gates_more e (q ∷ pairs) p = gates_more (with_gate e q) pairs p

pub gates_more_fit : (e : Extended) (pairs : List (Lit × Lit)) (p : Lit × Lit) → AreGates e pairs → IsKnownPair (with_gates e pairs) p → AreGates e (pairs ++ p ∷ [])
gates_more_fit e [] p fit one = (one, tt)
gates_more_fit e (q ∷ pairs) p fit one = (fit.0, gates_more_fit (with_gate e q) pairs p fit.1 one)

pub outputs_more : (e : Extended) (outputs : List (ℕ × Lit)) (c : ℕ × Lit) → with_outputs e (outputs ++ c ∷ []) ≡ with_output (with_outputs e outputs) c
outputs_more e [] c = refl
outputs_more e (d ∷ outputs) c = outputs_more (with_output e d) outputs c

pub outputs_more_fit : (e : Extended) (outputs : List (ℕ × Lit)) (c : ℕ × Lit) → AreOutputs e outputs → IsOutput (with_outputs e outputs) c → AreOutputs e (outputs ++ c ∷ [])
outputs_more_fit e [] c fit one = (one, tt)
outputs_more_fit e (d ∷ outputs) c fit one = (fit.0, outputs_more_fit (with_output e d) outputs c fit.1 one)

-- ---- room

gates_max : (e : Extended) (pairs : List (Lit × Lit)) → (with_gates e pairs).max ≡ e.max + length pairs
gates_max e [] = omega arith
gates_max e (p ∷ pairs) = let more = gates_max (with_gate e p) pairs in omega (arith, more)

gates_graph : (e : Extended) (pairs : List (Lit × Lit)) → (with_gates e pairs).graph ≡ e.graph
gates_graph e [] = refl
gates_graph e (p ∷ pairs) = gates_graph (with_gate e p) pairs

pub gate_room : (g : Aig) (e : Extended) (pairs : List (Lit × Lit)) → e ≡ with_gates (without_cut g) pairs → length pairs < MOST_VARIABLES → e.max < e.graph.max + MOST_VARIABLES
gate_room g e pairs is few =
    let max : e.max ≡ g.max + length pairs = ap (λ (x : Extended). x.max) is ∙ gates_max (without_cut g) pairs in
    let graph : e.graph.max ≡ g.max = ap (λ (x : Extended). x.graph.max) is ∙ ap (λ (x : Aig). x.max) (gates_graph (without_cut g) pairs) in
    omega (arith, max, graph, few)

-- ---- a step of the loop

pub gates_step : (e now next : Extended) (pairs more : List (Lit × Lit)) (p : Lit × Lit) → now ≡ with_gates e pairs → AreGates e pairs → IsKnownPair now p → next ≡ with_gate now p → more ≡ pairs ++ p ∷ [] →
    (next ≡ with_gates e more) × AreGates e more
gates_step e now next pairs more p is fit one next_is more_is = (
  next_is ∙ ap (λ (x : Extended). with_gate x p) is ∙ sym (gates_more e pairs p) ∙ ap (with_gates e) (sym more_is),
  subst (AreGates e) (sym more_is) (gates_more_fit e pairs p fit (subst (λ (x : Extended). IsKnownPair x p) is one)),
)

pub outputs_step : (e now next : Extended) (outputs more : List (ℕ × Lit)) (c : ℕ × Lit) → now ≡ with_outputs e outputs → AreOutputs e outputs → IsOutput now c → next ≡ with_output now c → more ≡ outputs ++ c ∷ [] →
    (next ≡ with_outputs e more) × AreOutputs e more
outputs_step e now next outputs more c is fit one next_is more_is = (
  next_is ∙ ap (λ (x : Extended). with_output x c) is ∙ sym (outputs_more e outputs c) ∙ ap (with_outputs e) (sym more_is),
  subst (AreOutputs e) (sym more_is) (outputs_more_fit e outputs c fit (subst (λ (x : Extended). IsOutput x c) is one)),
)

pub few_more : (pairs more : List (Lit × Lit)) (p : Lit × Lit) → length pairs < MOST_VARIABLES → more ≡ pairs ++ p ∷ [] → length more ≤ MOST_VARIABLES
few_more pairs more p few more_is =
    let long : length more ≡ length pairs + 1 = ap length more_is ∙ length-append pairs (p ∷ []) in
    omega (arith, long, few)

pub many_more : (pairs more : List (Lit × Lit)) (p : Lit × Lit) (n : ℕ) → length pairs ≡ n → more ≡ pairs ++ p ∷ [] → length more ≡ n + 1
many_more pairs more p n many more_is =
    let long : length more ≡ length pairs + 1 = ap length more_is ∙ length-append pairs (p ∷ []) in
    omega (arith, long, many)
