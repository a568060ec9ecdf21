-- Outputs beside a graph are at most as many as its columns.
use Rattle.std.specs.Prelude.{◌≡◌, ◌≢◌, ℕ, suc, ◌<◌, ◌≤◌, List, [], ◌∷◌, map, length, drop}
use Rattle.std.specs.List.{AllByRecursion, Any}
use Rattle.std.proofs.Common.{refl, subst, arith, length-drop}
use Rattle.std.proofs.lemmas.List.{length-map}
use Rattle.std.proofs.lemmas.List.Elements.{All-from_recursion}
use Rattle.graph_core.specs.declared.literal.Lit.{Lit}
use Rattle.graph_core.specs.Graph.Extended.{Column, Extended}
use Rattle.graph_core.proofs.OfGraphs.Faults.{Apart, apart_pairs}
use Rattle.graph_core.proofs.OfGraphs.CallerLemmas.{any_back, any_front, any_here, few_numbers}
use Rattle.ripple_graft.specs.Beside.{AreOutputs, with_output}
use Rattle.ripple_graft.specs.Blocks.{columns}
use Rattle.ripple_graft.specs.Extension.{IsReplaced}

abbrev after : ℕ × Lit → ℕ
after c = suc c.0

-- ---- a column that is replaced

stays : (e : Extended) (k : ℕ) (c : ℕ × Lit) → IsReplaced e k → IsReplaced (with_output e c) k
stays e k c h = any_front (λ (column : Column). column.number ≡ k) e.replaced (columns c.0 (drop c.0 e.graph.outputs) (c.1 ∷ [])) h

first : (k : ℕ) (old : List Lit) (new : Lit) → 0 < length old → Any (λ (column : Column). column.number ≡ k) (columns k old (new ∷ []))
first k [] new some = absurd (omega arith)
first k (o ∷ old) new some = any_here (λ (column : Column). column.number ≡ k) (record { number = k; old = o; new = new }) (columns (suc k) old []) refl

here : (e : Extended) (c : ℕ × Lit) → c.0 < length e.graph.outputs → IsReplaced (with_output e c) c.0
here e c within =
    let some = length-drop c.0 e.graph.outputs in
    any_back (λ (column : Column). column.number ≡ c.0) e.replaced (columns c.0 (drop c.0 e.graph.outputs) (c.1 ∷ [])) (first c.0 (drop c.0 e.graph.outputs) c.1 (omega arith))

-- ---- no column twice

others : (e : Extended) (k : ℕ) (outputs : List (ℕ × Lit)) → IsReplaced e k → AreOutputs e outputs → AllByRecursion (λ y. suc k ≢ y) (map after outputs)
others e k [] h fit = tt
others e k (c ∷ outputs) h fit = (λ same. let is : k ≡ c.0 = omega (arith, same) in fit.0.once (subst (IsReplaced e) is h), others (with_output e c) k outputs (stays e k c h) fit.1)

apart : (e : Extended) (outputs : List (ℕ × Lit)) → AreOutputs e outputs → Apart (map after outputs)
apart e [] fit = tt
apart e (c ∷ outputs) fit = (others (with_output e c) c.0 outputs (here e c fit.0.within) fit.1, apart (with_output e c) outputs fit.1)

low : (e : Extended) (outputs : List (ℕ × Lit)) → AreOutputs e outputs → AllByRecursion (λ v. (0 < v) × (v ≤ length e.graph.outputs)) (map after outputs)
low e [] fit = tt
low e (c ∷ outputs) fit = ((omega arith, let within = fit.0.within in omega arith), low (with_output e c) outputs fit.1)

pub outputs_few : (e : Extended) (outputs : List (ℕ × Lit)) → AreOutputs e outputs → length outputs ≤ length e.graph.outputs
outputs_few e outputs fit =
    let numbers = map after outputs in
    let few = few_numbers numbers (length e.graph.outputs) (apart_pairs numbers (apart e outputs fit)) (All-from_recursion (λ v. (0 < v) × (v ≤ length e.graph.outputs)) numbers (low e outputs fit)) in
    omega (arith, few, length-map outputs after)
