-- What stands beside an extended graph keeps it without faults, and each evaluation goes on to one with it.
use Rattle.std.specs.Prelude.{◌≡◌, ◌≢◌, ℕ, suc, ◌+◌, ◌<◌, ◌≤◌, List, [], ◌∷◌, map, length}
use Rattle.std.specs.List.{AllByRecursion, Any}
use Rattle.std.proofs.Common.{refl, sym, subst, ◌∙◌, arith, inl}
use Rattle.graph_core.specs.declared.literal.Lit.{Lit}
use Rattle.graph_core.specs.declared.gate.Gate.{Gate}
use Rattle.graph_core.specs.Graph.Assignments.{Assignment}
use Rattle.graph_core.specs.Graph.Extended.{Column, Extended}
use Rattle.graph_core.specs.Graph.Literals.{and_gate}
use Rattle.graph_core.specs.Graph.{IsEvaluation}
use Rattle.graph_core.proofs.OfAiger.CallerLemmas.{Counts}
use Rattle.ripple_graft.specs.Beside.{AreGates, AreOutputs, BesideExtends, EvaluationsGoOnBeside, IsOutput, with_gate, with_gates, with_output, with_outputs}
use Rattle.ripple_graft.specs.Blocks.{SameUpTo}
use Rattle.ripple_graft.specs.Extension.{IsExtension}
use Rattle.ripple_graft.specs.Grafts.{IsKnownPair}
use Rattle.ripple_graft.proofs.MoreColumns.{columns_extend}
use Rattle.ripple_graft.proofs.MoreGates.{IsAbove, IsOf, gates_extend, gates_go_on, known_low}

-- ---- one gate

module _ (e : Extended) (p : Lit × Lit) (made : IsExtension e) (known : IsKnownPair e p) where
  abbrev own : List Gate
  own = and_gate (suc e.max) p.0 p.1 ∷ []

  counts : Counts (e.max + 1) (map (λ x. x.v) own)
  counts = (omega arith, tt)

  many : suc e.max ≡ e.max + length own
  many = omega arith

  above : AllByRecursion (IsAbove (IsOf e) e.max (suc e.max)) own
  above =
      let left = known_low e made p.0 known.0 in
      let right = known_low e made p.1 known.1 in
      (record { from = omega arith; upto = omega arith; left = omega arith; right = omega arith; left_one = inl known.0; right_one = inl known.1 }, tt)

  pub gate_extends : IsExtension (with_gate e p)
  gate_extends = gates_extend e (suc e.max) own made counts many above

  pub gate_goes_on : (τ : Assignment) → IsEvaluation e.gates τ → (σ : Assignment) × IsEvaluation (with_gate e p).gates σ × SameUpTo e.max σ τ
  gate_goes_on τ evaluates = gates_go_on e (suc e.max) own made counts many above τ evaluates

-- ---- one output

free_column : (cs : List Column) (k : ℕ) → ¬ (Any (λ c. c.number ≡ k) cs) → AllByRecursion (λ c. (d : ℕ) → k ≤ d → d < k + 1 → c.number ≢ d) cs
free_column [] k none = tt
free_column (c ∷ cs) k none = (
  λ d low up same. none (0, c, omega arith, refl, omega arith),
  free_column cs k (λ some. let below : some.0 < length cs = some.2 in none (suc some.0, some.1, omega arith, some.3, some.4)),
)

pub output_extends : (e : Extended) (c : ℕ × Lit) → IsExtension e → IsOutput e c → IsExtension (with_output e c)
output_extends e c made fits = columns_extend e c.0 (c.1 ∷ []) made ((known_low e made c.1 fits.known, fits.known), tt) (free_column e.replaced c.0 fits.once)

-- ---- all of them

gates_beside_extend : (e : Extended) (pairs : List (Lit × Lit)) → IsExtension e → AreGates e pairs → IsExtension (with_gates e pairs)
gates_beside_extend e [] made fit = made
gates_beside_extend e (p ∷ pairs) made fit = gates_beside_extend (with_gate e p) pairs (gate_extends e p made fit.0) fit.1

outputs_beside_extend : (e : Extended) (outputs : List (ℕ × Lit)) → IsExtension e → AreOutputs e outputs → IsExtension (with_outputs e outputs)
outputs_beside_extend e [] made fit = made
outputs_beside_extend e (c ∷ outputs) made fit = outputs_beside_extend (with_output e c) outputs (output_extends e c made fit.0) fit.1

pub beside_extends : BesideExtends
beside_extends e b made fits = outputs_beside_extend (with_gates e b.gates) b.outputs (gates_beside_extend e b.gates made fits.gates) fits.outputs

abbrev GoesOn : Extended → Extended → Assignment → Type 0
GoesOn e longer τ = (σ : Assignment) × IsEvaluation longer.gates σ × SameUpTo e.max σ τ

gates_beside_go_on : (e : Extended) (pairs : List (Lit × Lit)) (τ : Assignment) → IsExtension e → AreGates e pairs → IsEvaluation e.gates τ → GoesOn e (with_gates e pairs) τ
gates_beside_go_on e [] τ made fit evaluates = (τ, evaluates, λ v h. refl)
gates_beside_go_on e (p ∷ pairs) τ made fit evaluates =
    let one = gate_goes_on e p made fit.0 τ evaluates in
    let more = gates_beside_go_on (with_gate e p) pairs one.0 (gate_extends e p made fit.0) fit.1 one.1 in
    (more.0, more.1, λ v h. more.2 v (omega arith) ∙ one.2 v h)

-- outputs leave the gates
pub outputs_keep_gates : (e : Extended) (outputs : List (ℕ × Lit)) → (with_outputs e outputs).gates ≡ e.gates
outputs_keep_gates e [] = refl
outputs_keep_gates e (c ∷ outputs) = outputs_keep_gates (with_output e c) outputs

pub evaluations_go_on_beside : EvaluationsGoOnBeside
evaluations_go_on_beside e b τ made fits evaluates =
    let all = gates_beside_go_on e b.gates τ made fits.gates evaluates in
    (all.0, subst (λ gates. IsEvaluation gates all.0) (sym (outputs_keep_gates (with_gates e b.gates) b.outputs)) all.1, all.2)
