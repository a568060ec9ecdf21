-- What stands beside a graph: gates, each the conjunction of two literals, and literals that take the place of outputs.
use Rattle.std.specs.Prelude.{◌≡◌, ℕ, suc, ◌+◌, ◌<◌, ◌≤◌, ◌⊎◌, List, [], ◌∷◌, ◌++◌, length, drop}
use Rattle.std.specs.List.{fold}
use Rattle.graph_core.specs.declared.bounds.TheConstants.{MOST_VARIABLES}
use Rattle.graph_core.specs.declared.literal.Lit.{Lit}
use Rattle.graph_core.specs.Graph.Assignments.{Assignment}
use Rattle.graph_core.specs.Graph.Extended.{Extended, without_cut}
use Rattle.graph_core.specs.Graph.Literals.{and_gate}
use Rattle.graph_core.specs.Graph.{Aig, IsEvaluation}
use Rattle.ripple_graft.specs.Blocks.{SameUpTo, columns}
use Rattle.ripple_graft.specs.Extension.{IsExtension, IsKnown, IsReplaced}
use Rattle.ripple_graft.specs.Grafts.{IsKnownPair}
pub use Rattle.ripple_graft.specs.declared.beside.Beside.{Beside}

-- no gate and no output
abbrev pub nothing : Beside
nothing = record { gates = []; outputs = [] }

-- One gate more, the conjunction of two literals: its variable is the one after the greatest.
abbrev pub with_gate : Extended → Lit × Lit → Extended
with_gate e p = record {
  graph = e.graph;
  max = suc e.max;
  gates = e.gates ++ and_gate (suc e.max) p.0 p.1 ∷ [];
  replaced = e.replaced;
}

abbrev pub with_gates : Extended → List (Lit × Lit) → Extended
with_gates e pairs = fold with_gate e pairs

-- The literal takes the place of the column's output.
abbrev pub with_output : Extended → ℕ × Lit → Extended
with_output e c = record {
  graph = e.graph;
  max = e.max;
  gates = e.gates;
  replaced = e.replaced ++ columns c.0 (drop c.0 e.graph.outputs) (c.1 ∷ []);
}

abbrev pub with_outputs : Extended → List (ℕ × Lit) → Extended
with_outputs e outputs = fold with_output e outputs

-- The gates, and then the outputs. With nothing beside it, the extended graph is as it was.
abbrev pub with_beside : Extended → Beside → Extended
with_beside e b = with_outputs (with_gates e b.gates) b.outputs

-- Each gate reads the constant, inputs, gates of the extended graph, or gates beside it that come before.
abbrev pub AreGates : Extended → List (Lit × Lit) → Type 0
AreGates e [] = Unit {0}
AreGates e (p ∷ pairs) = IsKnownPair e p × AreGates (with_gate e p) pairs

-- The column is there and isn't replaced yet, and the literal is known.
pub record IsOutput (e : Extended) (c : ℕ × Lit) : Type 0 where
  pub within : c.0 < length e.graph.outputs
  pub once : ¬ (IsReplaced e c.0)
  pub known : IsKnown e c.1

-- one after the other
abbrev pub AreOutputs : Extended → List (ℕ × Lit) → Type 0
AreOutputs e [] = Unit {0}
AreOutputs e (c ∷ outputs) = IsOutput e c × AreOutputs (with_output e c) outputs

-- It fits the graph: there are at most MOST_VARIABLES gates, and each gate, and then each output, fits after those before.
pub record IsBeside (g : Aig) (b : Beside) : Type 0 where
  pub few : length b.gates ≤ MOST_VARIABLES
  pub gates : AreGates (without_cut g) b.gates
  pub outputs : AreOutputs (with_gates (without_cut g) b.gates) b.outputs

-- ---- beside an extended graph

-- So many gates have room: the last of them is no more than MOST_VARIABLES above the graph's greatest variable.
abbrev pub HaveRoom : Extended → ℕ → Type 0
HaveRoom e n = (n ≡ 0) ⊎ (e.max + n ≤ e.graph.max + MOST_VARIABLES)

-- The gates have room, and each gate, and then each output, fits after those before.
pub record FitsBeside (e : Extended) (b : Beside) : Type 0 where
  pub room : HaveRoom e (length b.gates)
  pub gates : AreGates e b.gates
  pub outputs : AreOutputs (with_gates e b.gates) b.outputs

-- ---- laws

-- What fits beside an extended graph keeps it without faults.
abbrev pub BesideExtends : Type 0
BesideExtends = (e : Extended) (b : Beside) → IsExtension e → FitsBeside e b → IsExtension (with_beside e b)

-- Each evaluation is the front of one with what stands beside.
abbrev pub EvaluationsGoOnBeside : Type 0
EvaluationsGoOnBeside = (e : Extended) (b : Beside) (τ : Assignment) → IsExtension e → FitsBeside e b → IsEvaluation e.gates τ →
    (σ : Assignment) × IsEvaluation (with_beside e b).gates σ × SameUpTo e.max σ τ
