-- Two graphs as one: the gates of the second one after those of the first one, over the same inputs.
use Rattle.std.specs.Prelude.{◌≡◌, ◌≤◌, ℕ, ◌+◌, ◌*◌, ◌%◌, Bool, List, [], ◌∷◌, ◌++◌, map, length, if◌then◌else◌, ◌==◌}
use Rattle.graph_core.specs.declared.gate.Gate.{Gate}
use Rattle.graph_core.specs.declared.literal.Lit.{Lit}
use Rattle.graph_core.specs.Graph.Extended.{AgreeOnColumns, Extended}
use Rattle.graph_core.specs.Graph.Assignments.{Assignment, literal, variable}
use Rattle.graph_core.specs.Graph.Literals.{variable_of}
use Rattle.graph_core.specs.Graph.{Aig, IsEvaluation, IsWellFormed, evaluated}
use Rattle.miter_encoder.specs.ColumnGoals.{columns_from}

-- They have as many inputs, and as many outputs.
pub record AreOfOneShape (g h : Aig) : Type 0 where
  pub inputs : length g.inputs ≡ length h.inputs
  pub outputs : length g.outputs ≡ length h.outputs

-- ---- merged gates

-- where the variable is that of an input, the variable of the other graph's input at its place, and else another
abbrev pub input_or : List Lit → List Lit → ℕ → ℕ → ℕ
input_or [] others v other = other
input_or (l ∷ ls) [] v other = other
input_or (l ∷ ls) (k ∷ others) v other = if v == variable_of l then variable_of k else input_or ls others v other

-- The variable that a variable of the second graph gets: the constant stays, an input is that of the first graph at its place, and any
-- other goes up by the greatest variable of the first graph.
abbrev pub moved : Aig → Aig → ℕ → ℕ
moved g h v = if v == 0 then 0 else input_or h.inputs g.inputs v (g.max + v)

abbrev pub moved_literal : Aig → Aig → Lit → Lit
moved_literal g h l = record { 0 = 2 * moved g h (variable_of l) + l.0 % 2 }

abbrev pub moved_gate : Aig → Aig → Gate → Gate
moved_gate g h x = record { v = g.max + x.v; left = moved_literal g h x.left; right = moved_literal g h x.right }

abbrev pub pairs_of : List Lit → List Lit → List (Lit × Lit)
pairs_of [] ks = []
pairs_of (l ∷ ls) [] = []
pairs_of (l ∷ ls) (k ∷ ks) = (l, k) ∷ pairs_of ls ks

-- The greatest variable, the merged gates, and for each output that of the first graph and that of the second one.
pub record Both : Type 0 where
  pub max : ℕ
  pub gates : List Gate
  pub pairs : List (Lit × Lit)

abbrev pub both : Aig → Aig → Both
both g h = record {
  max = g.max + h.max;
  gates = g.gates ++ map (moved_gate g h) h.gates;
  pairs = pairs_of g.outputs (map (moved_literal g h) h.outputs);
}

-- As gates and columns: each output of the first graph is replaced by that of the second one. No graph of its own is needed.
abbrev pub over : Both → Extended
over b = record { graph = record { max = 0; inputs = []; outputs = []; gates = [] }; max = b.max; gates = b.gates; replaced = columns_from 0 b.pairs }

abbrev pub merged : Aig → Aig → Extended
merged g h = over (both g h)

-- ---- evaluations

-- what an assignment of the merged variables gives to those of the second graph
abbrev pub second_part : Aig → Aig → Assignment → Assignment
second_part g h σ v = variable σ (moved g h v)

-- the inputs of both graphs have the same values
abbrev pub HaveSameInputs : Aig → Aig → Assignment → Assignment → Type 0
HaveSameInputs g h σ τ = map (literal σ) g.inputs ≡ map (literal τ) h.inputs

-- An assignment of the merged variables that has these values for both graphs.
pub record HasParts (g h : Aig) (ρ σ τ : Assignment) : Type 0 where
  pub first : (l : Lit) → variable_of l ≤ g.max → literal ρ l ≡ literal σ l
  pub second : (l : Lit) → literal ρ (moved_literal g h l) ≡ literal τ l

-- An evaluation of the merged gates is a pair of evaluations with equal inputs.
pub record MergedIsPair : Type 0 where
  pub parts : (g h : Aig) → IsWellFormed g → IsWellFormed h → AreOfOneShape g h → (ρ : Assignment) → IsEvaluation (merged g h).gates ρ →
      IsEvaluation g.gates ρ × IsEvaluation h.gates (second_part g h ρ) × HaveSameInputs g h ρ (second_part g h ρ)
  pub joined : (g h : Aig) → IsWellFormed g → IsWellFormed h → AreOfOneShape g h → (σ τ : Assignment) → IsEvaluation g.gates σ →
      IsEvaluation h.gates τ → HaveSameInputs g h σ τ → (ρ : Assignment) × IsEvaluation (merged g h).gates ρ × HasParts g h ρ σ τ

-- For all inputs all outputs of the two graphs agree.
abbrev pub AgreeOnInputs : Aig → Aig → Type 0
AgreeOnInputs g h = (bits : List Bool) → length bits ≡ length g.inputs →
    map (literal (evaluated g bits)) g.outputs ≡ map (literal (evaluated h bits)) h.outputs

-- They do where on every evaluation of the merged gates the outputs of each column are equal.
abbrev pub MergedOutputsAgree : Type 0
MergedOutputsAgree = (g h : Aig) → IsWellFormed g → IsWellFormed h → AreOfOneShape g h →
    ((σ : Assignment) → IsEvaluation (merged g h).gates σ → AgreeOnColumns (merged g h) σ) → AgreeOnInputs g h
