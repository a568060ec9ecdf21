-- What holds of an extended graph, and its outputs.
use Rattle.std.specs.Prelude.{◌≡◌, ◌≢◌, ℕ, suc, ◌≤◌, ◌⊎◌, List, [], ◌∷◌, map, if◌then◌else◌, ◌==◌, Some, slice_get}
use Rattle.std.specs.List.{All, AllPairs, Any, Contains}
use Rattle.graph_core.specs.declared.literal.Lit.{Lit}
use Rattle.graph_core.specs.Graph.Literals.{variable_of}
use Rattle.graph_core.specs.Graph.Extended.{AgreeOnColumns, Extended, Column}
use Rattle.graph_core.specs.Graph.Assignments.{Assignment, word}
use Rattle.graph_core.specs.Graph.{Aig, IsDefinedOnce, IsAcyclic, IsWellFormed, defined}

-- some column of this number is replaced
abbrev pub IsReplaced : Extended → ℕ → Type 0
IsReplaced e k = Any (λ column. column.number ≡ k) e.replaced

-- the new output of a column where it is replaced, else the old one
abbrev pub new_or_old : List Column → ℕ → Lit → Lit
new_or_old [] k old = old
new_or_old (c ∷ cs) k old = if c.number == k then c.new else new_or_old cs k old

-- the outputs of the columns from k on
abbrev pub outputs_from : List Column → ℕ → List Lit → List Lit
outputs_from cs k [] = []
outputs_from cs k (l ∷ ls) = new_or_old cs k l ∷ outputs_from cs (suc k) ls

-- The outputs, where those of replaced columns are the new ones.
abbrev pub new_outputs : Extended → List Lit
new_outputs e = outputs_from e.replaced 0 e.graph.outputs

-- the graph of all gates and the new outputs
abbrev pub whole : Extended → Aig
whole e = record { max = e.max; inputs = e.graph.inputs; outputs = new_outputs e; gates = e.gates }

-- the literal's variable is the constant, an input, or a gate of the graph or an added one
abbrev pub IsKnown : Extended → Lit → Type 0
IsKnown e l = (variable_of l ≡ 0) ⊎ Contains (defined (whole e)) (variable_of l)

-- a known literal whose variable is at most the greatest one
abbrev pub IsReadable : Extended → Lit → Type 0
IsReadable e l = (variable_of l ≤ e.max) × IsKnown e l

-- An extended graph without faults: its gates have those of its graph among them, and a replaced column's old output
-- is the graph's.
pub record IsExtension (e : Extended) : Type 0 where
  pub graph : IsWellFormed e.graph
  pub room : e.graph.max ≤ e.max
  pub defined_once : IsDefinedOnce (whole e)
  pub acyclic : IsAcyclic e.gates
  pub kept : All (Contains e.gates) e.graph.gates
  pub replaced : All (λ c. slice_get e.graph.outputs c.number ≡ Some c.old) e.replaced
  pub new_readable : All (λ c. IsReadable e c.new) e.replaced
  pub operands : All (λ x. IsReadable e x.left × IsReadable e x.right) e.gates
  pub gates_in_range : All (λ x. x.v ≤ e.max) e.gates
  pub numbers_once : AllPairs ◌≢◌ (map (λ c. c.number) e.replaced)

-- So all gates with the new outputs are a graph without faults.
abbrev pub WholeIsWellFormed : Type 0
WholeIsWellFormed = (e : Extended) → IsExtension e → IsWellFormed (whole e)

-- The output of a replaced column is the new one; where the old and the new outputs are equal, the outputs' word is the old one.
pub record OutputsAreNew : Type 0 where
  pub replaced : (e : Extended) → IsExtension e → All (λ c. slice_get (new_outputs e) c.number ≡ Some c.new) e.replaced
  pub kept : (e : Extended) (k : ℕ) → ¬ (IsReplaced e k) → slice_get (new_outputs e) k ≡ slice_get e.graph.outputs k
  pub agreeing : (e : Extended) (σ : Assignment) → IsExtension e → AgreeOnColumns e σ → word σ (new_outputs e) ≡ word σ e.graph.outputs
