-- What a header of version 3 lists: so many gates beside the graph, and so many outputs. Each line adds to an extended graph.
use Rattle.std.specs.Prelude.{ℕ, List, length}
use Rattle.graph_core.specs.declared.bounds.TheConstants.{MOST_VARIABLES}
use Rattle.graph_core.specs.declared.literal.Lit.{Lit}
use Rattle.graph_core.specs.Graph.Extended.{Extended}
use Rattle.graph_core.specs.Text.JudgedLines.{BeginsWith}
use Rattle.ripple_graft.specs.Beside.{IsOutput, with_gate, with_output}
use Rattle.drup_text.specs.ClauseTexts.{AreLinesOf, IsGatesLine, IsOutputLine, IsPairLine, IsReplaceLine}
use Rattle.drup_text.specs.LineTexts.{IsPairOf}

-- A line with a number, and so many lines: their texts, what is in range over the graph with the lines before, and that graph with
-- one line more.
pub record Listing (X : Type 0) : Type 1 where
  pub number_text : List ℕ → ℕ → Type 0
  pub most : Extended → ℕ
  pub text : List ℕ → X → Type 0
  pub in_range : Extended → X → Type 0
  pub more : Extended → X → Extended

-- gates beside the graph: both literals are of the graph or of gates before
abbrev pub gate_listing : Listing (Lit × Lit)
gate_listing = record { number_text = IsGatesLine; most = λ e. MOST_VARIABLES; text = IsPairLine; in_range = IsPairOf; more = with_gate }

-- outputs: no column twice
abbrev pub output_listing : Listing (ℕ × Lit)
output_listing = record { number_text = IsReplaceLine; most = λ e. length e.graph.outputs; text = IsOutputLine; in_range = IsOutput; more = with_output }

-- the number of these, and a line for each
abbrev pub IsListed : {X : Type 0} → Listing X → List ℕ → List X → List ℕ → Type 0
IsListed l bytes xs after = (rest : List ℕ) × BeginsWith l.number_text bytes (length xs) rest × AreLinesOf l.text rest xs after
