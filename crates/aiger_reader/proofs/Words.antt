-- Words that proofs alone cite.
use Rattle.std.specs.Prelude.{ℕ, List, ◌++◌, codes, [], ◌∷◌, Bool, Result, Ok, Err, if◌then◌else◌}
use Rattle.graph_core.specs.Graph.{Aig}
use Rattle.aiger_reader.specs.Groups.{gates_groups}
use Rattle.aiger_reader.specs.Lines.{literal_lines, gate_lines, head_text}
use Rattle.graph_core.specs.Aiger.Reading.{Stop, Stops}

-- the ascii text by its pieces
unfoldable pub ascii_pieces : Aig → List ℕ
ascii_pieces g = head_text (codes "aag ") g ++ (literal_lines g.inputs ++ (literal_lines g.outputs ++ gate_lines g.gates))

-- the binary text by its pieces
unfoldable pub binary_pieces : Aig → List ℕ
binary_pieces g = head_text (codes "aig ") g ++ (literal_lines g.outputs ++ gates_groups g.gates)

-- what they make, where the byte after them ends a numeral by the test
abbrev pub ends_as : (ℕ → Bool) → ℕ × List ℕ → Result ((ℕ × ℕ) × List ℕ) Stop
ends_as ends (n, []) = Err (Stops [])
ends_as ends (n, b ∷ rest) = if ends b then Ok ((n, b), rest) else Err (Stops (b ∷ rest))
