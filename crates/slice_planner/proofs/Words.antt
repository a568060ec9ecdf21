-- Words that proofs alone cite.
use Rattle.std.specs.Prelude.{ℕ, ◌+◌, List, [], ◌∷◌, if◌then◌else◌}
use Rattle.graph_core.specs.declared.gate.Gate.{Gate}
use Rattle.frontier_core.specs.Sets.{has}

-- how many gates aren't eliminated
abbrev pub left_count : List Gate → List ℕ → ℕ
left_count [] eliminated = 0
left_count (x ∷ gates) eliminated = (if has eliminated x.v then 0 else 1) + left_count gates eliminated
