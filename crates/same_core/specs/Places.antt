-- Ranges of variables. Private clauses alone cite it.
use Rattle.std.specs.Prelude.{◌<◌, ◌≤◌, ◌^◌, length}
use Rattle.std.specs.List.{All}
use Rattle.graph_core.specs.declared.bounds.TheConstants.{MOST_OUTPUTS}
use Rattle.graph_core.specs.declared.literal.Lit.{Lit}
use Rattle.graph_core.specs.Graph.Literals.{variable_of}
use Rattle.graph_core.specs.Graph.{Aig}
use Rattle.clause_core.specs.GateClauses.{AreGatesWithin}
use Rattle.same_core.specs.Merged.{Both}

abbrev pub IsReadableIn : Aig → Lit → Type 0
IsReadableIn g l = variable_of l ≤ g.max

-- What is known of merged gates: their variables and those of the outputs are in range, and there are few outputs.
pub record IsMerged (b : Both) : Type 0 where
  pub within : AreGatesWithin b.max b.gates
  pub small : b.max < 2 ^ 31
  pub outputs : All (λ p. (variable_of p.0 ≤ b.max) × (variable_of p.1 ≤ b.max)) b.pairs
  pub few : length b.pairs ≤ MOST_OUTPUTS
