-- The pair of certificates of a graph.
use Rattle.std.specs.Prelude.{ℕ, List}
use Rattle.graph_core.specs.Aiger.{Spells}
use Rattle.algebra_core.specs.Certificates.{IsLawfulAlgebra}
use Rattle.algebra_core.specs.AlgebraLines.{Premises}
use Rattle.graph_core.specs.Graph.Operands.{Does, profile_of, sides_for}
use Rattle.graph_core.specs.declared.claim.Claim.{Claim}
use Rattle.graph_core.specs.Graph.{Aig}
use Rattle.graph_core.specs.Text.JudgedLines.{IsWithin, Lengths}
use Rattle.pair_core.specs.ClauseFiles.{GivesPremises}

-- The clause file gives premises, over which the algebra file is lawful. No file and no line is longer than it may be.
pub record IsLawfulPair (lengths : Lengths) (g : Aig) (claim : Claim) (clauses algebra : List ℕ) : Type 0 where
  pub premises : Premises
  pub gives : GivesPremises lengths g clauses premises
  pub lawful : IsLawfulAlgebra lengths premises (sides_for claim g) algebra

-- The certificates are a lawful pair for the graph, under all lengths that they are within.
abbrev pub IsPair : Aig → Claim → List ℕ → List ℕ → Type 0
IsPair g claim clauses algebra = (lengths : Lengths) → IsWithin lengths clauses → IsWithin lengths algebra → IsLawfulPair lengths g claim clauses algebra

-- The graph of a lawful pair does what is claimed.
abbrev pub LawfulPairsAreSound : Type 0
LawfulPairsAreSound = (file : List ℕ) (lengths : Lengths) (g : Aig) (claim : Claim) (clauses algebra : List ℕ) → Spells (profile_of claim.widths) file g →
    IsLawfulPair lengths g claim clauses algebra → Does claim g
