-- What takes the place of a graph's outputs, the graph with it, and the header that names it.
use Rattle.std.specs.Prelude.{◌≡◌, ◌==◌, ◌⊎◌, ℕ, List, [], ◌∷◌, length, if◌then◌else◌, ⊤}
use Rattle.std.specs.declared.option.Option.{Option}
use Rattle.std.specs.declared.option.Option.TheVariants.{None, Some}
use Rattle.drup_text.specs.declared.head.Header.{Header}
use Rattle.graph_core.specs.Graph.Extended.{Extended}
use Rattle.graph_core.specs.Graph.{Aig}
use Rattle.ripple_graft.specs.Beside.{IsBeside, nothing, with_beside}
use Rattle.ripple_graft.specs.Blocks.{IsCut, block_of, with_blocks}
use Rattle.ripple_graft.specs.declared.beside.Beside.{Beside as BesideGraph}
use Rattle.ripple_graft.specs.declared.block.Block.{Block}
use Rattle.joint_prover.specs.declared.replacement.Replacement.{Replacement}
use Rattle.joint_prover.specs.declared.replacement.Replacement.TheVariants.{Adder, Beside}

-- The graph takes it, if there is one.
abbrev pub Takes : Aig → Option Replacement → Type 0
Takes g None = ⊤
Takes g (Some (Adder cut)) = IsCut g cut
Takes g (Some (Beside b)) = IsBeside g b

-- the block of an adder's cut, in a graph with so many outputs
abbrev pub blocks_of : ℕ → Option Replacement → List Block
blocks_of outputs None = []
blocks_of outputs (Some (Adder cut)) = block_of outputs cut ∷ []
blocks_of outputs (Some (Beside b)) = []

-- what stands beside
abbrev pub beside_of : Option Replacement → BesideGraph
beside_of None = nothing
beside_of (Some (Adder cut)) = nothing
beside_of (Some (Beside b)) = b

-- the graph with it, or alone
abbrev pub extended_by : Aig → Option Replacement → Extended
extended_by g r = with_beside (with_blocks g (blocks_of (length g.outputs) r)) (beside_of r)

-- ---- versions of certificates

-- a version of certificates
abbrev pub IsVersion : ℕ → Type 0
IsVersion version = (version ≡ 1) ⊎ ((version ≡ 2) ⊎ (version ≡ 3))

-- Gates beside a graph need version 3.
abbrev pub IsAllowed : ℕ → Option Replacement → Type 0
IsAllowed most None = ⊤
IsAllowed most (Some (Adder cut)) = ⊤
IsAllowed most (Some (Beside b)) = most ≡ 3

-- what needs no version above 1: it is written in version 2 where that is the greatest
abbrev pub plain_version : ℕ → ℕ
plain_version most = if most == 2 then 2 else 1

-- The version that is written, where this is the greatest that may be: 3 for gates beside the graph.
abbrev pub version_for : ℕ → Option Replacement → ℕ
version_for most None = plain_version most
version_for most (Some (Adder cut)) = plain_version most
version_for most (Some (Beside b)) = 3

-- the header that names it
abbrev pub header_of : Aig → ℕ → Option Replacement → Header
header_of g most r = record { version = version_for most r; blocks = blocks_of (length g.outputs) r; beside = beside_of r }
