-- What the header of a certificate names, blocks or what stands beside, and whether a graph takes it.
use Rattle.std.specs.Prelude.{◌≡◌, ◌≤◌, ◌⊎◌, ℕ, List, [], ◌∷◌, length}
use Rattle.std.specs.declared.option.Option.{Option}
use Rattle.std.specs.declared.option.Option.TheVariants.{None, Some}
use Rattle.graph_core.specs.Graph.{Aig}
use Rattle.graph_core.specs.Graph.Extended.{without_cut}
use Rattle.ripple_graft.specs.Beside.{Beside, IsBeside, nothing}
use Rattle.ripple_graft.specs.Blocks.{AreBlocks, Block, Cut, IsCut, block_of}

-- In version 1 there is one cut, or none: its block, for a graph with so many outputs.
abbrev pub cut_blocks : ℕ → Option Cut → List Block
cut_blocks outputs None = []
cut_blocks outputs (Some cut) = block_of outputs cut ∷ []

-- The graph takes it.
abbrev pub IsCutOf : Aig → Option Cut → Type 0
IsCutOf g None = Unit {0}
IsCutOf g (Some cut) = IsCut g cut

-- The graph takes blocks: in version 1 those of a cut up to the last column or the one before it, in version 2 blocks that fit one
-- after the other, no more of them than columns.
abbrev pub AreHeaderBlocks : Aig → ℕ → List Block → Type 0
AreHeaderBlocks g version blocks =
    ((version ≡ 1) × ((cut : Option Cut) × (blocks ≡ cut_blocks (length g.outputs) cut) × IsCutOf g cut)) ⊎
    ((version ≡ 2) × (length blocks ≤ length g.outputs) × AreBlocks (without_cut g) blocks)

-- The graph takes all that a header names: in versions 1 and 2 the blocks, with nothing beside; in version 3 no blocks, and what
-- stands beside.
abbrev pub AreHeaderParts : Aig → ℕ → List Block → Beside → Type 0
AreHeaderParts g version blocks beside = (AreHeaderBlocks g version blocks × (beside ≡ nothing)) ⊎ ((version ≡ 3) × (blocks ≡ []) × IsBeside g beside)
