-- A graph together with blocks of ripple-carry adders, which are added one after the other: the sums of each replace some columns,
-- and where it is said so, its last carry replaces the column after them.
use Rattle.std.specs.Prelude.{◌≡◌, ℕ, ◌+◌, ◌*◌, ◌<◌, ◌≤◌, ◌⊎◌, Bool, List, [], ◌∷◌, ◌++◌, map, length, take, drop, if◌then◌else◌, ◌==◌, suc}
use Rattle.std.specs.List.{All, flat_map, fold}
use Rattle.graph_core.specs.declared.literal.Lit.{Lit}
use Rattle.graph_core.specs.Graph.Assignments.{Assignment, word}
use Rattle.graph_core.specs.Graph.{Aig, IsEvaluation, IsWellFormed}
use Rattle.graph_core.specs.Graph.Extended.{Column, Extended, without_cut}
use Rattle.graph_core.specs.Graph.Literals.{constant_false}
use Rattle.ripple_graft.specs.Ripple.{ripple_gates, ripple_outputs}
use Rattle.ripple_graft.specs.Extension.{IsExtension, IsKnown}
pub use Rattle.ripple_graft.specs.declared.cut.Cut.{Cut}
pub use Rattle.ripple_graft.specs.declared.block.Block.{Block}

-- a cut, and whether the last carry replaces the column after its sums
abbrev pub block : Cut → Bool → Block
block cut carry = record { cut = cut; carry = carry }

-- the columns from k on, with their old and new outputs, as far as there are both
abbrev pub columns : ℕ → List Lit → List Lit → List Column
columns k [] new = []
columns k (o ∷ old) [] = []
columns k (o ∷ old) (r ∷ new) = record { number = k; old = o; new = r } ∷ columns (suc k) old new

-- how many columns so many pairs replace, with the last carry's or without
abbrev pub reach : ℕ → Bool → ℕ
reach pairs carry = if carry then pairs + 1 else pairs

-- how many columns a block replaces
abbrev pub span : Block → ℕ
span b = reach (length b.cut.pairs) b.carry

-- Their new outputs, where the adder is in the variables after v; the carry into its first position is the constant 0.
abbrev pub block_outputs : ℕ → Block → List Lit
block_outputs v b = take (span b) (ripple_outputs v constant_false b.cut.pairs)

abbrev pub block_columns : Aig → ℕ → Block → List Column
block_columns g v b = columns b.cut.lo (drop b.cut.lo g.outputs) (block_outputs v b)

-- One block more: its gates are numbered on from the greatest variable.
abbrev pub graft_block : Extended → Block → Extended
graft_block e b = record {
  graph = e.graph;
  max = e.max + 7 * length b.cut.pairs;
  gates = e.gates ++ ripple_gates e.max constant_false b.cut.pairs;
  replaced = e.replaced ++ block_columns e.graph e.max b;
}

abbrev pub graft_all : Extended → List Block → Extended
graft_all e blocks = fold graft_block e blocks

-- The graph with blocks. With none it is the graph alone.
abbrev pub with_blocks : Aig → List Block → Extended
with_blocks g blocks = graft_all (without_cut g) blocks

-- The block fits the graph with the blocks before it: it has a pair, its columns are among the outputs and replaced by no earlier
-- block, and the literals of its pairs are the constant, inputs, gates of the graph, or gates of earlier blocks.
pub record IsBlock (e : Extended) (b : Block) : Type 0 where
  pub some : 0 < length b.cut.pairs
  pub within : b.cut.lo + span b ≤ length e.graph.outputs
  pub apart : All (λ c. (c.number < b.cut.lo) ⊎ (b.cut.lo + span b ≤ c.number)) e.replaced
  pub known : All (λ p. IsKnown e p.0 × IsKnown e p.1) b.cut.pairs

-- each block fits after those before it
abbrev pub AreBlocks : Extended → List Block → Type 0
AreBlocks e [] = Unit {0}
AreBlocks e (b ∷ blocks) = IsBlock e b × AreBlocks (graft_block e b) blocks

-- ---- one cut up to the last column

-- Of a graph with m outputs: the last carry replaces column m - 1 where that is the one after the sums.
abbrev pub block_of : ℕ → Cut → Block
block_of m cut = record { cut = cut; carry = cut.lo + length cut.pairs + 1 == m }

abbrev pub with_cut : Aig → Cut → Extended
with_cut g cut = graft_block (without_cut g) (block_of (length g.outputs) cut)

-- A cut of the graph: at least one pair, of known literals, up to the last column or the one before it.
pub record IsCut (g : Aig) (cut : Cut) : Type 0 where
  pub some : 0 < length cut.pairs
  pub columns : (cut.lo + length cut.pairs + 1 ≡ length g.outputs) ⊎ (cut.lo + length cut.pairs ≡ length g.outputs)
  pub known : All (λ p. IsKnown (without_cut g) p.0 × IsKnown (without_cut g) p.1) cut.pairs

-- Such a cut is a block of the graph.
abbrev pub CutIsBlock : Type 0
CutIsBlock = (g : Aig) (cut : Cut) → IsCut g cut → IsBlock (without_cut g) (block_of (length g.outputs) cut)

-- Its sums, and its last carry where there is a column for it, replace the outputs from its first column on.
abbrev pub CutReplaces : Type 0
CutReplaces = (g : Aig) (cut : Cut) → IsCut g cut → with_cut g cut ≡ record {
  graph = g;
  max = g.max + 7 * length cut.pairs;
  gates = g.gates ++ ripple_gates g.max constant_false cut.pairs;
  replaced = columns cut.lo (drop cut.lo g.outputs) (ripple_outputs g.max constant_false cut.pairs);
}

-- ---- all blocks at once

-- each block with the greatest variable before it
abbrev pub placed : ℕ → List Block → List (ℕ × Block)
placed v [] = []
placed v (b ∷ blocks) = (v, b) ∷ placed (v + 7 * length b.cut.pairs) blocks

-- the number of all pairs
abbrev pub pair_count : List Block → ℕ
pair_count [] = 0
pair_count (b ∷ blocks) = length b.cut.pairs + pair_count blocks

-- The graph's gates and after them the seven of each position, block by block, numbered on; and the columns, block by block.
abbrev pub BlocksAreJoined : Type 0
BlocksAreJoined = (g : Aig) (blocks : List Block) → with_blocks g blocks ≡ record {
  graph = g;
  max = g.max + 7 * pair_count blocks;
  gates = g.gates ++ flat_map (λ p. ripple_gates p.0 constant_false p.1.cut.pairs) (placed g.max blocks);
  replaced = flat_map (λ p. block_columns g p.0 p.1) (placed g.max blocks);
}

-- ---- laws

-- A block keeps an extended graph without faults; so do blocks that fit one after the other.
abbrev pub GraftExtends : Type 0
GraftExtends = (e : Extended) (b : Block) → IsExtension e → IsBlock e b → IsExtension (graft_block e b)

abbrev pub BlocksExtend : Type 0
BlocksExtend = (g : Aig) (blocks : List Block) → IsWellFormed g → AreBlocks (without_cut g) blocks → IsExtension (with_blocks g blocks)

-- what an assignment says of variables up to a greatest one
abbrev pub SameUpTo : ℕ → Assignment → Assignment → Type 0
SameUpTo max σ τ = (v : ℕ) → v ≤ max → σ v ≡ τ v

-- Each evaluation is the front of one of the graph with one block more, and so with any blocks.
abbrev pub EvaluationGoesOn : Type 0
EvaluationGoesOn = (e : Extended) (b : Block) (τ : Assignment) → IsExtension e → IsBlock e b → IsEvaluation e.gates τ →
    (σ : Assignment) × IsEvaluation (graft_block e b).gates σ × SameUpTo e.max σ τ

abbrev pub EvaluationsExtend : Type 0
EvaluationsExtend = (g : Aig) (blocks : List Block) (τ : Assignment) → IsWellFormed g → AreBlocks (without_cut g) blocks → IsEvaluation g.gates τ →
    (σ : Assignment) × IsEvaluation (with_blocks g blocks).gates σ × SameUpTo g.max σ τ

-- The word of a block's sums and last carry is the sum of its pairs' words.
abbrev pub BlockAdds : Assignment → ℕ × Block → Type 0
BlockAdds σ p = word σ (ripple_outputs p.0 constant_false p.1.cut.pairs) ≡ word σ (map (λ x. x.0) p.1.cut.pairs) + word σ (map (λ x. x.1) p.1.cut.pairs)

-- On every evaluation each block adds.
abbrev pub BlocksAdd : Type 0
BlocksAdd = (g : Aig) (blocks : List Block) (σ : Assignment) → IsEvaluation (with_blocks g blocks).gates σ → All (BlockAdds σ) (placed g.max blocks)
