-- What is answered of a cut and of blocks, and how an extended graph is kept.
use Rattle.std.specs.Prelude.{◌≡◌, ℕ, zero, suc, ◌+◌, ◌*◌, ◌<◌, ◌≤◌, ◌⊎◌, Bool, List, [], ◌∷◌, ◌++◌, length, map}
use Rattle.std.specs.declared.option.Option.{Option}
use Rattle.std.specs.declared.option.Option.TheVariants.{None, Some}
use Rattle.std.specs.List.{All, AllWithin, HoldsAt}
use Rattle.graph_core.specs.declared.bounds.TheConstants.{MOST_VARIABLES}
use Rattle.graph_core.specs.declared.literal.Lit.{Lit}
use Rattle.graph_core.specs.declared.gate.Gate.{Gate}
use Rattle.graph_core.specs.Graph.{Aig, IsWellFormed}
use Rattle.graph_core.specs.Graph.Extended.{Column, Extended, without_cut}
use Rattle.graph_core.specs.Graph.Literals.{constant_false}
use Rattle.ripple_graft.specs.declared.added.Added.{Added}
use Rattle.ripple_graft.specs.declared.added.Replaced.{Replaced}
use Rattle.ripple_graft.specs.declared.adder.Adder.{Adder}
use Rattle.ripple_graft.specs.declared.fault.BlocksFail.{BlocksFail}
use Rattle.ripple_graft.specs.declared.fault.BlocksFail.TheVariants as blocks_fail
use Rattle.ripple_graft.specs.declared.fault.GraftFail.{GraftFail}
use Rattle.ripple_graft.specs.declared.fault.GraftFail.TheVariants.{Columns, Literal, Memory}
use Rattle.ripple_graft.specs.Ripple.{ripple_gates, ripple_outputs}
use Rattle.ripple_graft.specs.Extension.{IsExtension, IsKnown}
use Rattle.ripple_graft.specs.Blocks.{Block, Cut, IsBlock, graft_block, reach}

-- The cut has a pair, and its sums end at the last column or the one before it.
pub record HasColumns (g : Aig) (cut : Cut) : Type 0 where
  pub some : 0 < length cut.pairs
  pub columns : (cut.lo + length cut.pairs + 1 ≡ length g.outputs) ⊎ (cut.lo + length cut.pairs ≡ length g.outputs)

-- both literals are the constant, inputs or gates, of the graph or added
abbrev pub IsKnownPair : Extended → Lit × Lit → Type 0
IsKnownPair e p = IsKnown e p.0 × IsKnown e p.1

-- pair i is the first that isn't known
pub record IsFirstUnknown (e : Extended) (pairs : List (Lit × Lit)) (i : ℕ) : Type 0 where
  pub within : i < length pairs
  pub earlier : AllWithin (IsKnownPair e) pairs 0 i
  pub unknown : HoldsAt (λ p. ¬ (IsKnownPair e p)) pairs i

-- ---- blocks

-- no column from the first of these on and before the second is replaced
abbrev pub AreUnreplaced : List Column → ℕ → ℕ → Type 0
AreUnreplaced cs lo end = All (λ c. (c.number < lo) ⊎ (end ≤ c.number)) cs

-- There is a pair, and the columns are among the outputs and replaced by no block so far.
pub record HasColumnRoom (e : Extended) (lo pairs : ℕ) (carry : Bool) : Type 0 where
  pub some : 0 < pairs
  pub within : lo + reach pairs carry ≤ length e.graph.outputs
  pub apart : AreUnreplaced e.replaced lo (lo + reach pairs carry)

-- so it is of a block
abbrev pub HasRoomFor : Extended → Block → Type 0
HasRoomFor e b = HasColumnRoom e b.cut.lo (length b.cut.pairs) b.carry

-- why a block doesn't fit after those so far: its columns, or else its first unknown pair
abbrev pub IsBlockFault : Extended → Block → GraftFail → Type 0
IsBlockFault e b Columns = ¬ (HasRoomFor e b)
IsBlockFault e b (Literal p) = HasRoomFor e b × IsFirstUnknown e b.cut.pairs p
IsBlockFault e b Memory = Unit {0}

-- the blocks before the i-th fit one after the other, and this one doesn't, for this cause
abbrev pub IsFirstFault : Extended → List Block → ℕ → GraftFail → Type 0
IsFirstFault e [] i why = ⊥
IsFirstFault e (b ∷ blocks) zero why = IsBlockFault e b why
IsFirstFault e (b ∷ blocks) (suc i) why = IsBlock e b × IsFirstFault (graft_block e b) blocks i why

-- the first block at fault, and in it the first pair; or out of memory
abbrev pub IsBlocksFault : Aig → List Block → BlocksFail → Type 0
IsBlocksFault g blocks (blocks_fail.Columns i) = IsFirstFault (without_cut g) blocks i Columns
IsBlocksFault g blocks (blocks_fail.Literal i p) = IsFirstFault (without_cut g) blocks i (Literal p)
IsBlocksFault g blocks blocks_fail.Memory = Unit {0}

-- ---- how an extended graph is kept: the graph, and perhaps gates after its own

-- the adder of some pairs after gates, the greatest variable so far
pub record IsAdderBehind (max : ℕ) (gates : List Gate) (pairs : List (Lit × Lit)) (a : Adder) : Type 0 where
  pub max_is : a.max ≡ max + 7 * length pairs
  pub gates_are : a.gates.items ≡ gates ++ ripple_gates max constant_false pairs
  pub outputs_are : a.outputs.items ≡ ripple_outputs max constant_false pairs

abbrev pub column_in : Replaced → Column
column_in c = record { number = c.number; old = c.old; new = c.new }

abbrev pub columns_in : List Replaced → List Column
columns_in cs = map column_in cs

abbrev pub seen_in : Aig → Added → Extended
seen_in g a = record { graph = g; max = a.max; gates = a.gates.items; replaced = columns_in a.columns.items }

abbrev pub seen : Aig → Option Added → Extended
seen g None = without_cut g
seen g (Some a) = seen_in g a

-- gates with the variables after v, one after the other
abbrev pub AreNumberedOn : ℕ → List Gate → Type 0
AreNumberedOn v [] = Unit {0}
AreNumberedOn v (x ∷ gates) = (x.v ≡ suc v) × AreNumberedOn (suc v) gates

-- The graph's gates, and others numbered on: for each replaced column at most seven, those of adders, and besides at most
-- MOST_VARIABLES. It is without faults where the graph is.
pub record IsGrafted (g : Aig) (e : Extended) : Type 0 where
  pub own : List Gate
  pub graph_is : e.graph ≡ g
  pub extends : IsWellFormed g → IsExtension e
  pub gates_are : e.gates ≡ g.gates ++ own
  pub numbered : AreNumberedOn g.max own
  pub max_is : e.max ≡ g.max + length own
  pub room : e.max ≤ g.max + MOST_VARIABLES + 7 * length e.replaced

abbrev pub IsAddedGrafted : Aig → Option Added → Type 0
IsAddedGrafted g added = IsGrafted g (seen g added)
