-- Blocks that a graph takes are grafted onto it: no fault is there.
use Rattle.std.specs.Prelude.{ℕ, zero, suc, List, [], ◌∷◌}
use Rattle.graph_core.specs.declared.literal.Lit.{Lit}
use Rattle.graph_core.specs.Graph.Extended.{Extended}
use Rattle.ripple_graft.specs.Blocks.{AreBlocks, graft_block}
use Rattle.ripple_graft.specs.declared.block.Block.{Block}
use Rattle.ripple_graft.specs.Grafts.{IsFirstFault}
use Rattle.ripple_graft.specs.declared.fault.GraftFail.TheVariants.{Columns, Literal}

pub no_columns : (e : Extended) (blocks : List Block) (i : ℕ) → AreBlocks e blocks → IsFirstFault e blocks i Columns → ⊥
no_columns e [] i fit h = h
no_columns e (b ∷ blocks) zero fit h = h (record { some = fit.0.some; within = fit.0.within; apart = fit.0.apart })
no_columns e (b ∷ blocks) (suc i) fit h = no_columns (graft_block e b) blocks i fit.1 h.1

pub no_literal : (e : Extended) (blocks : List Block) (i p : ℕ) → AreBlocks e blocks → IsFirstFault e blocks i (Literal p) → ⊥
no_literal e [] i p fit h = h
no_literal e (b ∷ blocks) zero p fit h = let none : Lit × Lit = (record { 0 = 0 }, record { 0 = 0 }) in h.1.unknown none (fit.0.known p none h.1.within)
no_literal e (b ∷ blocks) (suc i) p fit h = no_literal (graft_block e b) blocks i p fit.1 h.1
