-- Of unsigned operands of one width, without an addend, what is claimed is that the graph multiplies.
use Rattle.std.specs.Prelude.{◌↔◌, ℕ, List}
use Rattle.graph_core.specs.Aiger.{Spells}
use Rattle.graph_core.specs.Graph.{Aig}
use Rattle.graph_core.specs.Graph.Operands.{Does, Multiplies, product_under}
use Rattle.graph_core.specs.declared.order.Order.{Order}
use Rattle.graph_core.specs.declared.profile.Profile.TheVariants.{Multiplier}
use Rattle.graph_core.specs.declared.sign.Sign.TheVariants.{Unsigned}
use Rattle.graph_core.proofs.OfAiger.CallerLemmas.{spelled_shape}
use Rattle.graph_core.proofs.OfGraphs.CallerLemmas.{doing_is_multiplying}

pub product_is_claimed : (bytes : List ℕ) (g : Aig) (order : Order) → Spells Multiplier bytes g → Does (product_under order) g ↔ Multiplies g order
product_is_claimed bytes g order spells = doing_is_multiplying g order Unsigned (spelled_shape Multiplier bytes g spells).shape
