-- How many outputs graphs of multipliers have, and that the graph with a header's blocks is of that graph.
use Rattle.std.proofs.Common.{◌≡◌, ◌≤◌, true, false, length, arith}
use Rattle.graph_core.specs.declared.widths.Widths.{Widths}
use Rattle.graph_core.specs.declared.widths.Widths.TheVariants.{Equal, Given}
use Rattle.graph_core.specs.Aiger.Sizes.{IsSizedAs}
use Rattle.graph_core.specs.Graph.Operands.{profile_of}
use Rattle.graph_core.specs.Graph.{Aig}
use Rattle.drup_text.specs.Headers.{IsHeaderOf, extended_with}
use Rattle.drup_text.specs.declared.head.Header.{Header}
use Rattle.ripple_graft.proofs.GraftedGraphs.{grafted_graph}
use Rattle.joint_checker.proofs.Joined.{header_made}

pub outputs_of : (w : Widths) (g : Aig) → IsSizedAs (profile_of w) g → (1 ≤ length g.outputs) × (length g.outputs ≤ 128)
outputs_of (Equal false) g sized = (sized.shape.some_outputs, (let narrow = sized.narrow in let few = sized.shape.outputs in omega arith))
outputs_of (Equal true) g sized = (sized.shape.some_outputs, (let narrow = sized.narrow in let few = sized.shape.outputs in omega arith))
outputs_of (Given a b add) g sized = (sized.shape.some_outputs, (let a_narrow = sized.narrow_a in let b_narrow = sized.narrow_b in let few = sized.shape.outputs in omega arith))

pub extended_graph : (g : Aig) (h : Header) → IsHeaderOf g h → (extended_with g h).graph ≡ g
extended_graph g h takes = grafted_graph g (extended_with g h) (header_made g h takes)
