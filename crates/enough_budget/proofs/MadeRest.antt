-- Over a made graph the last frontier of every plan is 0.
use Rattle.std.specs.Prelude.{◌≡◌}
use Rattle.std.proofs.Common.{subst, arith}
use Rattle.graph_core.specs.declared.order.Order.TheVariants.{Separate}
use Rattle.graph_core.specs.declared.sign.Sign.TheVariants.{Unsigned}
use Rattle.graph_core.specs.Graph.Extended.{without_cut}
use Rattle.graph_core.specs.Graph.Operands.{HasMultiplierShape, product_under, sides_of}
use Rattle.graph_core.proofs.OfGraphs.CallerLemmas.{claim_is_done, product_doing, sides_read_inputs}
use Rattle.ripple_graft.proofs.Plain.{graph_extends}
use Rattle.frontier_core.specs.Plan.{nothing, taken}
use Rattle.frontier_core.proofs.LastFrontiers.{last_frontier_decides}
use Rattle.graph_maker.specs.declared.adder.Adder.TheVariants.{Ripple}
use Rattle.graph_maker.specs.Made.{made}
use Rattle.graph_maker.proofs.MadeMultiplies.{made_multiplies, shape}
use Rattle.graph_maker.proofs.OperandOrder.{order_of_operands_is_free}
use Rattle.enough_budget.specs.MadeSlices.{MadeRestIsZero}
use Rattle.enough_budget.proofs.Swapped.{with_gates_of}

pub made_rest_is_zero : MadeRestIsZero
made_rest_is_zero kind n g steps σ pos same well plan =
    let M = made kind n Ripple in
    let law = made_multiplies kind n Ripple pos in
    let does = (order_of_operands_is_free M g (product_under Separate) same).0 (product_doing M Separate Unsigned law.shape law.multiplies) in
    let is : with_gates_of M g.gates ≡ g = λ i. record { max = same.0 i; inputs = same.1 i; outputs = same.2 i; gates = g.gates } in
    let of_made = shape kind n Ripple pos in
    let shape_is : HasMultiplierShape g = subst HasMultiplierShape is (record { inputs = of_made.inputs; some_outputs = of_made.some_outputs; outputs = of_made.outputs }) in
    (last_frontier_decides (without_cut g) (sides_of Separate g) (taken nothing steps).added (taken nothing steps).eliminated (record { extension = graph_extends g well; inputs = sides_read_inputs g (product_under Separate); agree = λ τ evaluates k d h. absurd (omega arith); last = plan.last })).1
    ((claim_is_done g (product_under Separate) shape_is well.defined_once).1 does) σ
