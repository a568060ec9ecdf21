use Rattle.graph_maker.proofs.OperandOrder.{order_of_operands_is_free as law}
use Rattle.graph_maker.proofs.laws.order_of_operands_is_free.Goals as goal

pub returns : goal.returns
returns c = law
