use Rattle.std.proofs.Common.{ℕ, List, ap, subst, ◌∙◌}
use Rattle.cdcl_solver.specs.Orders.{OrderView}
use Rattle.cdcl_solver.specs.Search.{IsChoice}
use Rattle.cdcl_solver.proofs.order.Order.choose.Goals as goal

pub returns-clause-choice : goal.returns-clause-choice
returns-clause-choice c =
    subst (λ (vars : List ℕ). IsChoice vars c.args.propagator.now c.first_open.result) (c.deref.ensures.value ∙ ap (λ (o : OrderView). o.vars) c.self.view_is) c.first_open.ensures
