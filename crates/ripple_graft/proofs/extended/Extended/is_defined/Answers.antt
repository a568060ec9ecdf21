use Rattle.std.specs.Prelude.{◌≡◌}
use Rattle.std.specs.List.{Any}
use Rattle.std.proofs.Common.{ap, inr, subst, sym, ◌∙◌, ⊎_elim}
use Rattle.graph_core.specs.Graph.{Aig}
use Rattle.graph_core.specs.Graph.Extended.{Extended}
use Rattle.graph_core.specs.Graph.Literals.{variable_of}
use Rattle.ripple_graft.specs.Extension.{whole}
use Rattle.ripple_graft.proofs.GraftedGraphs.{grafted_graph}
use Rattle.ripple_graft.proofs.KnownLiterals.{defined_is}
use Rattle.ripple_graft.proofs.extended.Extended.is_defined.Goals as goal

pub returns-else-is_input : goal.returns-else-is_input
returns-else-is_input c =
    let same : c.args.self.now.graph ≡ c.self.inside.graph.now = ap (λ (e : Extended). e.graph) (sym c.self.view_is) ∙ grafted_graph _ _ c.self.invariant in (
      λ t. (defined_is (whole c.args.self.now) c.args.v).1 (inr (c.is_gate.ensures.0 t)),
      λ there. ⊎_elim
          (λ (a : Any (λ l. variable_of l ≡ c.args.v) c.args.self.now.graph.inputs).
          let read = c.is_input.ensures.1 (rw c.input_literals.ensures.value (subst (λ (g : Aig). Any (λ l. variable_of l ≡ c.args.v) g.inputs) same a)) in absurd (cc))
          (λ b. c.is_gate.ensures.1 b)
          ((defined_is (whole c.args.self.now) c.args.v).0 there),
    )
