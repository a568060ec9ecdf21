use Rattle.std.specs.Prelude.{◌<◌, length}
use Rattle.std.proofs.Common.{ap, subst, sym, ◌∙◌}
use Rattle.graph_core.specs.Graph.{Aig}
use Rattle.graph_core.specs.Graph.Extended.{Extended}
use Rattle.ripple_graft.specs.Beside.{with_output}
use Rattle.ripple_graft.specs.Grafts.{IsGrafted}
use Rattle.ripple_graft.proofs.GraftedGraphs.{grafted_is, grafted_graph, kept_is, output_grafted}
use Rattle.ripple_graft.proofs.extended.Extended.with_output.Goals as goal

pub with_output-requires : goal.with_output-requires
with_output-requires c =
    let graph = grafted_graph c.self.inside.graph.now c.args.self (grafted_is c.self.inside.graph.now c.self.inside.added c.args.self c.self.invariant c.self.view_is) in
    subst (λ (g : Aig). c.args.column < length g.outputs) graph c.requires.within

pub invariant_of-result : goal.invariant_of-result
invariant_of-result c =
    let same = kept_is c.self.inside.graph.now c.self.inside.added c.in_ok-before.before c.args.self c.self.invariant c.self.view_is c.in_ok-before.ensures in
    let made = c.in_ok-added.ensures ∙ ap (λ (e : Extended). with_output e (c.args.column, c.args.new)) same in
    subst (IsGrafted c.self.inside.graph.now) (sym made)
    (output_grafted c.self.inside.graph.now c.args.self (c.args.column, c.args.new) (grafted_is c.self.inside.graph.now c.self.inside.added c.args.self c.self.invariant c.self.view_is) c.requires)

pub returns : goal.returns
returns c =
    let same = kept_is c.self.inside.graph.now c.self.inside.added c.in_ok-before.before c.args.self c.self.invariant c.self.view_is c.in_ok-before.ensures in
    c.in_ok-added.ensures ∙ ap (λ (e : Extended). with_output e (c.args.column, c.args.new)) same
