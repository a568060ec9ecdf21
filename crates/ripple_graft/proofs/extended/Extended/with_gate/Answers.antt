use Rattle.std.proofs.Common.{ap, subst, sym, ◌∙◌, arith}
use Rattle.graph_core.specs.Graph.Extended.{Extended}
use Rattle.ripple_graft.specs.Beside.{with_gate}
use Rattle.ripple_graft.specs.Grafts.{IsGrafted}
use Rattle.ripple_graft.proofs.GraftedGraphs.{gate_grafted, grafted_is, kept_is}
use Rattle.ripple_graft.proofs.extended.Extended.with_gate.Goals as goal

pub with_gate-requires : goal.with_gate-requires
with_gate-requires c =
    let same = kept_is c.self.inside.graph.now c.self.inside.added c.in_ok-before.before c.args.self c.self.invariant c.self.view_is c.in_ok-before.ensures in
    let max = ap (λ (e : Extended). e.max) same in
    omega (arith, max, c.max.ensures.value)

pub invariant_of-result : goal.invariant_of-result
invariant_of-result c =
    let same = kept_is c.self.inside.graph.now c.self.inside.added c.in_ok-before.before c.args.self c.self.invariant c.self.view_is c.in_ok-before.ensures in
    let made = c.in_ok-added.ensures c.self.inside.graph.now ∙ ap (λ (e : Extended). with_gate e (c.args.left, c.args.right)) same in
    subst (IsGrafted c.self.inside.graph.now) (sym made)
    (gate_grafted c.self.inside.graph.now c.args.self (c.args.left, c.args.right) (grafted_is c.self.inside.graph.now c.self.inside.added c.args.self c.self.invariant c.self.view_is) c.requires.known c.requires.room)

pub returns : goal.returns
returns c =
    let same = kept_is c.self.inside.graph.now c.self.inside.added c.in_ok-before.before c.args.self c.self.invariant c.self.view_is c.in_ok-before.ensures in
    c.in_ok-added.ensures c.self.inside.graph.now ∙ ap (λ (e : Extended). with_gate e (c.args.left, c.args.right)) same
