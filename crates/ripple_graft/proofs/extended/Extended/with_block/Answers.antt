use Rattle.std.proofs.Common.{ap, subst, sym, ◌∙◌}
use Rattle.graph_core.specs.Graph.Extended.{Extended}
use Rattle.ripple_graft.specs.Blocks.{IsBlock, block, graft_block}
use Rattle.ripple_graft.specs.Grafts.{IsGrafted}
use Rattle.ripple_graft.proofs.GraftedGraphs.{grafted_is, grafted_more, kept_is}
use Rattle.ripple_graft.proofs.extended.Extended.with_block.Goals as goal

pub with_block-requires-clause-grafted : goal.with_block-requires-clause-grafted
with_block-requires-clause-grafted c =
    let same = kept_is c.self.inside.graph.now c.self.inside.added c.in_ok-before.before c.args.self c.self.invariant c.self.view_is c.in_ok-before.ensures in
    subst (IsGrafted c.self.inside.graph.now) (sym same) (grafted_is c.self.inside.graph.now c.self.inside.added c.args.self c.self.invariant c.self.view_is)

pub with_block-requires-clause-fits : goal.with_block-requires-clause-fits
with_block-requires-clause-fits c =
    let same = kept_is c.self.inside.graph.now c.self.inside.added c.in_ok-before.before c.args.self c.self.invariant c.self.view_is c.in_ok-before.ensures in
    subst (λ (e : Extended). IsBlock e (block c.args.cut.now c.args.carry)) (sym same) c.requires

pub invariant_of-result : goal.invariant_of-result
invariant_of-result c =
    let same = kept_is c.self.inside.graph.now c.self.inside.added c.in_ok-before.before c.args.self c.self.invariant c.self.view_is c.in_ok-before.ensures in
    let made = c.in_ok-added.ensures ∙ ap (λ (e : Extended). graft_block e (block c.args.cut.now c.args.carry)) same in
    subst (IsGrafted c.self.inside.graph.now) (sym made)
    (grafted_more c.self.inside.graph.now c.args.self (block c.args.cut.now c.args.carry) (grafted_is c.self.inside.graph.now c.self.inside.added c.args.self c.self.invariant c.self.view_is) c.requires)

pub returns : goal.returns
returns c =
    let same = kept_is c.self.inside.graph.now c.self.inside.added c.in_ok-before.before c.args.self c.self.invariant c.self.view_is c.in_ok-before.ensures in
    c.in_ok-added.ensures ∙ ap (λ (e : Extended). graft_block e (block c.args.cut.now c.args.carry)) same
