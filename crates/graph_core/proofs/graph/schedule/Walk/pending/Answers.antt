use Rattle.std.proofs.Common.{◌≡◌, ◌<◌, length, rules, ap, sym, subst, ◌∙◌}
use denote.Enum.Bare.{differs_false}
use Rattle.graph_core.specs.contracts.graph.schedule.Mark.{the_type}
use Rattle.graph_core.specs.Graph.Walk.{mark_of}
use Rattle.graph_core.proofs.OfGraphs.WalkSteps.{mark_read}
use Rattle.graph_core.proofs.graph.schedule.Walk.pending.Goals as goal

pub returns-else-ne-2-clause-left : goal.returns-else-ne-2-clause-left
returns-else-ne-2-clause-left c e =
    let marks : c.self.inside.marks.items ≡ c.args.self.now.marks = ap (λ w. w.marks) c.self.view_is in
    let low : c.var-left.result < length c.args.self.now.marks = subst (λ v. v < length c.args.self.now.marks) (sym c.var-left.ensures) c.requires.in_range.left in
    let read = mark_read c.args.self.now.marks c.var-left.result c.index.result.now low (rw marks at c.index.ensures) in
    ap (mark_of c.args.self.now) (sym c.var-left.ensures) ∙ read ∙ differs_false the_type (search rules) _ _ (sym c.if-ne.ensures)

pub returns-else-ne-2-clause-right : goal.returns-else-ne-2-clause-right
returns-else-ne-2-clause-right c e =
    let marks : c.self.inside.marks.items ≡ c.args.self.now.marks = ap (λ w. w.marks) c.self.view_is in
    let low : c.var-right.result < length c.args.self.now.marks = subst (λ v. v < length c.args.self.now.marks) (sym c.var-right.ensures) c.requires.in_range.right in
    let read = mark_read c.args.self.now.marks c.var-right.result c.index-else-ne.result.now low (rw marks at c.index-else-ne.ensures) in
    ap (mark_of c.args.self.now) (sym c.var-right.ensures) ∙ read ∙ differs_false the_type (search rules) _ _ (sym c.if-ne-2.ensures)
