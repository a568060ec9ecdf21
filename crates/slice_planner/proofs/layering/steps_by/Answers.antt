use Rattle.std.specs.List.{All, Contains}
use Rattle.std.proofs.Common.{sym, subst, ◌∙◌}
use Rattle.graph_core.specs.Graph.Extended.{Extended}
use Rattle.slice_planner.proofs.layering.steps_by.Goals as goal

pub take_due-requires : goal.take_due-requires
take_due-requires c =
    subst (λ (e : Extended). All (Contains e.gates) c.args.arrangement.now.gates) (sym (c.in_ok-column.ensures.extended ∙ c.loop-taking.invariant)) c.requires.gates

pub finish-requires-clause-gates : goal.finish-requires-clause-gates
finish-requires-clause-gates c =
    subst (λ (e : Extended). All (Contains e.gates) c.args.rest.now.gates) (sym (c.in_ok-column.ensures.extended ∙ c.loop-taking.invariant)) c.requires.rest
