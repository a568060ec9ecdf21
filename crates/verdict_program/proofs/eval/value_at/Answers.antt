use Rattle.std.proofs.Common.{refl, subst, sym}
use Rattle.graph_core.specs.Graph.Operands.{AreOperandsOf, HasShapeFor, Sides}
use Rattle.graph_core.proofs.OfAiger.CallerLemmas.{narrow_for, shape_for}
use Rattle.verdict_program.proofs.EvalLemmas.{few_outputs}
use Rattle.verdict_program.proofs.eval.value_at.Goals as goal

pub under-requires-clause-shape : goal.under-requires-clause-shape
under-requires-clause-shape c = shape_for c.args.point.claim.widths c.args.graph.now c.requires

pub under-requires-clause-narrow : goal.under-requires-clause-narrow
under-requires-clause-narrow c = narrow_for c.args.point.claim.widths c.args.graph.now c.requires

pub value_at-requires-clause-shape : goal.value_at-requires-clause-shape
value_at-requires-clause-shape c =
    subst (λ (s : Sides). HasShapeFor s.claim.widths c.args.graph.now) (sym c.in_ok-operands.ensures) (shape_for c.args.point.claim.widths c.args.graph.now c.requires)

pub value_at-requires-clause-operands : goal.value_at-requires-clause-operands
value_at-requires-clause-operands c = subst (AreOperandsOf c.args.graph.now) (sym c.in_ok-operands.ensures) refl

pub value_at-requires-clause-narrow : goal.value_at-requires-clause-narrow
value_at-requires-clause-narrow c = few_outputs c.args.point.claim.widths c.args.graph.now c.requires
