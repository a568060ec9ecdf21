use Rattle.std.proofs.Common.{sym, subst}
use Rattle.graph_core.specs.Graph.Extended.{Extended}
use Rattle.ripple_graft.specs.Beside.{FitsBeside}
use Rattle.ripple_graft.proofs.CallerLemmas.{beside_fits}
use Rattle.stage_rewriter.proofs.placing.graph_with.Goals as goal

pub graft_beside-requires : goal.graft_beside-requires
graft_beside-requires c = subst (λ (e : Extended). FitsBeside e c.args.beside.now) (sym c.without_cut-alone.ensures) (beside_fits c.args.graph.now c.args.beside.now c.requires)
