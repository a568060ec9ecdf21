use Rattle.std.specs.List.{All, Contains}
use Rattle.std.proofs.Common.{sym, subst}
use Rattle.graph_core.specs.Graph.Extended.{Extended}
use Rattle.slice_planner.proofs.taking.Taking.try_due.Goals as goal

pub try_place-requires : goal.try_place-requires
try_place-requires c = subst (λ (e : Extended). All (Contains e.gates) c.args.arrangement.now.gates) (sym c.loop-place.invariant.extended) c.requires
