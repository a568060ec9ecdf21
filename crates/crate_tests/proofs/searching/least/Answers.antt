use Rattle.std.proofs.Common.{subst}
use Rattle.graph_core.specs.Aiger.Sizes.{IsSizedAs}
use Rattle.crate_tests.proofs.searching.least.Goals as goal

pub least_of-requires : goal.least_of-requires
least_of-requires c = subst (λ p. IsSizedAs p c.in-Ok.graph) c.profile.ensures c.in-Ok.ensures.sized
