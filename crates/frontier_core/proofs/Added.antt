-- The lines of the groups, added up.
use Rattle.std.proofs.Common.{refl}
use Rattle.frontier_core.proofs.RestLines.{rest_line_ends, zero_rest_closes}
use Rattle.frontier_core.specs.Pending.{gap}
use Rattle.frontier_core.specs.Totals.{TotalEnds}

pub total_ends : TotalEnds
total_ends e s added rest all = (
  (λ σ. rest_line_ends e s added (gap e s added rest) rest all (λ τ. refl) σ),
  (λ none σ. zero_rest_closes e s added (gap e s added rest) rest all (λ τ. refl) none σ),
)
