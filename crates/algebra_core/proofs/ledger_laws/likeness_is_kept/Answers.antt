use Rattle.algebra_core.proofs.LikeLines.{likeness_is_kept as kept}
use Rattle.algebra_core.proofs.ledger_laws.likeness_is_kept.Goals as goal

pub returns : goal.returns
returns c = kept
