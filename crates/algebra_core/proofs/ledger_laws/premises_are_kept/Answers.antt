use Rattle.algebra_core.proofs.SamePremises.{premises_are_kept}
use Rattle.algebra_core.proofs.ledger_laws.premises_are_kept.Goals as goal

pub returns : goal.returns
returns c = premises_are_kept
