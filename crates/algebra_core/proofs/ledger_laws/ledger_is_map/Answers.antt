use Rattle.algebra_core.proofs.LedgerLines.{ledger_is_map as law}
use Rattle.algebra_core.proofs.ledger_laws.ledger_is_map.Goals as goal

pub returns : goal.returns
returns c = law
