use Rattle.algebra_core.proofs.LedgerLines.{live_lines_vanish as law}
use Rattle.algebra_core.proofs.ledger_laws.live_lines_vanish.Goals as goal

pub returns : goal.returns
returns c = law
