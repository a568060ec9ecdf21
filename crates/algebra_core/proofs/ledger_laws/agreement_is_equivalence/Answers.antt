use Rattle.algebra_core.proofs.Agreements.{agree_refl, agree_sym, agree_trans}
use Rattle.algebra_core.proofs.ledger_laws.agreement_is_equivalence.Goals as goal

pub returns : goal.returns
returns c = record { itself = agree_refl; back = agree_sym; joins = agree_trans }
