use Rattle.gate_axioms.proofs.ClauseProducts.{clause_values}
use Rattle.gate_axioms.proofs.laws.clause_values.Goals as goal

pub returns : goal.returns
returns c = clause_values
