use Rattle.gate_axioms.proofs.ClauseProducts.{IsProductSoFar}
use Rattle.gate_axioms.proofs.clauses.clause_poly.Given as goal

abbrev pub invariant-loop-lit : goal.invariant-loop-lit
invariant-loop-lit l = IsProductSoFar l.fn.terms l.terms l.product l.clause l.lit-index
