use Rattle.std.proofs.Common.{drop}
use Rattle.algebra_core.specs.NormalForm.{AreRising}
use Rattle.poly_terms.proofs.monomial.is_rising.Given as goal

abbrev pub invariant-loop-v : goal.invariant-loop-v
invariant-loop-v l = AreRising l.last (drop l.v-index l.variables) → AreRising 0 l.variables
