use Rattle.std.proofs.Common.{◌≡◌, take}
use Rattle.poly_terms.specs.Hashed.{folded}
use Rattle.poly_terms.proofs.key.folded.Given as goal

abbrev pub invariant-loop-v : goal.invariant-loop-v
invariant-loop-v l = l.number ≡ folded (take l.v-index l.variables)
