use Rattle.std.proofs.Common.{◌≡◌, take}
use Rattle.poly_terms.specs.Indexed.{terms_from}
use Rattle.poly_terms.proofs.counted_coefficients.terms_of.Given as goal

abbrev pub invariant-loop-number : goal.invariant-loop-number
invariant-loop-number l = l.out.items ≡ terms_from 0 (take l.number l.coefficients)
