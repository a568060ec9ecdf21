use Rattle.std.proofs.Common.{◌≡◌, take}
use Rattle.poly_terms.specs.Tables.{given, said}
use Rattle.poly_terms.proofs.parts.copies.Given as goal

abbrev pub invariant-loop-coefficient : goal.invariant-loop-coefficient
invariant-loop-coefficient l = said l.out.items ≡ given (take l.coefficient-index l.parts)
