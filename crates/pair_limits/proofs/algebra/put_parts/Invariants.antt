use Rattle.std.proofs.Common.{◌==◌, true, drop}
use Rattle.poly_terms.specs.Tables.{modulus_in}
use Rattle.poly_text.specs.Lines.{parts_in}
use Rattle.poly_text.specs.WrittenLines.{parts_text}
use Rattle.pair_limits.proofs.Behind.{TakesUpTo}
use Rattle.pair_limits.proofs.algebra.put_parts.Given as goal

abbrev pub invariant-loop-index : goal.invariant-loop-index
invariant-loop-index l = TakesUpTo (parts_text (modulus_in l.terms) true (parts_in l.terms l.parts)) (parts_text (modulus_in l.terms) (l.index == 0) (parts_in l.terms (drop l.index l.parts))) l.initial.room l.room
