use Rattle.std.proofs.Common.{◌≤◌, ◌+◌, ◌==◌, true, drop, length}
use Rattle.poly_terms.specs.Tables.{modulus_in}
use Rattle.poly_text.specs.Lines.{parts_in}
use Rattle.poly_text.specs.WrittenLines.{parts_text}
use Rattle.pair_limits.proofs.surely.bytes_of_parts.Given as goal

abbrev pub invariant-loop-id : goal.invariant-loop-id
invariant-loop-id l =
    let m = modulus_in l.terms in
    length (parts_text m true (parts_in l.terms l.parts)) ≤ l.bytes + length (parts_text m (l.id-index == 0) (parts_in l.terms (drop l.id-index l.parts)))
