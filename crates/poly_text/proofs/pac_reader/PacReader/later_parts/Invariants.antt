use Rattle.std.proofs.Common.{◌≡◌, length, ◌^◌}
use Rattle.poly_terms.specs.Tables.{Extends, modulus_in}
use Rattle.poly_text.proofs.PartSteps.{ArePartsSoFar}
use Rattle.poly_text.proofs.pac_reader.PacReader.later_parts.Given as goal

abbrev pub invariant-loop-scanner : goal.invariant-loop-scanner
invariant-loop-scanner l = record {
  extends : Extends l.initial.terms l.terms;
  modulus_is : modulus_in l.terms ≡ 2 ^ l.self.exponent;
  so_far : ArePartsSoFar l.terms l.self.max l.fn.before l.initial.scanner l.scanner l.parts;
}

abbrev pub decreases-loop-scanner : goal.decreases-loop-scanner
decreases-loop-scanner l = length l.scanner
