use Rattle.std.specs.Prelude.{IsSome}
use Rattle.std.specs.List.{All}
use Rattle.std.proofs.Common.{◌∙◌, ap, subst, sym}
use Rattle.poly_terms.specs.Tables.{modulus_in}
use Rattle.poly_text.specs.Lines.{AreOf, line_in}
use Rattle.poly_text.specs.WrittenLines.{IsWritable, written_certificate}
use Rattle.pac_writer.specs.Writing.{Made, AreLawfulSoFar}
use Rattle.poly_text.specs.Recorded.{lines_in}
use Rattle.pac_writer.proofs.Combining.{closing_is_id}
use Rattle.pac_writer.proofs.LawfulFile.{certificate_is_lawful, kept_certificate}
use Rattle.pac_writer.proofs.Readable.{kept_goes_on}
use Rattle.pac_writer.proofs.Wrote.{same_text}
use Rattle.pac_writer.proofs.lines.Lines.emit.Goals as goal

pub write_certificate-requires-clause-go_on : goal.write_certificate-requires-clause-go_on
write_certificate-requires-clause-go_on g c =
    let i = c.self.inside in
    subst (All (λ x. IsSome (line_in i.terms x))) (sym c.deref.ensures.value) (λ k d low. kept_goes_on i.extended.now.max i.terms _ (c.self.invariant.kept k d low))

pub write_certificate-requires-clause-of : goal.write_certificate-requires-clause-of
write_certificate-requires-clause-of g c = subst (All (AreOf c.self.inside.terms)) (sym c.deref.ensures.value) (λ k d low. (c.self.invariant.kept k d low).«of»)

pub write_certificate-requires-clause-writable : goal.write_certificate-requires-clause-writable
write_certificate-requires-clause-writable g c = subst (All IsWritable) (sym c.deref.ensures.value) (λ k d low. (c.self.invariant.kept k d low).writable)

pub write_certificate-requires-clause-closing : goal.write_certificate-requires-clause-closing
write_certificate-requires-clause-closing g c =
    closing_is_id c.args.self.now c.in-Some.id (subst AreLawfulSoFar c.self.view_is c.self.invariant.so_far) (sym (ap (λ (o : Made). o.closing) c.self.view_is) ∙ c.in-Some.is)

pub returns-clause-writes : goal.returns-clause-writes
returns-clause-writes g c =
    let i = c.self.inside in
    same_text
    (ap (λ xs. written_certificate c.args.version (modulus_in i.terms) (lines_in i.terms xs) c.in-Some.id) c.deref.ensures.value ∙
    kept_certificate c.args.version c.args.self.now i.extended.now i.operands.now i.terms i.lines.items i.last c.in-Some.id i.closing c.self.view_is c.in-Some.is c.self.invariant)
    c.write_certificate.ensures

pub returns-clause-lawful : goal.returns-clause-lawful
returns-clause-lawful g c =
    let i = c.self.inside in
    certificate_is_lawful c.args.version c.args.self.now i.extended.now i.operands.now i.terms i.lines.items i.last c.in-Some.id i.closing c.self.view_is c.in-Some.is c.self.invariant
