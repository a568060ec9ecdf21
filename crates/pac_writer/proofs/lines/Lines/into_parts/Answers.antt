use Rattle.std.proofs.Common.{subst}
use Rattle.pac_writer.specs.Certificates.{ArePartsOf}
use Rattle.pac_writer.specs.Writing.{Made}
use Rattle.pac_writer.proofs.LawfulFile.{parts_of}
use Rattle.pac_writer.proofs.lines.Lines.into_parts.Goals as goal

pub returns : goal.returns
returns c =
    let i = c.self.inside in
    let id = c.in-Some.id in
    subst (λ (o : Made). ArePartsOf o i.terms i.lines.items id) c.self.view_is
    (parts_of i.extended.now i.operands.now i.terms i.lines.items i.last id i.closing c.in-Some.is c.self.invariant)
