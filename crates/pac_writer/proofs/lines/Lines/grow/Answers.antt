use Rattle.std.proofs.Common.{subst}
use Rattle.pac_writer.specs.Writing.{Made, GrowsWrittenTable, made_of}
use Rattle.pac_writer.proofs.Growing.{lines_keep}
use Rattle.pac_writer.proofs.lines.Lines.grow.Goals as goal

pub invariant_of-self : goal.invariant_of-self
invariant_of-self g c =
    let i = c.self.inside in
    (lines_keep i.extended.now i.operands.now i.terms c.grow.new.table i.lines.items i.last i.closing c.grow.ensures.extends c.self.invariant).0

pub returns-clause-grows : goal.returns-clause-grows
returns-clause-grows g c =
    let i = c.self.inside in
    subst (λ (o : Made). GrowsWrittenTable o (made_of i.extended.now i.operands.now c.grow.new.table i.lines.items i.last i.closing)) c.self.view_is
    (lines_keep i.extended.now i.operands.now i.terms c.grow.new.table i.lines.items i.last i.closing c.grow.ensures.extends c.self.invariant).1
