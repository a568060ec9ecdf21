use Rattle.std.specs.Prelude.{IsSomeAnd}
use Rattle.poly_text.specs.Lines.{line_in}
use Rattle.pac_writer.specs.Writing.{PutsLine, made_of}
use Rattle.pac_writer.specs.Kept.{AreKept}
use Rattle.pac_writer.proofs.Following.{put_follows}
use Rattle.pac_writer.proofs.lines.Lines.put.Goals as goal

follows : (c : goal.After-self-1) → let i = c.self.inside in
    AreKept i.extended.now i.operands.now i.terms c.push.new.self.items c.args.last i.closing ×
    IsSomeAnd (line_in c.args.self.now.table c.args.line) (λ y. PutsLine y c.args.last c.args.self.now (made_of i.extended.now i.operands.now i.terms c.push.new.self.items c.args.last i.closing))
follows c =
    let i = c.self.inside in
    put_follows c.args.self.now i.extended.now i.operands.now i.terms i.lines.items c.push.new.self.items c.args.line i.last c.args.last i.closing
    c.self.view_is c.in-Ok.ensures.items c.self.invariant c.requires.unclosed c.requires.kept c.requires.lawful

pub invariant_of-self-in-Ok : goal.invariant_of-self-in-Ok
invariant_of-self-in-Ok c = (follows c).0

pub returns-in-Ok-clause-writes : goal.returns-in-Ok-clause-writes
returns-in-Ok-clause-writes c = (follows c).1
