use Rattle.std.proofs.Common.{◌≡◌, true, drop}
use Rattle.mv_desk.specs.declared.slot.Slot.TheVariants.{Algebra}
use Rattle.pac_writer.proofs.Texts.{written_in}
use Rattle.pac_writer.proofs.Wrote.{WroteUpTo}
use Rattle.pac_writer.proofs.certificate.write_lines.Given as goal

abbrev pub invariant-loop-line : goal.invariant-loop-line
invariant-loop-line g l = record {
  «open» : (g.D.Desk.seen l.desk).writes Algebra ≡ true;
  writes : WroteUpTo (written_in l.terms l.lines) (written_in l.terms (drop l.line-index l.lines)) (g.D.Desk.seen l.initial.desk) (g.D.Desk.seen l.desk);
}
