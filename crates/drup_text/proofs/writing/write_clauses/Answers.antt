use Rattle.mv_desk.specs.declared.slot.Slot.TheVariants.{Clauses}
use Rattle.mv_text.proofs.CallerLemmas.{Puts-then, written_from}
use Rattle.drup_text.specs.WrittenTexts.{any_file_text}
use Rattle.drup_text.proofs.writing.write_clauses.Goals as goal

pub returns : goal.returns
returns g c =
    written_from Clauses (any_file_text c.args.header.now c.args.lines.now) c.new-output.result c.put_lines.new.output c.flush.result
    (g.D.Desk.seen c.args.desk.now) (g.D.Desk.seen c.put_lines.new.desk) (g.D.Desk.seen c.flush.new.desk)
    c.new-output.ensures (Puts-then c.put_header.ensures.puts c.put_lines.ensures.puts) c.flush.ensures.flushes
