use Rattle.std.proofs.Common.{◌∙◌, ◌+◌, drop}
use Rattle.poly_text.specs.WrittenLines.{written_text}
use Rattle.pac_writer.proofs.Texts.{next_text, no_text, written_in}
use Rattle.pac_writer.proofs.Wrote.{returned, up_to_all, up_to_failed, up_to_more, up_to_none}
use Rattle.pac_writer.proofs.certificate.write_lines.Goals as goal

pub loop-line-init : goal.loop-line-init
loop-line-init g c = record { «open» = c.requires.«open»; writes = up_to_none (written_in c.args.terms.now c.args.lines.now) (g.D.Desk.seen c.args.desk.now) }

pub loop-line-preserved : goal.loop-line-preserved
loop-line-preserved g c =
    let t = c.args.terms.now in
    let xs = c.args.lines.now in
    let at = c.loop-line.line-index in
    let here = c.in_ok-write_line.ensures in
    record {
      «open» = here.whole.mode.writes ∙ c.loop-line.invariant.«open»;
      writes = up_to_more (written_text t c.line-item.result) (written_in t (drop (at + 1) xs))
          (next_text t xs at c.line-item.result c.requires.go_on c.loop-line-test.true c.line-item.is) c.loop-line.invariant.writes here;
    }

pub returns-in_err-write_line-clause-writes : goal.returns-in_err-write_line-clause-writes
returns-in_err-write_line-clause-writes g c =
    let t = c.args.terms.now in
    let xs = c.args.lines.now in
    let at = c.loop-line.line-index in
    let e = c.in_err-write_line.field-0.0 in
    returned _ c.from_residual.result e (g.D.Desk.seen c.args.desk.now) (g.D.Desk.seen c.write_line.new.desk) c.from_residual.ensures.0
    (up_to_failed {whole = written_in t xs} (written_text t c.line-item.result) (written_in t (drop (at + 1) xs)) e
    (next_text t xs at c.line-item.result c.requires.go_on c.loop-line-test.true c.line-item.is) c.loop-line.invariant.writes c.in_err-write_line.ensures)

pub returns-clause-writes : goal.returns-clause-writes
returns-clause-writes g c = up_to_all (no_text c.args.terms.now c.args.lines.now c.loop-line.line-index c.loop-line-test.false) c.loop-line.invariant.writes
