use Rattle.std.proofs.Common.{◌+◌, drop}
use Rattle.poly_text.specs.WrittenLines.{written_text}
use Rattle.pac_writer.proofs.Texts.{next_text, no_text, written_in}
use Rattle.pair_limits.proofs.Behind.{up_to_all, up_to_more, text_then}
use Rattle.pair_limits.proofs.algebra.put_lines.Goals as goal

pub loop-line-preserved : goal.loop-line-preserved
loop-line-preserved c =
    let t = c.args.terms.now in
    let xs = c.args.lines.now in
    let at = c.loop-line.line-index in
    up_to_more (written_text t c.line-item.result) (written_in t (drop (at + 1) xs))
    (next_text t xs at c.line-item.result c.requires.go_on c.loop-line-test.true c.line-item.is) c.loop-line.invariant (text_then c.put_line.ensures c.put.ensures)

pub returns : goal.returns
returns c = up_to_all (no_text c.args.terms.now c.args.lines.now c.loop-line.line-index c.loop-line-test.false) c.loop-line.invariant
