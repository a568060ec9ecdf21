use Rattle.std.proofs.Common.{[], ◌++◌, ◌∷◌}
use Rattle.graph_core.specs.Text.{newline}
use Rattle.algebra_core.specs.Text.{algebra_header}
use Rattle.poly_terms.specs.Tables.{modulus_in}
use Rattle.poly_text.specs.Recorded.{lines_in}
use Rattle.poly_text.specs.WrittenLines.{closing_text, written_lines}
use Rattle.pac_writer.proofs.Wrote.{failed_before, returned, writes_then}
use Rattle.pac_writer.proofs.certificate.write_certificate.Goals as goal

pub returns-in_err-write_header : goal.returns-in_err-write_header
returns-in_err-write_header g c =
    let e = c.in_err-write_header.field-0.0 in
    let u = g.D.Desk.seen c.args.desk.now in
    let v = g.D.Desk.seen c.write_header.new.desk in
    let here = c.in_err-write_header.ensures in
    let lines = written_lines (modulus_in c.args.terms.now) (lines_in c.args.terms.now c.args.lines.now) in
    let close = closing_text c.args.closing ++ newline ∷ [] in
    returned (algebra_header c.args.version ++ (lines ++ close)) c.from_residual.result e u v c.from_residual.ensures.0
    (failed_before (algebra_header c.args.version) (lines ++ close) e u v here)

pub returns-in_err-write_lines : goal.returns-in_err-write_lines
returns-in_err-write_lines g c =
    let e = c.in_err-write_lines.field-0.0 in
    let u = g.D.Desk.seen c.args.desk.now in
    let v = g.D.Desk.seen c.write_header.new.desk in
    let w = g.D.Desk.seen c.write_lines.new.desk in
    let begun = c.in_ok-write_header.ensures in
    let lines = written_lines (modulus_in c.args.terms.now) (lines_in c.args.terms.now c.args.lines.now) in
    let close = closing_text c.args.closing ++ newline ∷ [] in
    returned (algebra_header c.args.version ++ (lines ++ close)) c.from_residual-in_err-write_lines.result e u w c.from_residual-in_err-write_lines.ensures.0
    (writes_then (algebra_header c.args.version) (lines ++ close) _ u v w begun
    (failed_before lines close e v w c.in_err-write_lines.ensures.writes))

pub returns : goal.returns
returns g c =
    let r = c.write_line.result in
    let u = g.D.Desk.seen c.args.desk.now in
    let v = g.D.Desk.seen c.write_header.new.desk in
    let w = g.D.Desk.seen c.write_lines.new.desk in
    let x = g.D.Desk.seen c.write_line.new.desk in
    let begun = c.in_ok-write_header.ensures in
    let lines = written_lines (modulus_in c.args.terms.now) (lines_in c.args.terms.now c.args.lines.now) in
    let close = closing_text c.args.closing ++ newline ∷ [] in
    writes_then (algebra_header c.args.version) (lines ++ close) r u v x begun
    (writes_then lines close r v w x c.in_ok-write_lines.ensures.writes c.write_line.ensures)
