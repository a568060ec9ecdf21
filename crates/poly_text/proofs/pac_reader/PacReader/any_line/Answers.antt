use Rattle.std.proofs.Common.{◌∙◌, sym}
use Rattle.poly_text.proofs.WholeLines.{no_line_at_q, close_ok, close_err}
use Rattle.poly_text.proofs.pac_reader.PacReader.any_line.Goals as goal

pub returns-then-is_at-clause-ok : goal.returns-then-is_at-clause-ok
returns-then-is_at-clause-ok c =
    close_ok c.args.terms.now c.args.self.now.version c.args.self.now.max c.args.scanner.now c.close.new.scanner c.close.result (no_line_at_q c.args.self.now.version c.args.scanner.now (sym c.is_at.ensures ∙ c.if-is_at.true)) c.close.ensures.ok

pub returns-then-is_at-clause-err : goal.returns-then-is_at-clause-err
returns-then-is_at-clause-err c = close_err c.args.self.now.version c.args.scanner.now c.close.result (no_line_at_q c.args.self.now.version c.args.scanner.now (sym c.is_at.ensures ∙ c.if-is_at.true)) c.close.ensures.err
