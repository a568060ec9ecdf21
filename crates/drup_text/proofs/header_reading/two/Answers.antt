use Rattle.std.proofs.Common.{sym, subst}
use Rattle.drup_text.specs.Steps.{TakesTwo}
use Rattle.drup_text.proofs.HeaderTexts.{two_taken}
use Rattle.drup_text.proofs.header_reading.two.Goals as goal

pub returns-clause-ok : goal.returns-clause-ok
returns-clause-ok c =
    subst (TakesTwo c.args.most c.args.scanner.now c.number.new.scanner) (sym c.zip.ensures)
    (two_taken c.args.most c.args.scanner.now c.spaced_number.new.scanner c.number.new.scanner c.in_ok-one.one c.in_ok-two.two c.in_ok-one.ensures.ok c.in_ok-two.ensures.ok)
