use Rattle.mv_text.proofs.NumberSteps.{too_great}
use Rattle.mv_text.proofs.scanner.Scanner.number.Goals as goal

pub returns-in-Err-clause-ok : goal.returns-in-Err-clause-ok
returns-in-Err-clause-ok c = too_great c.args.most c.args.self.now _ c.digits.new.self _ c.in-Err.field-0 c.in_ok-digits.ensures.ok c.in-Err.is c.read_decimal.ensures.empty c.read_decimal.ensures.digit c.read_decimal.ensures.too_big
