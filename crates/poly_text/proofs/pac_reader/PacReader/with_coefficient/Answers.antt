use Rattle.std.proofs.lemmas.Nat.{pow_pos}
use Rattle.poly_text.proofs.TermSteps.{coefficient_taken}
use Rattle.poly_text.proofs.pac_reader.PacReader.with_coefficient.Goals as goal

pub returns-clause-ok : goal.returns-clause-ok
returns-clause-ok c =
    coefficient_taken _ c.args.self.now.max c.args.negative c.args.scanner.now c.coefficient.new.scanner c.factors.new.scanner c.new.result c.in_ok-coefficient.coefficient c.in_ok-variables.variables c.signed_term.result
    (pow_pos c.args.self.now.exponent) c.new.ensures c.in_ok-coefficient.ensures.ok c.in_ok-variables.ensures.ok c.signed_term.ensures
