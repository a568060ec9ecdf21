use Rattle.std.proofs.lemmas.Nat.{pow_pos}
use Rattle.poly_text.proofs.TermSteps.{product_taken}
use Rattle.poly_text.proofs.pac_reader.PacReader.product.Goals as goal

pub returns-clause-ok : goal.returns-clause-ok
returns-clause-ok c =
    product_taken _ c.args.self.now.max c.args.negative c.args.scanner.now c.text.new.self c.variable.new.scanner c.factors.new.scanner c.new.result c.in_ok-first.first c.times.new.variables c.in_ok-variables.variables c.signed_term.result
    (pow_pos c.args.self.now.exponent) c.new.ensures c.in_ok-text.ensures.ok c.in_ok-first.ensures.ok c.in_ok-times.ensures.ok c.in_ok-variables.ensures.ok c.signed_term.ensures
