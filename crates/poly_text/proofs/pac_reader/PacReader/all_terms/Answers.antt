use Rattle.poly_text.proofs.PolynomialSteps.{terms_taken}
use Rattle.poly_text.proofs.pac_reader.PacReader.all_terms.Goals as goal

pub returns-clause-ok : goal.returns-clause-ok
returns-clause-ok c =
    terms_taken _ c.args.self.now.max c.args.scanner.now c.first_term.new.scanner c.later_terms.new.scanner c.args.room c.in_ok-first.first c.push.new.list c.in_ok-terms.terms
    c.requires c.in_ok-first.ensures.ok c.in_ok-push.ensures.ok c.in_ok-terms.ensures.ok
