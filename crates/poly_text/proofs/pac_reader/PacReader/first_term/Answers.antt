use Rattle.std.proofs.Common.{◌≡◌, ◌^◌, ◌∙◌, ap₂, sym}
use Rattle.algebra_core.specs.Reading.{first_term_at, term_at}
use Rattle.poly_text.specs.Values.{IsTermInRange, IsTermOf}
use Rattle.poly_text.proofs.FirstTerms.{err_further, negative_there, no_minus_there, ok_further, positive_there}
use Rattle.poly_text.proofs.Misfits.{misfit_passed, no_value}
use Rattle.poly_text.proofs.pac_reader.PacReader.first_term.Goals as goal
use Rattle.poly_text.proofs.pac_reader.PacReader.first_term.Goals.{then-negative+in_ok-text, else-negative}

pub returns-in_err-text-clause-ok : goal.returns-in_err-text-clause-ok
returns-in_err-text-clause-ok c = no_value c.from_residual.result _ c.in_err-text.field-0.0 c.from_residual.ensures.1

pub returns-in_err-text-clause-err : goal.returns-in_err-text-clause-err
returns-in_err-text-clause-err c =
    misfit_passed c.from_residual.result c.in_err-text.field-0.0 c.from_residual.ensures.1
    (no_minus_there c.args.scanner.now (sym c.is_at-negative.ensures ∙ c.if-negative.true)) c.in_err-text.ensures.err

-- a term stands after the minus, or at once
term_there : (c : goal.After-term) → first_term_at c.args.scanner.now ≡ term_at c.is_at-negative.result c.if-negative.scanner
term_there c =
    let old = c.args.scanner.now in
    elim c.if-negative.branch [
      | then-negative+in_ok-text w ↦ negative_there old w.text.new.self (sym c.is_at-negative.ensures ∙ w.if-negative.true) w.in_ok-text.ensures.ok ∙
          ap₂ term_at (sym w.if-negative.true) (sym w.scanner-is)
      | else-negative w ↦ positive_there old (sym c.is_at-negative.ensures ∙ w.if-negative.false) ∙ ap₂ term_at (sym w.if-negative.false) (sym w.scanner-is)
    ]

pub returns-clause-ok : goal.returns-clause-ok
returns-clause-ok c =
    ok_further first_term_at (term_at c.is_at-negative.result) (IsTermInRange c.args.self.now.max) (IsTermOf (2 ^ c.args.self.now.exponent))
    c.args.scanner.now c.if-negative.scanner c.term.new.scanner c.term.result (term_there c) c.term.ensures.ok

pub returns-clause-err : goal.returns-clause-err
returns-clause-err c =
    err_further first_term_at (term_at c.is_at-negative.result) c.args.scanner.now c.if-negative.scanner c.term.result (term_there c) c.term.ensures.err
