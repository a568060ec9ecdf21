use Rattle.std.proofs.Common.{◌≡◌, ◌∙◌, None, codes, rules, subst, sym}
use Rattle.clause_core.specs.declared.line.Line.TheVariants.{Add, Delete}
use Rattle.mv_text.proofs.CallerLemmas.{misfit_from}
use Rattle.mv_text.specs.Steps.{IsMisfit}
use Rattle.drup_text.specs.ClauseReading.{clause_line_at, clause_read_at}
use Rattle.drup_text.specs.Steps.{TakesClause}
use Rattle.drup_text.proofs.LineSteps.{add_none, add_some, add_there, delete_none, delete_some, delete_there, fails_behind, fails_front, fails_map}
use Rattle.drup_text.proofs.line_reading.any_line.Goals as goal

pub returns-in_err-text-clause-err : goal.returns-in_err-text-clause-err
returns-in_err-text-clause-err c =
    let bytes = c.args.scanner.now in
    let misfit : IsMisfit (clause_line_at bytes ≡ None) c.in_err-text.field-0.0 =
    misfit_from c.in_err-text.field-0.0 (λ e. delete_there bytes (sym c.is_at.ensures ∙ c.if-is_at.true) ∙ fails_front Delete (codes "d ") clause_read_at bytes e) c.in_err-text.ensures.err in
    search (rules, misfit)

pub returns-in_err-clause-clause-err : goal.returns-in_err-clause-clause-err
returns-in_err-clause-clause-err c =
    let bytes = c.args.scanner.now in
    let misfit : IsMisfit (clause_line_at bytes ≡ None) c.in_err-clause.field-0.0 =
    misfit_from c.in_err-clause.field-0.0
    (λ e. delete_there bytes (sym c.is_at.ensures ∙ c.if-is_at.true) ∙ fails_behind Delete (codes "d ") clause_read_at bytes c.text.new.self c.in_ok-text.ensures.ok e) c.in_err-clause.ensures.err in
    search (rules, misfit)

pub returns-in_err-clause-2-clause-err : goal.returns-in_err-clause-2-clause-err
returns-in_err-clause-2-clause-err c =
    let bytes = c.args.scanner.now in
    let misfit : IsMisfit (clause_line_at bytes ≡ None) c.in_err-clause-2.field-0.0 =
    misfit_from c.in_err-clause-2.field-0.0 (λ e. add_there bytes (sym c.is_at.ensures ∙ c.if-is_at.false) ∙ fails_map Add clause_read_at bytes e) c.in_err-clause-2.ensures.err in
    search (rules, misfit)

pub returns-in-Some-clause-ok : goal.returns-in-Some-clause-ok
returns-in-Some-clause-ok c =
    delete_some c.args.max c.args.scanner.now c.text.new.self c.clause.new.scanner c.in-Some.clause (sym c.is_at.ensures ∙ c.if-is_at.true) c.in_ok-text.ensures.ok
    (subst (TakesClause c.args.max c.text.new.self c.clause.new.scanner) c.in-Some.is c.in_ok-clause.ensures.ok)

pub returns-in-None-clause-ok : goal.returns-in-None-clause-ok
returns-in-None-clause-ok c =
    delete_none c.args.max c.args.scanner.now c.text.new.self c.clause.new.scanner (sym c.is_at.ensures ∙ c.if-is_at.true) c.in_ok-text.ensures.ok
    (subst (TakesClause c.args.max c.text.new.self c.clause.new.scanner) c.in-None.is c.in_ok-clause.ensures.ok)

pub returns-in-Some-2-clause-ok : goal.returns-in-Some-2-clause-ok
returns-in-Some-2-clause-ok c =
    add_some c.args.max c.args.scanner.now c.clause-else-is_at.new.scanner c.in-Some-2.clause (sym c.is_at.ensures ∙ c.if-is_at.false)
    (subst (TakesClause c.args.max c.args.scanner.now c.clause-else-is_at.new.scanner) c.in-Some-2.is c.in_ok-clause-2.ensures.ok)

pub returns-in-None-2-clause-ok : goal.returns-in-None-2-clause-ok
returns-in-None-2-clause-ok c =
    add_none c.args.max c.args.scanner.now c.clause-else-is_at.new.scanner (sym c.is_at.ensures ∙ c.if-is_at.false)
    (subst (TakesClause c.args.max c.args.scanner.now c.clause-else-is_at.new.scanner) c.in-None-2.is c.in_ok-clause-2.ensures.ok)
