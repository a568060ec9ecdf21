use Rattle.std.proofs.Common.{Err, Ok, Some, ap, subst, sym, ◌∙◌}
use Rattle.std.specs.Result.{IfErr, IfOk, result_err}
use Rattle.mv_desk.specs.declared.slot.Slot.TheVariants.{Clauses}
use Rattle.mv_text.specs.CertificateFiles.{FileState, GivesLine, ReadsLine, SaysNothing, settled}
use Rattle.mv_text.proofs.CallerLemmas.{end_read, fault_read, line_not_read, line_read}
use Rattle.drup_text.specs.ClauseTexts.{IsClauseLine}
use Rattle.drup_text.specs.LineTexts.{IsClauseLineInRange, IsClauseTextOf}
use Rattle.drup_text.proofs.ClauseReading.{none_clause_line}
use Rattle.drup_text.proofs.clause_file.ClauseFile.next.Goals as goal

pub returns-in-Ok-clause-next : goal.returns-in-Ok-clause-next
returns-in-Ok-clause-next g c =
    let max = c.args.max in
    let old = c.self.inside.file in
    let mid = c.next_line.new.self in
    let before = g.D.Desk.seen c.args.desk.now in
    let now = g.D.Desk.seen c.next_line.new.desk in
    let v = c.in-Ok-Some.line in
    let read = sym c.in-Ok.ensures.read in
    let says = subst (λ r. IfOk r (IsClauseTextOf max v.items)) read (subst (λ z. IfOk c.read_line.result (IsClauseTextOf max z)) c.deref.ensures.value c.read_line.ensures.ok) in
    rw (← c.self.view_is)
    (λ going.
    let gives = subst (λ o. GivesLine Clauses old mid before now (Ok o)) c.in-Ok-Some.field-0-is (c.in-Ok-Some.ensures.next going) in
    subst (λ (f : FileState). ReadsLine IsClauseLine (IsClauseLineInRange max) (IsClauseTextOf max) Clauses old f before now (Ok (Some c.in-Ok.line)))
    (sym (c.in-Ok.ensures.settled ∙ ap (λ r. settled mid (result_err r)) read))
    (line_read IsClauseLine (IsClauseLineInRange max) (IsClauseTextOf max) none_clause_line v c.in-Ok.line gives says))

pub returns-in-Ok-Some-clause-next : goal.returns-in-Ok-Some-clause-next
returns-in-Ok-Some-clause-next g c =
    let max = c.args.max in
    let old = c.self.inside.file in
    let mid = c.next_line.new.self in
    let before = g.D.Desk.seen c.args.desk.now in
    let now = g.D.Desk.seen c.next_line.new.desk in
    let v = c.in-Ok-Some.line in
    let read = sym c.in-Err-settle.ensures.read in
    let refused = subst (λ r. IfErr r (SaysNothing IsClauseLine (IsClauseLineInRange max) v.items)) read
    (subst (λ z. IfErr c.read_line.result (SaysNothing IsClauseLine (IsClauseLineInRange max) z)) c.deref.ensures.value c.read_line.ensures.err) in
    rw (← c.self.view_is)
    (λ going.
    let gives = subst (λ o. GivesLine Clauses old mid before now (Ok o)) c.in-Ok-Some.field-0-is (c.in-Ok-Some.ensures.next going) in
    subst (λ (f : FileState). ReadsLine IsClauseLine (IsClauseLineInRange max) (IsClauseTextOf max) Clauses old f before now (Err c.in-Err-settle.fail))
    (sym (c.in-Err-settle.ensures.settled ∙ ap (λ r. settled mid (result_err r)) read))
    (line_not_read IsClauseLine (IsClauseLineInRange max) (IsClauseTextOf max) none_clause_line v c.in-Err-settle.fail gives refused))

pub returns-in-Ok-None-clause-next : goal.returns-in-Ok-None-clause-next
returns-in-Ok-None-clause-next g c =
    let max = c.args.max in
    let before = g.D.Desk.seen c.args.desk.now in
    let now = g.D.Desk.seen c.next_line.new.desk in
    rw (← c.self.view_is)
    (λ going. end_read IsClauseLine (IsClauseLineInRange max) (IsClauseTextOf max) none_clause_line
    (subst (λ o. GivesLine Clauses c.self.inside.file c.next_line.new.self before now (Ok o)) c.in-Ok-None.field-0-is (c.in-Ok-None.ensures.next going)))

pub returns-clause-next : goal.returns-clause-next
returns-clause-next g c =
    rw (← c.self.view_is) (λ going. fault_read IsClauseLine (IsClauseLineInRange c.args.max) (IsClauseTextOf c.args.max) none_clause_line c.in-Err.fail (c.in-Err.ensures.next going))
