use Rattle.std.proofs.Common.{sym, subst}
use Rattle.std.proofs.lemmas.Result.{err_from_is_err_and}
use Rattle.std.specs.Option.{IfSome}
use Rattle.graph_core.specs.Graph.Extended.{AgreeOnColumns}
use Rattle.mv_desk.specs.View.{bytes_under}
use Rattle.mv_desk.proofs.CallerLemmas.{OpensFiles-trans}
use Rattle.mv_fact.specs.Always.{Always}
use Rattle.mv_text.specs.LineReading.{lengths_of}
use Rattle.same_core.specs.Certificates.{IsLawful}
use Rattle.same_core.specs.Fails.{IsPairClauseFail}
use Rattle.same_core.specs.Files.{compared_files_of}
use Rattle.same_core.specs.Merged.{Both, over}
use Rattle.same_core.specs.Places.{IsMerged}
use Rattle.same_core.proofs.OutcomeRows.{accepts, clauses_answers, clauses_opened, pair_answers, pair_opened}
use Rattle.same_core.proofs.Ranges.{both_merged}
use Rattle.same_core.proofs.checking.check_files.Goals as goal

-- ---- the graphs

pub returns-in_err-pair-clause-refused : goal.returns-in_err-pair-clause-refused
returns-in_err-pair-clause-refused g c =
    let same = err_from_is_err_and c.from_residual.result c.from_residual.ensures.1 in
    rw (same.1, same.2)
    (pair_answers c.args.limits.now (compared_files_of c.args.names.now) (g.D.Desk.seen c.args.desk.now) (g.D.Desk.seen c.read_pair.new.desk) c.in_err-pair.field-0.0 c.in_err-pair.ensures.refused)

pub returns-in_err-pair-clause-opened : goal.returns-in_err-pair-clause-opened
returns-in_err-pair-clause-opened g c =
    let same = err_from_is_err_and c.from_residual.result c.from_residual.ensures.1 in
    rw (same.1, same.2)
    (pair_opened c.args.limits.now (compared_files_of c.args.names.now) (g.D.Desk.seen c.args.desk.now) (g.D.Desk.seen c.read_pair.new.desk) c.in_err-pair.field-0.0 c.in_err-pair.ensures.refused c.in_err-pair.ensures.opened)

-- ---- the clause file

pub check_clauses-requires : goal.check_clauses-requires
check_clauses-requires g c =
    let p = c.in_ok-pair.ensures.pair in
    subst IsMerged (sym p.merged_is) (both_merged c.in_ok-pair.pair.0 p.other p.built p.other_built)

pub returns-clause-accepted : goal.returns-clause-accepted
returns-clause-accepted g c =
    let limits = c.args.limits.now in
    let files = compared_files_of c.args.names.now in
    let second = g.D.Desk.seen c.read_pair.new.desk in
    let p = c.in_ok-pair.ensures.pair in
    accepts limits files (g.D.Desk.seen c.args.desk.now) second (g.D.Desk.seen c.check_clauses.new.desk) c.read_pair.ensures.inspects c.in_ok-pair.pair.0 c.in_ok-pair.pair.1 p
    (subst (λ (m : Both). IfSome (bytes_under second files.clauses) (IsLawful (lengths_of limits) (over m))) p.merged_is c.in_ok-check_clauses.ensures.lawful)
    (subst (λ (m : Both). Always m.gates (AgreeOnColumns (over m))) p.merged_is c.in_ok-check_clauses.ensures.agree)

pub returns-in_err-check_clauses-clause-refused : goal.returns-in_err-check_clauses-clause-refused
returns-in_err-check_clauses-clause-refused g c =
    let limits = c.args.limits.now in
    let files = compared_files_of c.args.names.now in
    let second = g.D.Desk.seen c.read_pair.new.desk in
    let last = g.D.Desk.seen c.check_clauses.new.desk in
    let given = c.in_err-check_clauses.field-0.0 in
    let p = c.in_ok-pair.ensures.pair in
    let same = err_from_is_err_and c.from_residual-in_err-check_clauses.result c.from_residual-in_err-check_clauses.ensures.1 in
    rw (same.1, same.2)
    (clauses_answers limits files (g.D.Desk.seen c.args.desk.now) second last c.read_pair.ensures.inspects c.in_ok-pair.pair.0 c.in_ok-pair.pair.1 p given
    (subst (λ (m : Both). IsPairClauseFail (lengths_of limits) (over m) (bytes_under second files.clauses) second last given) p.merged_is c.in_err-check_clauses.ensures.refused))

pub returns-in_err-check_clauses-clause-opened : goal.returns-in_err-check_clauses-clause-opened
returns-in_err-check_clauses-clause-opened g c =
    let first = g.D.Desk.seen c.args.desk.now in
    let second = g.D.Desk.seen c.read_pair.new.desk in
    let last = g.D.Desk.seen c.check_clauses.new.desk in
    let same = err_from_is_err_and c.from_residual-in_err-check_clauses.result c.from_residual-in_err-check_clauses.ensures.1 in
    rw (same.1, same.2)
    (clauses_opened c.args.limits.now (compared_files_of c.args.names.now) (over c.in_ok-pair.pair.1) (bytes_under second (compared_files_of c.args.names.now).clauses) first second last c.in_err-check_clauses.field-0.0 c.in_err-check_clauses.ensures.refused (OpensFiles-trans 2 1 first second last c.in_ok-pair.ensures.opened_all c.check_clauses.ensures.opened))
