use Rattle.std.proofs.Common.{List, length, sym, subst}
use Rattle.std.specs.List.{All}
use Rattle.clause_core.specs.Clause.{IsClause}
use Rattle.clause_core.specs.ClauseLines.{ClauseLine, clause_in}
use Rattle.command_core.specs.Written.{FailsToWrite, WritesFile}
use Rattle.drup_text.specs.SameFiles.{same_text}
use Rattle.goal_refuter.specs.Refutations.{unmet_goals}
use Rattle.goal_refuter.specs.Refuting.{IsDiffering, IsGoalsOutcome, IsSoFar}
use Rattle.goal_refuter.specs.declared.refuting.Outcome.{Outcome}
use Rattle.mv_desk.specs.declared.slot.Slot.TheVariants as slot
use Rattle.same_core.specs.Files.{compared_files_of}
use Rattle.same_core.specs.Merged.{over}
use Rattle.same_core.specs.Places.{IsMerged}
use Rattle.same_core.proofs.Decided.{differs, equal, of_merged, pair_fails, stopped}
use Rattle.same_core.proofs.Ranges.{both_merged}
use Rattle.same_core.proofs.deciding.same.Goals as goal

pub decide-requires : goal.decide-requires
decide-requires g c =
    let p = c.in-Ok.ensures.pair in
    subst IsMerged (sym p.merged_is) (both_merged c.in-Ok.pair.0 p.other p.built p.other_built)

-- ---- the certificate

pub returns-in-Ok-write_certificate-clause-answer : goal.returns-in-Ok-write_certificate-clause-answer
returns-in-Ok-write_certificate-clause-answer g c =
    let limits = c.args.limits.now in
    let files = compared_files_of c.args.names.now in
    let first = g.D.Desk.seen c.args.desk.now in
    let second = g.D.Desk.seen c.read_pair.new.desk in
    let last = g.D.Desk.seen c.write_certificate.new.desk in
    let p = c.in-Ok.ensures.pair in
    let log = c.in-Ok-Refuted.log in
    let lines = c.lines.ensures.lines in
    equal limits c.args.conflicts files first second c.read_pair.ensures.inspects c.in-Ok.pair.0 c.in-Ok.pair.1 p log
    (of_merged limits c.args.conflicts files first second c.read_pair.ensures.inspects c.in-Ok.pair.0 c.in-Ok.pair.1 p (λ m. IsSoFar (over m) c.args.conflicts (length (unmet_goals (over m))) log)
    (subst (λ (o : Outcome). IsGoalsOutcome (over c.in-Ok.pair.1) c.args.conflicts o) c.in-Ok-Refuted.field-0-is c.in-Ok-Refuted.ensures))
    (subst (All (λ line. IsClause (clause_in line))) lines c.write_certificate.ensures.once)
    c.in-Ok.ensures.reads last (subst (λ (lines : List ClauseLine). WritesFile slot.Clauses files.clauses (same_text lines) second last) lines c.in-Ok-write_certificate.ensures.whole)

pub returns-in-Ok-Refuted-clause-answer : goal.returns-in-Ok-Refuted-clause-answer
returns-in-Ok-Refuted-clause-answer g c =
    let limits = c.args.limits.now in
    let files = compared_files_of c.args.names.now in
    let first = g.D.Desk.seen c.args.desk.now in
    let second = g.D.Desk.seen c.read_pair.new.desk in
    let last = g.D.Desk.seen c.write_certificate.new.desk in
    let p = c.in-Ok.ensures.pair in
    let log = c.in-Ok-Refuted.log in
    let lines = c.lines.ensures.lines in
    stopped limits c.args.conflicts files first second c.read_pair.ensures.inspects c.in-Ok.pair.0 c.in-Ok.pair.1 p log
    (of_merged limits c.args.conflicts files first second c.read_pair.ensures.inspects c.in-Ok.pair.0 c.in-Ok.pair.1 p (λ m. IsSoFar (over m) c.args.conflicts (length (unmet_goals (over m))) log)
    (subst (λ (o : Outcome). IsGoalsOutcome (over c.in-Ok.pair.1) c.args.conflicts o) c.in-Ok-Refuted.field-0-is c.in-Ok-Refuted.ensures))
    (subst (All (λ line. IsClause (clause_in line))) lines c.write_certificate.ensures.once)
    c.in-Ok.ensures.reads last (subst (λ (lines : List ClauseLine). FailsToWrite slot.Clauses files.clauses (same_text lines) second last) lines c.in-Err-write_certificate.ensures.stops)
    c.in-Err-write_certificate.ensures.cause.rose

-- ---- no certificate

pub returns-in-Ok-inputs_at-clause-answer : goal.returns-in-Ok-inputs_at-clause-answer
returns-in-Ok-inputs_at-clause-answer g c =
    let limits = c.args.limits.now in
    let files = compared_files_of c.args.names.now in
    let first = g.D.Desk.seen c.args.desk.now in
    let second = g.D.Desk.seen c.read_pair.new.desk in
    let p = c.in-Ok.ensures.pair in
    let values = c.in-Ok-Model.values.items in
    differs limits c.args.conflicts files first second c.read_pair.ensures.inspects c.in-Ok.pair.0 c.in-Ok.pair.1 p values c.in-Ok-inputs_at.inputs
    (of_merged limits c.args.conflicts files first second c.read_pair.ensures.inspects c.in-Ok.pair.0 c.in-Ok.pair.1 p (λ m. IsDiffering (over m) values)
    (subst (λ (o : Outcome). IsGoalsOutcome (over c.in-Ok.pair.1) c.args.conflicts o) c.in-Ok-Model.field-0-is c.in-Ok-Model.ensures)) c.in-Ok-inputs_at.ensures

pub returns-in-Err-clause-opened : goal.returns-in-Err-clause-opened
returns-in-Err-clause-opened g c =
    rw c.from.ensures c.in-Err.ensures.opened

pub returns-in-Err-clause-answer : goal.returns-in-Err-clause-answer
returns-in-Err-clause-answer g c =
    rw c.from.ensures
    (pair_fails c.args.limits.now c.args.conflicts (compared_files_of c.args.names.now) (g.D.Desk.seen c.args.desk.now) (g.D.Desk.seen c.read_pair.new.desk) c.read_pair.ensures.inspects c.in-Err.fail c.in-Err.ensures.refused)
