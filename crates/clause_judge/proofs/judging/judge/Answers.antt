use Rattle.std.proofs.Common.{◌+◌, ℕ, List, Option, IfSome, sym, ap, subst, ◌∙◌}
use Rattle.std.specs.List.{All}
use Rattle.std.proofs.lemmas.Result.{err_from_is_err_and}
use Rattle.graph_core.specs.declared.gate.Gate.{Gate}
use Rattle.clause_core.specs.Clause.{Clause}
use Rattle.clause_core.specs.ClauseLines.{ClauseLine}
use Rattle.clause_core.specs.Facts.{IsClauseFact}
use Rattle.clause_core.specs.GateClauses.{gate_clauses}
use Rattle.clause_core.specs.KeptClauses.{AreEarlier}
use Rattle.drup_checker.specs.declared.keeps.Keeps.{Keeps}
use Rattle.mv_desk.specs.declared.slot.Slot.TheVariants as slot
use Rattle.mv_desk.proofs.CallerLemmas.{KeepsTelling-trans, ReadsOnly-trans}
use Rattle.mv_text.specs.CertificateFiles.{left_of_file}
use Rattle.clause_judge.specs.ClauseBody.{IsShownWith}
use Rattle.clause_judge.specs.ClauseLines.{IsTextFail, ReadsNext}
use Rattle.clause_judge.specs.Taking.{IsShownOver}
use Rattle.clause_judge.proofs.ClauseTurns.{begins_with, first_fails, nothing_joined, nothing_over, nothing_passed}
use Rattle.clause_judge.proofs.KeptRecords.{none_earlier, none_tight, tight_moved}
use Rattle.clause_judge.proofs.judging.judge.Goals as goal

-- ---- the first line

pub returns-in_err-first-clause-refused : goal.returns-in_err-first-clause-refused
returns-in_err-first-clause-refused g c =
    let p = err_from_is_err_and c.from_residual.result c.from_residual.ensures.1 in
    rw (p.1, p.2)
    (λ e over.
    let start = c.args.file.now in
    let body = left_of_file slot.Clauses start (g.D.Desk.seen c.args.desk.now) in
    let first = g.D.Desk.seen c.args.desk.now in
    let now = g.D.Desk.seen c.read_line.new.desk in
    let answer = c.in_err-first.field-0.0 in
    first_fails e start body first now answer (subst (λ (m : ℕ). IsTextFail (start.number + 1) m start.lines body first now answer) over.max_is c.in_err-first.ensures.refused))

pub returns-then-is_nothing-clause-lawful : goal.returns-then-is_nothing-clause-lawful
returns-then-is_nothing-clause-lawful g c = λ e over.
    let start = c.args.file.now in
    let body = left_of_file slot.Clauses start (g.D.Desk.seen c.args.desk.now) in
    let file = c.read_line.new.file in
    let left = left_of_file slot.Clauses file (g.D.Desk.seen c.read_line.new.desk) in
    let none = c.is_nothing.ensures c.if-is_nothing.true in
    subst (λ (cs : List Clause). IfSome body (IsShownWith e start.lines c.args.keeps cs 0)) (sym c.nothing_kept.ensures.added)
    (nothing_passed e start body c.args.goals.now over.goals_are none.1 c.args.keeps file left
    (subst (λ (next : Option ClauseLine). ReadsNext e.max start file body left next) none.0
    (subst (λ (m : ℕ). ReadsNext m start file body left c.in_ok-first.first) over.max_is c.in_ok-first.ensures.next)))

pub returns-then-is_nothing-clause-columns : goal.returns-then-is_nothing-clause-columns
returns-then-is_nothing-clause-columns g c = λ e over.
    let start = c.args.file.now in
    let body = left_of_file slot.Clauses start (g.D.Desk.seen c.args.desk.now) in
    nothing_joined e start body c.args.goals.now over.goals_are (c.is_nothing.ensures c.if-is_nothing.true).1

pub returns-then-is_nothing-clause-shown : goal.returns-then-is_nothing-clause-shown
returns-then-is_nothing-clause-shown g c = λ e over.
    let start = c.args.file.now in
    let body = left_of_file slot.Clauses start (g.D.Desk.seen c.args.desk.now) in
    subst (λ (cs : List Clause). IsShownOver e c.args.keeps cs) (sym c.nothing_kept.ensures.added) (nothing_over e start body c.args.goals.now over.goals_are (c.is_nothing.ensures c.if-is_nothing.true).1 c.args.keeps)

pub returns-then-is_nothing-clause-chains : goal.returns-then-is_nothing-clause-chains
returns-then-is_nothing-clause-chains g c given =
    let r = c.nothing_kept.result in
    none_tight (gate_clauses c.args.gates.now) r.added r.uses.items c.nothing_kept.ensures.added c.nothing_kept.ensures.uses

pub returns-then-is_nothing-clause-earlier : goal.returns-then-is_nothing-clause-earlier
returns-then-is_nothing-clause-earlier g c = none_earlier c.nothing_kept.result.uses.items c.nothing_kept.ensures.uses

-- ---- all lines

pub judge_from-requires-clause-begins : goal.judge_from-requires-clause-begins
judge_from-requires-clause-begins g c =
    let e = c.requires.over.0 in
    let over = c.requires.over.1 in
    let start = c.args.file.now in
    let file = c.read_line.new.file in
    let body = left_of_file slot.Clauses start (g.D.Desk.seen c.args.desk.now) in
    let begins = begins_with e start body c.args.max c.args.gates.now c.args.goals.now over c.in_ok-checker.checker c.in_ok-checker.ensures.starts.0 c.args.keeps c.in_ok-first.first file (left_of_file slot.Clauses file (g.D.Desk.seen c.read_line.new.desk))
    c.in_ok-checker.ensures.starts.2 c.in_ok-checker.ensures.shown c.in_ok-checker.ensures.starts.1 c.in_ok-first.ensures.lengths c.requires.limit c.in_ok-first.ensures.next in
    (e, start, body, begins)

pub returns-clause-lawful : goal.returns-clause-lawful
returns-clause-lawful g c = λ e over.
    let start = c.args.file.now in
    let file = c.read_line.new.file in
    let body = left_of_file slot.Clauses start (g.D.Desk.seen c.args.desk.now) in
    let begins = begins_with e start body c.args.max c.args.gates.now c.args.goals.now over c.in_ok-checker.checker c.in_ok-checker.ensures.starts.0 c.args.keeps c.in_ok-first.first file (left_of_file slot.Clauses file (g.D.Desk.seen c.read_line.new.desk))
    c.in_ok-checker.ensures.starts.2 c.in_ok-checker.ensures.shown c.in_ok-checker.ensures.starts.1 c.in_ok-first.ensures.lengths c.requires.limit c.in_ok-first.ensures.next in
    let count = c.in_ok-lines.lines in
    subst (λ (cs : List Clause). IfSome body (IsShownWith e start.lines c.args.keeps cs count)) (sym c.into_record.ensures.added)
    (subst (λ (v : Keeps). IfSome body (IsShownWith e start.lines v c.judge_from.new.checker.added count)) c.in_ok-checker.ensures.starts.2.keeps_is (c.in_ok-lines.ensures.lawful e start body begins))

pub returns-clause-shown : goal.returns-clause-shown
returns-clause-shown g c = λ e over.
    let start = c.args.file.now in
    let file = c.read_line.new.file in
    let body = left_of_file slot.Clauses start (g.D.Desk.seen c.args.desk.now) in
    let begins = begins_with e start body c.args.max c.args.gates.now c.args.goals.now over c.in_ok-checker.checker c.in_ok-checker.ensures.starts.0 c.args.keeps c.in_ok-first.first file (left_of_file slot.Clauses file (g.D.Desk.seen c.read_line.new.desk))
    c.in_ok-checker.ensures.starts.2 c.in_ok-checker.ensures.shown c.in_ok-checker.ensures.starts.1 c.in_ok-first.ensures.lengths c.requires.limit c.in_ok-first.ensures.next in
    subst (λ (cs : List Clause). IsShownOver e c.args.keeps cs) (sym c.into_record.ensures.added)
    (subst (λ (v : Keeps). IsShownOver e v c.judge_from.new.checker.added) c.in_ok-checker.ensures.starts.2.keeps_is (c.in_ok-lines.ensures.shown e start body begins))

pub returns-clause-columns : goal.returns-clause-columns
returns-clause-columns g c = λ e over.
    let start = c.args.file.now in
    let file = c.read_line.new.file in
    let body = left_of_file slot.Clauses start (g.D.Desk.seen c.args.desk.now) in
    let begins = begins_with e start body c.args.max c.args.gates.now c.args.goals.now over c.in_ok-checker.checker c.in_ok-checker.ensures.starts.0 c.args.keeps c.in_ok-first.first file (left_of_file slot.Clauses file (g.D.Desk.seen c.read_line.new.desk))
    c.in_ok-checker.ensures.starts.2 c.in_ok-checker.ensures.shown c.in_ok-checker.ensures.starts.1 c.in_ok-first.ensures.lengths c.requires.limit c.in_ok-first.ensures.next in
    c.in_ok-lines.ensures.columns e start body begins

pub returns-clause-facts : goal.returns-clause-facts
returns-clause-facts g c =
    let same = c.judge_from.ensures.gates ∙ c.in_ok-checker.ensures.starts.2.gates_are in
    subst (All (IsClauseFact c.args.gates.now)) (sym c.into_record.ensures.added)
    (subst (λ (gates : List Gate). All (IsClauseFact gates) c.judge_from.new.checker.added) same c.into_record.ensures.facts)

pub returns-clause-chains : goal.returns-clause-chains
returns-clause-chains g c given =
    let k = c.judge_from.new.checker in
    let r = c.into_record.result in
    let same = c.judge_from.ensures.gates ∙ c.in_ok-checker.ensures.starts.2.gates_are in
    tight_moved (gate_clauses k.gates) (gate_clauses c.args.gates.now) k.added r.added k.uses r.uses.items (ap gate_clauses same) (sym c.into_record.ensures.added) (sym c.into_record.ensures.uses)
    (c.into_record.ensures.chains (c.judge_from.ensures.keeps ∙ c.in_ok-checker.ensures.starts.2.keeps_is ∙ given))

pub returns-clause-earlier : goal.returns-clause-earlier
returns-clause-earlier g c = subst AreEarlier (sym c.into_record.ensures.uses) c.into_record.ensures.earlier

pub returns-in_err-lines-clause-refused : goal.returns-in_err-lines-clause-refused
returns-in_err-lines-clause-refused g c =
    let p = err_from_is_err_and c.from_residual-in_err-lines.result c.from_residual-in_err-lines.ensures.1 in
    rw (p.1, p.2)
    (λ e over.
    let start = c.args.file.now in
    let file = c.read_line.new.file in
    let body = left_of_file slot.Clauses start (g.D.Desk.seen c.args.desk.now) in
    let begins = begins_with e start body c.args.max c.args.gates.now c.args.goals.now over c.in_ok-checker.checker c.in_ok-checker.ensures.starts.0 c.args.keeps c.in_ok-first.first file (left_of_file slot.Clauses file (g.D.Desk.seen c.read_line.new.desk))
    c.in_ok-checker.ensures.starts.2 c.in_ok-checker.ensures.shown c.in_ok-checker.ensures.starts.1 c.in_ok-first.ensures.lengths c.requires.limit c.in_ok-first.ensures.next in
    c.in_err-lines.ensures.refused e start body begins (g.D.Desk.seen c.args.desk.now) c.in_ok-first.ensures.only.later)

-- ---- the desk

pub returns-in_err-lines-clause-only : goal.returns-in_err-lines-clause-only
returns-in_err-lines-clause-only g c =
    ReadsOnly-trans slot.Clauses (g.D.Desk.seen c.args.desk.now) (g.D.Desk.seen c.read_line.new.desk) (g.D.Desk.seen c.judge_from.new.desk) c.in_ok-first.ensures.only c.judge_from.ensures.only

pub returns-in_err-lines-clause-tells : goal.returns-in_err-lines-clause-tells
returns-in_err-lines-clause-tells g c =
    KeepsTelling-trans (g.D.Desk.seen c.args.desk.now) (g.D.Desk.seen c.read_line.new.desk) (g.D.Desk.seen c.judge_from.new.desk) c.in_ok-first.ensures.tells c.judge_from.ensures.tells

pub returns-clause-only : goal.returns-clause-only
returns-clause-only g c =
    ReadsOnly-trans slot.Clauses (g.D.Desk.seen c.args.desk.now) (g.D.Desk.seen c.read_line.new.desk) (g.D.Desk.seen c.judge_from.new.desk) c.in_ok-first.ensures.only c.judge_from.ensures.only

pub returns-clause-tells : goal.returns-clause-tells
returns-clause-tells g c =
    KeepsTelling-trans (g.D.Desk.seen c.args.desk.now) (g.D.Desk.seen c.read_line.new.desk) (g.D.Desk.seen c.judge_from.new.desk) c.in_ok-first.ensures.tells c.judge_from.ensures.tells
