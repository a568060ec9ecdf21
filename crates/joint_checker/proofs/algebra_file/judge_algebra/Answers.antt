use Rattle.std.proofs.Common.{rules, ◌≡◌, ◌≤◌, ℕ, Bool, List, ap, length, sym, subst, ◌∙◌}
use Rattle.std.specs.List.{All}
use Rattle.std.specs.Option.{IfSome}
use Rattle.std.specs.Prelude.{IfErr, IfOk}
use Rattle.std.proofs.lemmas.Result.{IfErr-weaker, IfOk-weaker, on_ok_weaker}
use Rattle.algebra_core.specs.Agreement.{LedgersAgree}
use Rattle.algebra_core.specs.AlgebraLines.{Line, beginning}
use Rattle.clause_core.specs.Clause.{Clause}
use Rattle.clause_core.specs.Facts.{IsClauseFact}
use Rattle.graph_core.specs.Graph.Extended.{Extended, modulus}
use Rattle.graph_core.specs.Graph.Operands.{Sides, sides_for}
use Rattle.mv_desk.specs.declared.slot.Slot.TheVariants as slot
use Rattle.mv_desk.proofs.CallerLemmas.{KeepsTelling-trans, ReadsOnly-trans}
use Rattle.mv_text.specs.CertificateFiles.{left_of_file}
use Rattle.mv_text.specs.LineReading.{lengths_of}
use Rattle.pac_checker.specs.Checking.{ledger_of}
use Rattle.poly_text.specs.Recorded.{lines_in}
use Rattle.algebra_judge.specs.AlgebraBody.{IsBodyFail, IsLawfulBody}
use Rattle.algebra_judge.specs.AlgebraLines.{AlgebraTask, Vanishes}
use Rattle.algebra_judge.specs.Records.{IsLawfulRecord, IsRecordOf, IsRecordedBody}
use Rattle.algebra_judge.specs.declared.fail.AlgebraFail.{AlgebraFail}
use Rattle.algebra_judge.specs.declared.judging.Closed.{Closed}
use Rattle.joint_checker.specs.Fails.{IsAlgebraFail}
use Rattle.pair_core.specs.ClauseFiles.{importable, premises}
use Rattle.joint_checker.proofs.AlgebraFiles.{body_fails, header_fails, text_is_lawful, text_is_recorded}
use Rattle.joint_checker.proofs.Joined.{all_imported}
use Rattle.joint_checker.proofs.Sizes.{outputs_of}
use Rattle.joint_checker.proofs.algebra_file.judge_algebra.Goals as goal

-- ---- the checker's task

abbrev task : ℕ → Extended → List Clause → Sides → Bool → AlgebraTask
task version e cs sides records = record { premises = premises version e cs; sides = sides; records = records }

task_is : (v w : ℕ) (e f : Extended) (cs ds : List Clause) (s o : Sides) (a b : Bool) → v ≡ w → e ≡ f → cs ≡ ds → s ≡ o → a ≡ b → task v e cs s a ≡ task w f ds o b
task_is v w e f cs ds s o a b version extended added sides records =
    ap (λ x. task x e cs s a) version ∙ ap (λ x. task w x cs s a) extended ∙ ap (λ x. task w f x s a) added ∙ ap (λ x. task w f ds x a) sides ∙ ap (task w f ds o) records

pub new-requires-clause-some : goal.new-requires-clause-some
new-requires-clause-some g c = (outputs_of c.args.claim.widths c.args.shown.now.extended.graph c.requires.sized).0

pub new-requires-clause-few : goal.new-requires-clause-few
new-requires-clause-few g c = (outputs_of c.args.claim.widths c.args.shown.now.extended.graph c.requires.sized).1

pub new-requires-clause-facts : goal.new-requires-clause-facts
new-requires-clause-facts g c =
    let shown = c.args.shown.now in
    subst (All (IsClauseFact shown.extended.gates)) (sym c.imports-added.ensures) (all_imported (IsClauseFact shown.extended.gates) shown.header.version shown.recorded.added c.requires.facts)

pub judge-requires-clause-begins : goal.judge-requires-clause-begins
judge-requires-clause-begins g c =
    let k = c.in_ok-checker.checker in
    let file = c.in-Ok.file in
    let few = (outputs_of c.args.claim.widths c.args.shown.now.extended.graph c.requires.sized).1 in
    record {
      going = search rules;
      limit = search rules;
      few = subst (λ (e : Extended). length e.graph.outputs ≤ 128) (sym c.in_ok-checker.ensures.extended) few;
      axioms = subst (λ (e : Extended). LedgersAgree (ledger_of k) (beginning (premises file.version e k.added))) (sym c.in_ok-checker.ensures.extended)
          (subst (λ (cs : List Clause). LedgersAgree (ledger_of k) (beginning (premises file.version c.args.shown.now.extended cs))) (sym c.in_ok-checker.ensures.added) (c.in_ok-checker.ensures.axioms file.version));
      none = c.in_ok-checker.ensures.recorded;
    }

pub judge-requires-clause-greatest : goal.judge-requires-clause-greatest
judge-requires-clause-greatest g c = c.max.ensures.value ∙ ap (λ e. e.max) (sym c.in_ok-checker.ensures.extended)

-- ---- what is answered

pub returns-in-Err-clause-refused : goal.returns-in-Err-clause-refused
returns-in-Err-clause-refused g c =
    let before = g.D.Desk.seen c.args.desk.now in
    let shown = c.args.shown.now in
    let e = shown.extended in
    rw c.line_refused.ensures
    (header_fails (lengths_of c.args.limits.now) (task shown.header.version e (importable shown.header.version shown.recorded.added) (sides_for c.args.claim e.graph) c.args.records) (before.left slot.Algebra) before (g.D.Desk.seen c.start.new.desk) c.in-Err.fail c.in-Err.ensures.refused)

pub returns : goal.returns
returns g c =
    let lengths = lengths_of c.args.limits.now in
    let shown = c.args.shown.now in
    let e = shown.extended in
    let file = c.in-Ok.file in
    let checker = c.in_ok-checker.checker in
    let imports = importable shown.header.version shown.recorded.added in
    let sides = sides_for c.args.claim e.graph in
    let wanted = task shown.header.version e imports sides c.args.records in
    let same = task_is file.version shown.header.version checker.extended e checker.added imports checker.sides sides checker.records c.args.records c.in-Ok.ensures.file.version_is c.in_ok-checker.ensures.extended
    (c.in_ok-checker.ensures.added ∙ c.imports-added.ensures) (c.in_ok-checker.ensures.sides ∙ c.in_ok-operands.ensures ∙ ap (λ x. sides_for c.args.claim x) c.graph.ensures) c.in_ok-checker.ensures.records in
    let before = g.D.Desk.seen c.args.desk.now in
    let middle = g.D.Desk.seen c.start.new.desk in
    let now = g.D.Desk.seen c.judge.new.desk in
    let text = before.left slot.Algebra in
    let behind = left_of_file slot.Algebra file middle in
    let lines : Closed → List Line = λ closed. lines_in closed.record.terms closed.record.lines.items in
    let Told : AlgebraTask → Closed → Type 0 = λ t closed. IfSome behind (IsRecordedBody t (lines closed) closed.id closed.lines) in
    let Fails : AlgebraTask → AlgebraFail → Type 0 = λ t given. IsBodyFail t file.lines behind middle now given in
    record {
      lawful = on_ok_weaker c.judge.result (λ h. text_is_lawful lengths wanted file c.in-Ok.ensures.file.lengths text behind c.in-Ok.ensures.header (subst (λ (t : AlgebraTask). IfSome behind (IsLawfulBody t file.lines)) same h)) c.judge.ensures.lawful;
      vanishes = on_ok_weaker c.judge.result (subst Vanishes same) c.judge.ensures.vanishes;
      recorded = λ yes. subst (λ (t : AlgebraTask). IfOk c.judge.result (IsLawfulRecord t.premises t.sides)) same (c.judge.ensures.recorded (c.in_ok-checker.ensures.records ∙ yes));
      told = IfOk-weaker c.judge.result (Told wanted) (λ closed. IfSome text (λ bytes. IsRecordOf c.args.records shown.header.version (modulus e) bytes (lines closed) closed.id closed.lines))
          (λ closed. text_is_recorded lengths wanted file c.in-Ok.ensures.file.lengths text behind c.in-Ok.ensures.header (lines closed) closed.id closed.lines) (subst (λ (t : AlgebraTask). IfOk c.judge.result (Told t)) same c.judge.ensures.told);
      refused = IfErr-weaker c.judge.result (Fails wanted) (IsAlgebraFail lengths wanted.premises sides text before now)
          (body_fails lengths wanted file c.in-Ok.ensures.file.lengths text behind c.in-Ok.ensures.header before middle now c.in-Ok.ensures.reads.only.later) (subst (λ (t : AlgebraTask). IfErr c.judge.result (Fails t)) same c.judge.ensures.refused);
      only = ReadsOnly-trans slot.Algebra before middle now c.in-Ok.ensures.reads.only c.judge.ensures.only;
      tells = KeepsTelling-trans before middle now c.in-Ok.ensures.reads.tells c.judge.ensures.tells;
    }
