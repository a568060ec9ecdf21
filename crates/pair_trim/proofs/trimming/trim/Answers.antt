use Rattle.std.proofs.Common.{ℕ, sym, subst, ◌∙◌}
use Rattle.mv_desk.specs.View.{Rose}
use Rattle.joint_checker.specs.Outcome.{OpensFor}
use Rattle.pair_core.specs.Texts.{algebra_text, clauses_text}
use Rattle.pair_trim.specs.Trimming.{IsNotAccepted, trimmed_files_of}
use Rattle.pair_trim.proofs.Trims.{not_accepted_answers}
use Rattle.pair_trim.proofs.trimming.trim.Goals as goal

pub returns-in-Err-write_pair-clause-answer : goal.returns-in-Err-write_pair-clause-answer
returns-in-Err-write_pair-clause-answer g c =
    let now = g.D.Desk.seen c.write_pair.new.desk in
    let read = g.D.Desk.seen c.read_trimmed.new.desk in
    let h = c.in-Ok.ensures.trims in
    let t = c.in-Ok.kept in (
      subst (λ (n : ℕ). Rose n now.write_faults) c.in-Ok.ensures.reads.inspects.write_faults c.in-Err-write_pair.ensures.cause.rose,
      c.in-Ok.ensures.outcome,
      (t, (h.0, h.1, (h.2.0, (clauses_text t.pair, algebra_text t.pair, h.2.1, h.2.2, (read, c.in-Ok.ensures.reads, c.in-Err-write_pair.ensures.stops))))),
    )

pub returns-in-Err-clause-answer : goal.returns-in-Err-clause-answer
returns-in-Err-clause-answer g c =
    let limits = c.args.limits.now in
    let files = trimmed_files_of c.args.names.now in
    let before = g.D.Desk.seen c.args.desk.now in
    let now = g.D.Desk.seen c.read_trimmed.new.desk in
    let answer = c.not_accepted.result in
    let same = c.not_accepted.ensures in
    not_accepted_answers limits c.args.claim files before now answer (λ e. c.in-Err.ensures.not_accepted (sym same ∙ e)) (subst (IsNotAccepted limits c.args.claim files before now) (sym same) (record {
      outcome_is = c.in-Err.ensures.outcome;
      opens = c.in-Err.ensures.opens;
      inspects = c.read_trimmed.ensures.reads.inspects;
    }))

pub returns-in-Err-clause-opened : goal.returns-in-Err-clause-opened
returns-in-Err-clause-opened g c = subst (λ answer. OpensFor answer (g.D.Desk.seen c.args.desk.now) (g.D.Desk.seen c.read_trimmed.new.desk)) (sym c.not_accepted.ensures) c.in-Err.ensures.opened
