-- A graph was read, and then it was told what was decided of it.
use Rattle.std.proofs.Common.{◌≡◌, refl, sym, ap, subst, inl, inr}
use Rattle.std.specs.Prelude.{IfOk, IfSome, OnErr, Result, Ok, Err}
use Rattle.std.specs.declared.option.Option.{Option}
use Rattle.std.specs.declared.option.Option.TheVariants.{None, Some}
use Rattle.aiger_reader.specs.Opening.{OpensOnly}
use Rattle.aiger_reader.specs.Refusals.{SpellsWithin}
use Rattle.command_core.specs.Stopping.{IsGraphStop, IsStop}
use Rattle.command_core.specs.declared.stop.Stop.{Stop}
use Rattle.command_core.specs.declared.stop.Stop.TheVariants as stop
use Rattle.aiger_reader.proofs.CallerLemmas.{Inspects-OpensOnly}
use Rattle.graph_core.specs.Graph.{Aig}
use Rattle.graph_core.specs.Graph.Operands.{profile_of}
use Rattle.graph_core.specs.Text.JudgedLines.{Lengths}
use Rattle.mv_desk.specs.View.{View, Rose, bytes_under}
use Rattle.mv_desk.specs.declared.limits.Limits.{Limits}
use Rattle.mv_desk.specs.declared.slot.Slot.TheVariants as slot
use Rattle.mv_text.specs.LineReading.{lengths_of}
use Rattle.pair_core.proofs.CallerLemmas.{pair_leaves_report, report_stays, report_stays_on, stopping_leaves_report, stops_with}
use Rattle.command_core.specs.Files.{Files}
use Rattle.graph_core.specs.declared.memory.Memory.{Memory}
use Rattle.command_core.specs.declared.task.Task.{Task}
use Rattle.joint_prover.specs.declared.verdict.Verdict.{Verdict}
use Rattle.joint_prover.specs.declared.verdict.Verdict.TheVariants.{Proved, Wrong, Undecided, Stopped}
use Rattle.joint_prover.specs.declared.note.Note.{Note}
use Rattle.joint_prover.specs.Notes.{IsNote, replacement_of}
use Rattle.joint_prover.specs.Pairs.{AreClausesFor, IsPairFor}
use Rattle.joint_prover.specs.Decisions.{IsDecision}
use Rattle.joint_prover.specs.Endings.{IsTold, IsToldAs, note_beside}
use Rattle.joint_prover.specs.declared.decision.Decision.{Decision}
use Rattle.joint_prover.specs.declared.decision.Decision.TheVariants as decision
use Rattle.pair_core.specs.Texts.{algebra_text, clauses_text}
use Rattle.joint_prover.specs.Verdicts.{IsVerdict}
use Rattle.command_core.specs.Written.{ReadsGraph, ReportStays}

pub graph_is_read : {T E : Type 0} (a r : View) (result : Result T E) → OpensOnly slot.Graph a r result → ReadsGraph a r
graph_is_read a r result opens = record {
  others = opens.others;
  inspects = Inspects-OpensOnly slot.Graph a r result (λ e. cc) opens;
}

module _ (limits : Limits) (task : Task) (files : Files) (a r : View) (reads : ReadsGraph a r) where
  -- a verdict and a note by another name
  named : (c : View) (v w : Verdict) (noted other : Option Note) → v ≡ w → noted ≡ other → IsVerdict limits task files a c w other → IsVerdict limits task files a c v noted
  named c v w noted other is same h = subst (λ x. IsVerdict limits task files a c x noted) (sym is) (subst (IsVerdict limits task files a c w) (sym same) h)

  told : (c : View) (g : Aig) (d : Decision) (n : Note) (v : Verdict) (noted : Option Note) → IfSome (bytes_under a files.graph) (λ bytes. SpellsWithin (profile_of task.claim.widths) limits.graph bytes g) →
      r.write_faults ≡ a.write_faults → IsNote g task.claim task.conflicts n → IsDecision g task (replacement_of n) d → IsTold (lengths_of limits) files r c d n v noted → IsVerdict limits task files a c v noted
  told c g (decision.Proved p) n v noted spelled same note h (inl t) =
      named c v (Proved t.0) noted (Some n) t.1 t.2 (g, spelled, (h.0, (note, (r, reads, (clauses_text p, algebra_text p, h.2, t.3, t.4)))))
  told c g (decision.Proved p) n v noted spelled same note h (inr t) = named c v (Stopped stop.WriteFault) noted None t.0 t.1
      (subst (λ k. Rose k c.write_faults) same t.2, (g, spelled, (h.0, (n, note, r, reads, stops_with files (clauses_text p) (algebra_text p) (AreClausesFor g task (replacement_of n)) (IsPairFor g task (replacement_of n)) r c (h.2.0, h.2.1, h.2.2.clause_file) h.2 t.3))), refl)
  told c g (decision.Wrong d) n v noted spelled same note h t =
      named c v (Wrong d) noted (Some n) t.0 t.1 ((g, spelled, (h, (note, tt))), subst (ReadsGraph a) (sym t.2) reads)
  told c g (decision.Undecided tried step size seen) n v noted spelled same note h t =
      named c v (Undecided tried step size seen) noted (Some n) t.0 t.1 ((g, spelled, (h.0, (note, h.1), h.2, h.3)), subst (ReadsGraph a) (sym t.2) reads)

  pub stopped : (why : Stop) → IsStop (IsGraphStop slot.Graph (profile_of task.claim.widths) limits.graph (bytes_under a files.graph)) a r why → IsVerdict limits task files a r (Stopped why) None
  stopped (stop.Graph at why) h = (h, reads, refl)
  stopped (stop.TooLong at) h = (h, reads, refl)
  stopped stop.ReadFault h = (h, reads, refl)
  stopped stop.WriteFault h = absurd h
  stopped stop.Memory h = (h, reads, refl)

  -- where there was memory, or none
  pub judged : (c : View) (g : Aig) (decided : Result (Decision × Note) Memory) (v : Verdict) (noted : Option Note) → IfSome (bytes_under a files.graph) (λ bytes. SpellsWithin (profile_of task.claim.widths) limits.graph bytes g) →
      r.write_faults ≡ a.write_faults → IfOk decided (λ d. IsDecision g task (replacement_of d.1) d.0) → IfOk decided (λ d. IsNote g task.claim task.conflicts d.1) → IfOk decided (λ d. IsTold (lengths_of limits) files r c d.0 d.1 v noted) →
      OnErr decided (◌≡◌ {A = Verdict × Option Note} (v, noted) (Stopped stop.Memory, None)) → OnErr decided (c ≡ r) → IsVerdict limits task files a c v noted
  judged c g (Ok d) v noted spelled same decision note h none untouched = told c g d.0 d.1 v noted spelled same note decision h
  judged c g (Err e) v noted spelled same decision note h none untouched =
      named c v (Stopped stop.Memory) noted None (ap (λ x. x.0) none) (ap (λ x. x.1) none) (tt, subst (ReadsGraph a) (sym untouched) reads, refl)

-- ---- the report

-- with the note beside the verdict
pub told_beside : (lengths : Lengths) (files : Files) (a b : View) (d : Decision) (n : Note) (v : Verdict) → IsToldAs lengths files a b d v → IsTold lengths files a b d n v (note_beside v n)
told_beside lengths files a b (decision.Proved p) n v (inl t) = inl (t.0, t.1, ap (λ w. note_beside w n) t.1, t.2, t.3)
told_beside lengths files a b (decision.Proved p) n v (inr t) = inr (t.0, ap (λ w. note_beside w n) t.0, t.1, t.2)
told_beside lengths files a b (decision.Wrong d) n v t = (t.0, ap (λ w. note_beside w n) t.0, t.1)
told_beside lengths files a b (decision.Undecided tried step size seen) n v t = (t.0, ap (λ w. note_beside w n) t.0, t.1)

told_leaves : (lengths : Lengths) (files : Files) (a b : View) (d : Decision) (n : Note) (v : Verdict) (noted : Option Note) → IsTold lengths files a b d n v noted → ReportStays a b
told_leaves lengths files a b (decision.Proved p) n v noted (inl t) = pair_leaves_report files (clauses_text p) (algebra_text p) a b t.3
told_leaves lengths files a b (decision.Proved p) n v noted (inr t) = stopping_leaves_report files (λ text. text ≡ clauses_text p) (λ beside text. text ≡ algebra_text p) a b t.3
told_leaves lengths files a b (decision.Wrong d) n v noted t = subst (ReportStays a) (sym t.2) (report_stays a)
told_leaves lengths files a b (decision.Undecided tried step size seen) n v noted t = subst (ReportStays a) (sym t.2) (report_stays a)

judged_leaves : (lengths : Lengths) (files : Files) (a b : View) (decided : Result (Decision × Note) Memory) (v : Verdict) (noted : Option Note) → IfOk decided (λ d. IsTold lengths files a b d.0 d.1 v noted) → OnErr decided (b ≡ a) → ReportStays a b
judged_leaves lengths files a b (Ok d) v noted h same = told_leaves lengths files a b d.0 d.1 v noted h
judged_leaves lengths files a b (Err e) v noted h same = subst (ReportStays a) (sym same) (report_stays a)

pub reading_leaves : (lengths : Lengths) (files : Files) (a r b : View) (decided : Result (Decision × Note) Memory) (v : Verdict) (noted : Option Note) → ReadsGraph a r → IfOk decided (λ d. IsTold lengths files r b d.0 d.1 v noted) → OnErr decided (b ≡ r) →
    ReportStays a b
reading_leaves lengths files a r b decided v noted reads h same =
    let s = reads.inspects.report in
    report_stays_on a r b (record { mode = s.mode; written = s.written }) (judged_leaves lengths files r b decided v noted h same)
