-- What `trim` does to the report.
use Rattle.std.proofs.Common.{◌≡◌, ◌≢◌, ℕ, List, inl, inr}
use Rattle.command_core.specs.declared.stop.Stop.TheVariants as stop
use Rattle.graph_core.specs.declared.claim.Claim.{Claim}
use Rattle.command_core.specs.Written.{StopsAt, StopsWriting, WritesFile}
use Rattle.mv_desk.specs.View.{View}
use Rattle.mv_desk.specs.declared.limits.Limits.{Limits}
use Rattle.mv_desk.specs.declared.slot.Slot.{Slot}
use Rattle.mv_desk.specs.declared.slot.Slot.TheVariants as slot
use Rattle.pair_trim.specs.Trimming.{IsTrimAnswer, TrimmedFiles, new_files}
use Rattle.pair_trim.specs.declared.answer.TrimAnswer.{TrimAnswer}
use Rattle.pair_trim.specs.declared.answer.TrimAnswer.TheVariants as trim
use Rattle.verdict_program.specs.Runs.{ReportStays}
use Rattle.verdict_program.proofs.CreatingLemmas.{leaves_both, no_clauses, reads_leave, same_leaves, slot_leaves}

no_algebra : slot.Report ≢ slot.Algebra
no_algebra e = cc

-- one file was written, or writing it stopped
whole_leaves : (at : Slot) → slot.Report ≢ at → (name text : List ℕ) (a b : View) → WritesFile at name text a b → ReportStays a b
whole_leaves at other name text a b w = slot_leaves at other name text a w.created b w.creates w.writes

stopped_leaves : (at : Slot) → slot.Report ≢ at → (name : List ℕ) (P : List ℕ → Type 0) (a b : View) → StopsAt at name P a b → ReportStays a b
stopped_leaves at other name P a b (inl none) = same_leaves a b none
stopped_leaves at other name P a b (inr (text, is, w)) = slot_leaves at other name w.writes.part a w.created b w.creates w.writes.writes

module _ (limits : Limits) (claim : Claim) (files : TrimmedFiles) (a c : View) where
  pair_stopped : (P : List ℕ → Type 0) (Q : List ℕ → List ℕ → Type 0) (b : View) → StopsWriting (new_files files) P Q b c → ReportStays b c
  pair_stopped P Q b (inl stops) = stopped_leaves slot.Clauses no_clauses files.to_clauses P b c stops
  pair_stopped P Q b (inr (clauses, between, is, w, stops)) =
      leaves_both b between c (whole_leaves slot.Clauses no_clauses files.to_clauses clauses b between w)
      (stopped_leaves slot.Algebra no_algebra files.to_algebra (Q clauses) between c stops)

  -- `trim` leaves the report as it was
  pub trim_leaves_report : (outcome : TrimAnswer) → IsTrimAnswer limits claim files a c outcome → ReportStays a c
  trim_leaves_report (trim.Trimmed kept) (accepted, (g, spelled, (does, (clauses, algebra, pair, trims, (b, reads, w))))) =
      leaves_both a b c (reads_leave a b reads.inspects) (leaves_both b w.between c
      (whole_leaves slot.Clauses no_clauses files.to_clauses clauses b w.between w.clause_file)
      (whole_leaves slot.Algebra no_algebra files.to_algebra algebra w.between c w.algebra_file))
  trim_leaves_report (trim.Refused why) h = reads_leave a c h.inspects
  trim_leaves_report (trim.Stopped stop.WriteFault) (rose, accepted, (kept, (g, spelled, (does, (clauses, algebra, pair, trims, (b, reads, stops)))))) =
      leaves_both a b c (reads_leave a b reads.inspects) (pair_stopped (λ text. text ≡ clauses) (λ beside text. text ≡ algebra) b stops)
  trim_leaves_report (trim.Stopped (stop.Graph at why)) h = reads_leave a c h.inspects
  trim_leaves_report (trim.Stopped (stop.TooLong at)) h = reads_leave a c h.inspects
  trim_leaves_report (trim.Stopped stop.ReadFault) h = reads_leave a c h.inspects
  trim_leaves_report (trim.Stopped stop.Memory) h = reads_leave a c h.inspects
