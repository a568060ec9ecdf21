-- Two graphs: what their files spell, and what `same` does to the report.
use Rattle.std.proofs.Common.{ℕ, List, inl, inr}
use Rattle.std.specs.Prelude.{IfSome}
use Rattle.aiger_reader.specs.Refusals.{SpellsWithin}
use Rattle.command_core.specs.Written.{FailsToWrite}
use Rattle.command_core.specs.declared.stop.Stop.TheVariants as stop
use Rattle.command_core.specs.Files.{ComparedFiles}
use Rattle.graph_core.specs.Graph.{Aig}
use Rattle.graph_core.specs.declared.profile.Profile.TheVariants.{Any}
use Rattle.mv_desk.specs.View.{View, bytes_under}
use Rattle.mv_desk.specs.declared.limits.Limits.{Limits}
use Rattle.mv_desk.specs.declared.slot.Slot.TheVariants as slot
use Rattle.same_core.specs.Deciding.{IsCompared}
use Rattle.same_core.specs.Merged.{AgreeOnInputs, AreOfOneShape}
use Rattle.same_core.specs.declared.verdict.Same.{Same}
use Rattle.same_core.specs.declared.verdict.Same.TheVariants as same
use Rattle.clause_core.specs.ClauseLines.{ClauseLine}
use Rattle.drup_text.specs.SameFiles.{same_text}
use Rattle.verdict_program.specs.Headline.{AreTheSame}
use Rattle.verdict_program.specs.Runs.{ReportStays, standard}
use Rattle.verdict_program.proofs.CreatingLemmas.{leaves_both, no_clauses, reads_leave, same_leaves, slot_leaves}
use Rattle.verdict_program.proofs.Told.{some_more}

pub are_the_same : (a : View) (files : ComparedFiles) (g h : Aig) → IfSome (bytes_under a files.graph) (λ bytes. SpellsWithin Any standard.graph bytes g) →
    IfSome (bytes_under a files.other) (λ bytes. SpellsWithin Any standard.graph bytes h) → AreOfOneShape g h → AgreeOnInputs g h → AreTheSame a files.graph files.other
are_the_same a files g h spelled other_spelled shape agree =
    some_more (bytes_under a files.graph) (λ bytes. SpellsWithin Any standard.graph bytes g) _
    (λ bytes s. some_more (bytes_under a files.other) (λ more. SpellsWithin Any standard.graph more h) _ (λ more t. (g, h, s.spells, t.spells, shape, agree)) other_spelled) spelled

module _ (limits : Limits) (conflicts : ℕ) (files : ComparedFiles) (a c : View) where
  stopped_leaves : (lines : List ClauseLine) (b : View) → FailsToWrite slot.Clauses files.clauses (same_text lines) b c → ReportStays b c
  stopped_leaves lines b (inl none) = same_leaves b c none
  stopped_leaves lines b (inr w) = slot_leaves slot.Clauses no_clauses files.clauses w.writes.part b w.created c w.creates w.writes.writes

  -- `same` leaves the report as it was
  pub report_stays : (outcome : Same) → IsCompared limits conflicts files a c outcome → ReportStays a c
  report_stays same.Equal (g, spelled, (h, other_spelled, (shape, (agree, (lines, b, written, reads, w))))) =
      leaves_both a b c (reads_leave a b reads.inspects) (slot_leaves slot.Clauses no_clauses files.clauses (same_text lines) b w.created c w.creates w.writes)
  report_stays (same.Differs inputs) h = reads_leave a c h.1
  report_stays (same.Spent lemmas goal log) h = reads_leave a c h.1
  report_stays same.Shapes h = reads_leave a c h.1
  report_stays (same.Stopped stop.WriteFault) (rose, (g, spelled, (h, other_spelled, (shape, (agree, (lines, b, written, reads, stops)))))) =
      leaves_both a b c (reads_leave a b reads.inspects) (stopped_leaves lines b stops)
  report_stays (same.Stopped (stop.Graph at why)) h = reads_leave a c h.1
  report_stays (same.Stopped (stop.TooLong at)) h = reads_leave a c h.1
  report_stays (same.Stopped stop.ReadFault) h = reads_leave a c h.1
  report_stays (same.Stopped stop.Memory) h = reads_leave a c h.1
