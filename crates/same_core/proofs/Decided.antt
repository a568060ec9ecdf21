-- The answers of `same`, by what the solver and the desk come to.
use Rattle.std.specs.Prelude.{◌≡◌, ℕ, Bool, List, length, map}
use Rattle.std.proofs.Common.{arith, subst}
use Rattle.std.specs.List.{All}
use Rattle.std.specs.Global.{Global}
use Rattle.std.specs.declared.vec.Vec.{Vec}
use Rattle.cdcl_solver.specs.Logs.{LogView}
use Rattle.cdcl_solver.specs.Solving.{assignment_of}
use Rattle.clause_core.specs.Clause.{IsClause}
use Rattle.clause_core.specs.ClauseLines.{clause_in}
use Rattle.command_core.specs.Written.{FailsToWrite, WritesFile}
use Rattle.drup_text.specs.SameFiles.{same_text}
use Rattle.drup_text.proofs.Writable.{lines_are_writable}
use Rattle.goal_refuter.specs.Refutations.{IsSpent, unmet_goals}
use Rattle.goal_refuter.specs.Refuting.{IsDiffering, IsSoFar}
use Rattle.goal_refuter.proofs.Lawful.{lawful_lines, lines_agree, lines_few}
use Rattle.graph_core.specs.Graph.Assignments.{literal}
use Rattle.graph_core.specs.Graph.Extended.{Extended}
use Rattle.graph_core.specs.Graph.{Aig}
use Rattle.mv_desk.specs.Calls.{Inspects}
use Rattle.mv_desk.specs.View.{Rose, View}
use Rattle.mv_desk.specs.declared.limits.Limits.{Limits}
use Rattle.mv_desk.specs.declared.slot.Slot.TheVariants as slot
use Rattle.same_core.specs.declared.pairs.PairFail.{PairFail}
use Rattle.same_core.specs.declared.pairs.PairFail.TheVariants as pair
use Rattle.command_core.specs.declared.stop.Stop.TheVariants as stop
use Rattle.same_core.specs.declared.verdict.Same.TheVariants as same
use Rattle.same_core.specs.Answers.{same_of_pair}
use Rattle.same_core.specs.Deciding.{AreWritten, HasEqualPair, IsCompared, ReadsGraphs}
use Rattle.same_core.specs.Files.{ComparedFiles, compared_texts_of}
use Rattle.same_core.specs.Merged.{Both, both, merged}
use Rattle.same_core.specs.Pairs.{IsPairFail, IsReadPair}
use Rattle.same_core.specs.Places.{IsMerged}
use Rattle.same_core.proofs.Differing.{difference}
use Rattle.same_core.proofs.MergedColumns.{length-columns_from}
use Rattle.same_core.proofs.Merging.{merged_outputs_agree}
use Rattle.same_core.proofs.Ranges.{both_merged}

module _ (limits : Limits) (conflicts : ℕ) (files : ComparedFiles) (a b : View) (inspects : Inspects a b) where
  pub pair_fails : (given : PairFail) → IsPairFail limits files a b given → IsCompared limits conflicts files a b (same_of_pair given)
  pair_fails pair.Shapes h = (h, inspects)
  pair_fails (pair.Stopped (stop.Graph at why)) h = (h, inspects)
  pair_fails (pair.Stopped (stop.TooLong at)) h = (h, inspects)
  pair_fails (pair.Stopped stop.ReadFault) h = (h, inspects)
  pair_fails (pair.Stopped stop.WriteFault) h = absurd h
  pair_fails (pair.Stopped stop.Memory) h = (tt, inspects)

  module _ (g : Aig) (m : Both) (p : IsReadPair limits.graph (compared_texts_of a files) g m) where
    abbrev e : Extended
    e = merged g p.other

    is_merged : IsMerged (both g p.other)
    is_merged = both_merged g p.other p.built p.other_built

    -- an outcome of these gates is one of the merged ones
    pub of_merged : (P : Both → Type 0) → P m → P (both g p.other)
    of_merged P h = subst P p.merged_is h

    written : (log : LogView) → IsSoFar e conflicts (length (unmet_goals e)) log → All (λ line. IsClause (clause_in line)) log.lines → AreWritten g p.other conflicts log.lines
    written log h once =
        let most = lines_few e conflicts log h in
        let columns = length-columns_from 0 (both g p.other).pairs in
        let few = is_merged.few in
        record {
          lawful = lawful_lines e conflicts log h;
          writable = lines_are_writable e.max log.lines is_merged.small h.log_is.in_range;
          once = once;
          few = omega (arith, most, columns, few);
        }

    -- the graphs agree, and something holds of the text of the log's lines
    equal_pair : (log : LogView) → IsSoFar e conflicts (length (unmet_goals e)) log → All (λ line. IsClause (clause_in line)) log.lines → ReadsGraphs a b →
        (P : List ℕ → View → Type 0) → P (same_text log.lines) b → HasEqualPair limits.graph conflicts files a P
    equal_pair log h once reads P done =
        let agree = merged_outputs_agree g p.other p.built.well_formed p.other_built.well_formed p.shape (lines_agree e conflicts log h) in
        (g, p.spelled, (p.other, p.other_spelled, (p.shape, (agree, (log.lines, b, written log h once, reads, done)))))

    pub equal : (log : LogView) → IsSoFar e conflicts (length (unmet_goals e)) log → All (λ line. IsClause (clause_in line)) log.lines → ReadsGraphs a b →
        (c : View) → WritesFile slot.Clauses files.clauses (same_text log.lines) b c → IsCompared limits conflicts files a c same.Equal
    equal log h once reads c writes = equal_pair log h once reads (λ text between. WritesFile slot.Clauses files.clauses text between c) writes

    -- writing stopped
    pub stopped : (log : LogView) → IsSoFar e conflicts (length (unmet_goals e)) log → All (λ line. IsClause (clause_in line)) log.lines → ReadsGraphs a b →
        (c : View) → FailsToWrite slot.Clauses files.clauses (same_text log.lines) b c → Rose b.write_faults c.write_faults → IsCompared limits conflicts files a c (same.Stopped stop.WriteFault)
    stopped log h once reads c stops rose = (
      subst (λ (n : ℕ). Rose n c.write_faults) inspects.write_faults rose,
      equal_pair log h once reads (λ text between. FailsToWrite slot.Clauses files.clauses text between c) stops,
    )

    pub spent : (goal : ℕ) (log : LogView) → IsSpent e conflicts conflicts goal log → IsCompared limits conflicts files a b (same.Spent conflicts goal log)
    spent goal log h = ((g, p.spelled, (p.other, p.other_spelled, (p.shape, h))), inspects)

    pub differs : (values : List Bool) (inputs : Vec Bool Global) → IsDiffering e values → inputs.items ≡ map (literal (assignment_of values)) g.inputs → IsCompared limits conflicts files a b (same.Differs inputs)
    differs values inputs h is =
        ((g, p.spelled, (p.other, p.other_spelled, (p.shape, difference g p.other p.built.well_formed p.other_built.well_formed p.shape (assignment_of values) h.evaluation inputs.items is h.differ))), inspects)
