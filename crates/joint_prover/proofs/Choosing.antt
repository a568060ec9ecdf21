-- What several plans decide, and what is taken of it.
use Rattle.std.proofs.Common.{Bool, true, false, sym, subst}
use Rattle.std.specs.Prelude.{◌&&◌, not, if◌then◌else◌, IfSome, option_map}
use Rattle.std.specs.declared.option.Option.{Option}
use Rattle.std.specs.declared.option.Option.TheVariants.{None, Some}
use Rattle.graph_core.specs.Graph.{Aig}
use Rattle.graph_core.specs.Text.JudgedLines.{Lengths}
use Rattle.mv_text.specs.LineReading.{lengths_of}
use Rattle.joint_prover.specs.declared.replacement.Replacement.{Replacement}
use Rattle.joint_prover.specs.Decisions.{IsDecision}
use Rattle.joint_prover.specs.Endings.{Decides, HasWritable, IsEndedFor, IsEndedOver, IsEndedWithFound, IsMeasured, replacement_of_found, first_short, over_replacement, shorter}
use Rattle.joint_prover.specs.Notes.{IsFound}
use Rattle.joint_prover.specs.declared.decision.Decision.{Decision}
use Rattle.joint_prover.specs.declared.decision.Decision.TheVariants as decision
use Rattle.joint_prover.specs.declared.ended.Ended.{Ended}
use Rattle.joint_prover.specs.declared.task.Job.{Job}
use Rattle.command_core.specs.declared.task.Task.{Task}
use Rattle.joint_prover.proofs.Telling.{over_decides}

-- ---- a pair that can be written

pub decides_writable : (g : Aig) (task : Task) (r : Option Replacement) (d : Decision) → Decides g task r d → HasWritable d
decides_writable g task r (decision.Proved p) h = h.1
decides_writable g task r (decision.Wrong x) h = tt
decides_writable g task r (decision.Undecided tried step size seen) h = tt

pub decision_writable : (g : Aig) (task : Task) (used : Option Replacement) (d : Decision) → IsDecision g task used d → HasWritable d
decision_writable g task used (decision.Proved p) h = h.1
decision_writable g task used (decision.Wrong x) h = tt
decision_writable g task used (decision.Undecided tried step size seen) h = tt

-- ---- which is taken

pick : (P : Ended → Type 0) (later_is : Bool) (first later : Ended) → P first → P later → P (if later_is then later else first)
pick P true first later h k = k
pick P false first later h k = h

shorter_is : (P : Ended → Type 0) (first : Ended) (later : Option Ended) → P first → IfSome later P → P (shorter first later)
shorter_is P first None h k = h
shorter_is P first (Some later) h k = pick P (first.is_long && not later.is_long) first later h k

-- either one
pub short_is : (P : Ended → Type 0) (first later : Option Ended) → IfSome first P → IfSome later P → IfSome (first_short first later) P
short_is P None later h k = k
short_is P (Some first) later h k = shorter_is P first later h k

-- ---- over which graph

measured_over : (lengths : Lengths) (r : Replacement) (e : Ended) → IsMeasured lengths e → IsMeasured lengths (over_replacement r e)
measured_over lengths r e h = record { short = h.short; long = h.long }

module _ (job : Job) where
  ended_for : (used : Option Replacement) (e : Ended) → IsEndedOver job used e → IsEndedFor job used e
  ended_for used e h = record {
    decision = subst (λ f. IsDecision job.graph.now job.task (replacement_of_found used f) e.decision) (sym h.found)
        (over_decides job.graph.now job.task used e.decision h.decides);
    found = subst (λ f. IfSome f (IsFound job.graph.now)) (sym h.found) tt;
    measured = h.measured;
  }

  pub some_ended_for : (used : Option Replacement) (e : Option Ended) → IfSome e (IsEndedOver job used) → IfSome e (IsEndedFor job used)
  some_ended_for used None h = tt
  some_ended_for used (Some e) h = ended_for used e h

  pub some_found_for : (used : Option Replacement) (e : Option Ended) → IfSome e (IsEndedWithFound job) → IfSome e (IsEndedFor job used)
  some_found_for used None h = tt
  some_found_for used (Some e) h = h used

  ended_over_found : (r : Replacement) (e : Ended) → IsFound job.graph.now r → IsEndedOver job (Some r) e → IsEndedWithFound job (over_replacement r e)
  ended_over_found r e found h = λ used. record {
    decision = over_decides job.graph.now job.task (Some r) e.decision h.decides;
    found = found;
    measured = measured_over (lengths_of job.limits) r e h.measured;
  }

  pub some_ended_over : (r : Replacement) (e : Option Ended) → IsFound job.graph.now r → IfSome e (IsEndedOver job (Some r)) → IfSome (option_map (over_replacement r) e) (IsEndedWithFound job)
  some_ended_over r None found h = tt
  some_ended_over r (Some e) found h = ended_over_found r e found h
