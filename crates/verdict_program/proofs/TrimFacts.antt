-- What follows from an answer of `trim`.
use Rattle.std.proofs.Common.{◌≡◌, refl, subst, sym, inl, inr}
use Rattle.command_core.specs.declared.stop.Stop.TheVariants as stop
use Rattle.command_line.specs.declared.command.Command.TheVariants.{Check, Trim}
use Rattle.graph_core.specs.declared.claim.Claim.{Claim}
use Rattle.command_core.specs.Files.{LeavesFiles, TrimmedFiles, texts_of}
use Rattle.joint_checker.specs.Outcome.{IsOutcome}
use Rattle.joint_checker.specs.declared.checked.Checked.{Checked}
use Rattle.joint_checker.specs.declared.checked.Checked.TheVariants as checked
use Rattle.mv_desk.specs.View.{View}
use Rattle.pair_trim.specs.Trimming.{IsTrimAnswer, IsTrimDue, checked_of}
use Rattle.pair_trim.specs.declared.answer.TrimAnswer.{TrimAnswer}
use Rattle.pair_trim.specs.declared.answer.TrimAnswer.TheVariants as trim
use Rattle.pair_trim.proofs.HeldPairs.{trimmed_pairs_are_held}
use Rattle.verdict_program.specs.declared.answer.Answer.TheVariants as answer
use Rattle.verdict_program.specs.Answer.{status_of, status_of_check, status_of_trim}
use Rattle.verdict_program.specs.Runs.{EndsAsDue, TellsHeld, standard}
use Rattle.verdict_program.proofs.CheckFacts.{check_facts}
use Rattle.verdict_program.proofs.Facts.{Facts, Says, said}

module _ (files : TrimmedFiles) (claim : Claim) (a b : View) (leaves : LeavesFiles files) where
  abbrev Is : TrimAnswer → Type 0
  Is outcome = IsTrimAnswer standard claim files a b outcome

  -- what follows from an answer of `check`, which `trim` has too
  checks : (outcome : Checked) → IsOutcome standard claim files.old a b outcome → Facts (Check files.old claim) a b (answer.Checked outcome)
  checks outcome h = check_facts files.old claim a b outcome h

  says : (outcome : TrimAnswer) → Is outcome → Says (Trim files claim) (answer.Trimmed outcome) a b (status_of_trim outcome)
  says (trim.Trimmed pair) h = (
    said (Check files.old claim) a b (answer.Checked checked.Accepted) (checks checked.Accepted h.0) 0 refl,
    λ told names. trimmed_pairs_are_held standard claim files a b pair (record { held = told; names = names }) leaves h,
  )
  says (trim.Refused why) h = tt
  says (trim.Stopped (stop.Graph at why)) h = tt
  says (trim.Stopped stop.ReadFault) h = h.outcome_is
  says (trim.Stopped stop.WriteFault) h = h.0
  says (trim.Stopped (stop.TooLong at)) h = tt
  says (trim.Stopped stop.Memory) h = tt

  -- what `check` says has the same status
  same_status : (outcome : TrimAnswer) → status_of_trim outcome ≡ status_of_check (checked_of outcome)
  same_status (trim.Trimmed pair) = refl
  same_status (trim.Refused why) = refl
  same_status (trim.Stopped why) = refl

  ends : (outcome : TrimAnswer) → IsOutcome standard claim files.old a b (checked_of outcome) → TellsHeld a →
      (due : TrimAnswer) → IsTrimDue standard claim (texts_of a files.old) due → EndsAsDue (status_of_trim due) (status_of_trim outcome)
  ends outcome h told due k = subst (λ n. EndsAsDue n (status_of_trim outcome)) (sym (same_status due))
      (subst (EndsAsDue (status_of_check (checked_of due))) (sym (same_status outcome)) ((checks (checked_of outcome) h).due told (answer.Checked (checked_of due)) (checked_of due, refl, k)))

  given_as_due : (outcome : TrimAnswer) → Is outcome → TellsHeld a →
      (due : TrimAnswer) → IsTrimDue standard claim (texts_of a files.old) due → EndsAsDue (status_of_trim due) (status_of_trim outcome)
  given_as_due (trim.Trimmed pair) h told due k = ends (trim.Trimmed pair) h.0 told due k
  given_as_due (trim.Refused why) h told due k = ends (trim.Refused why) h.outcome_is told due k
  given_as_due (trim.Stopped (stop.Graph at why)) h told due k = ends (trim.Stopped (stop.Graph at why)) h.outcome_is told due k
  given_as_due (trim.Stopped (stop.TooLong at)) h told due k = ends (trim.Stopped (stop.TooLong at)) h.outcome_is told due k
  given_as_due (trim.Stopped stop.ReadFault) h told due k = inr (inl refl)
  given_as_due (trim.Stopped stop.WriteFault) h told due k = inr (inr (inl refl))
  given_as_due (trim.Stopped stop.Memory) h told due k = inr (inr (inr refl))

  pub trim_facts : (outcome : TrimAnswer) → Is outcome → Facts (Trim files claim) a b (answer.Trimmed outcome)
  trim_facts outcome h = record {
    says = says outcome h;
    due = λ told due k. subst (λ d. EndsAsDue (status_of d) (status_of_trim outcome)) (sym k.1) (given_as_due outcome h told k.0 k.2);
  }
