-- What follows from an answer of `check`.
use Rattle.std.proofs.Common.{refl, subst, sym}
use Rattle.aiger_reader.specs.Refusals.{SpellsWithin}
use Rattle.command_line.specs.declared.command.Command.TheVariants.{Check}
use Rattle.graph_core.specs.Graph.Operands.{profile_of}
use Rattle.graph_core.specs.declared.claim.Claim.{Claim}
use Rattle.command_core.specs.Files.{Files, texts_of}
use Rattle.joint_checker.specs.Outcome.{IsDue, IsOutcome}
use Rattle.joint_checker.proofs.DueRows.{outcomes_are_exact}
use Rattle.joint_checker.specs.declared.checked.Checked.{Checked}
use Rattle.joint_checker.specs.declared.checked.Checked.TheVariants as checked
use Rattle.mv_desk.specs.View.{View, bytes_under}
use Rattle.verdict_program.specs.declared.answer.Answer.TheVariants as answer
use Rattle.verdict_program.specs.Answer.{status_of, status_of_check}
use Rattle.verdict_program.specs.Runs.{EndsAsDue, TellsHeld, standard}
use Rattle.verdict_program.proofs.StopFacts.{gives_as_due}
use Rattle.verdict_program.proofs.Facts.{Facts, Says, stop_says, told_bytes}
use Rattle.verdict_program.proofs.Told.{some_more}

module _ (files : Files) (claim : Claim) (a b : View) where
  abbrev Is : Checked → Type 0
  Is outcome = IsOutcome standard claim files a b outcome

  says : (outcome : Checked) → Is outcome → Says (Check files claim) (answer.Checked outcome) a b (status_of_check outcome)
  says checked.Accepted h =
      some_more (bytes_under a files.graph) (λ bytes. SpellsWithin (profile_of claim.widths) standard.graph bytes h.0) _ (λ bytes spelled. (h.0, spelled.spells, h.2.3.1)) h.1
  says (checked.Refused why) h = tt
  says (checked.Stopped why) h = stop_says (Check files claim) (answer.Checked (checked.Stopped why)) a b (λ stop. IsDue standard claim (texts_of a files) (checked.Stopped stop)) why h

  given_as_due : (outcome : Checked) → Is outcome → TellsHeld a → (due : Checked) → IsDue standard claim (texts_of a files) due → EndsAsDue (status_of_check due) (status_of_check outcome)
  given_as_due outcome h told due k =
      gives_as_due a b checked.Stopped status_of_check (λ why. refl) due outcome (outcomes_are_exact standard claim files a b outcome h
      (record { graph_told = told_bytes a told files.graph; clauses_told = told_bytes a told files.clauses; algebra_told = told_bytes a told files.algebra }) due k)

  pub check_facts : (outcome : Checked) → Is outcome → Facts (Check files claim) a b (answer.Checked outcome)
  check_facts outcome h = record {
    says = says outcome h;
    due = λ told due k. subst (λ d. EndsAsDue (status_of d) (status_of_check outcome)) (sym k.1) (given_as_due outcome h told k.0 k.2);
  }
