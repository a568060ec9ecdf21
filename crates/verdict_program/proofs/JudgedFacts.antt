-- What follows from an answer of `check-same`.
use Rattle.std.proofs.Common.{refl, subst, sym}
use Rattle.command_line.specs.declared.command.Command.TheVariants.{CheckSame}
use Rattle.command_core.specs.Files.{ComparedFiles}
use Rattle.mv_desk.specs.View.{View}
use Rattle.same_core.specs.Files.{compared_texts_of}
use Rattle.same_core.specs.Outcome.{IsPairCheckDue, IsPairOutcome}
use Rattle.same_core.proofs.DueRows.{outcomes_are_exact}
use Rattle.same_core.specs.declared.checked.SameChecked.{SameChecked}
use Rattle.same_core.specs.declared.checked.SameChecked.TheVariants as judged
use Rattle.verdict_program.specs.declared.answer.Answer.TheVariants as answer
use Rattle.verdict_program.specs.Answer.{status_of, status_of_judged}
use Rattle.verdict_program.specs.Runs.{EndsAsDue, TellsHeld, standard}
use Rattle.verdict_program.proofs.Facts.{Facts, Says, stop_says, told_bytes}
use Rattle.verdict_program.proofs.PairLemmas.{are_the_same}
use Rattle.verdict_program.proofs.StopFacts.{gives_as_due}

module _ (files : ComparedFiles) (a b : View) where
  abbrev Is : SameChecked → Type 0
  Is outcome = IsPairOutcome standard files a b outcome

  says : (outcome : SameChecked) → Is outcome → Says (CheckSame files) (answer.Judged outcome) a b (status_of_judged outcome)
  says judged.Accepted (g, spelled, (h, other_spelled, (shape, (lawful, agree)))) = are_the_same a files g h spelled other_spelled shape agree
  says (judged.Refused why) h = tt
  says judged.Shapes h = tt
  says (judged.Stopped why) h = stop_says (CheckSame files) (answer.Judged (judged.Stopped why)) a b (λ stop. IsPairCheckDue standard (compared_texts_of a files) (judged.Stopped stop)) why h

  given_as_due : (outcome : SameChecked) → Is outcome → TellsHeld a → (due : SameChecked) → IsPairCheckDue standard (compared_texts_of a files) due → EndsAsDue (status_of_judged due) (status_of_judged outcome)
  given_as_due outcome h told due k =
      gives_as_due a b judged.Stopped status_of_judged (λ why. refl) due outcome (outcomes_are_exact standard files a b outcome h
      (record { graph_told = told_bytes a told files.graph; other_told = told_bytes a told files.other; clauses_told = told_bytes a told files.clauses }) due k)

  pub judged_facts : (outcome : SameChecked) → Is outcome → Facts (CheckSame files) a b (answer.Judged outcome)
  judged_facts outcome h = record {
    says = says outcome h;
    due = λ told due k. subst (λ d. EndsAsDue (status_of d) (status_of_judged outcome)) (sym k.1) (given_as_due outcome h told k.0 k.2);
  }
