-- What follows from an answer of `same`.
use Rattle.std.proofs.Common.{ℕ, refl, subst, sym}
use Rattle.command_line.specs.Asked.{LeavesGraphs}
use Rattle.command_line.specs.declared.command.Command.TheVariants.{Same}
use Rattle.command_core.specs.Files.{ComparedFiles}
use Rattle.command_core.specs.declared.stop.Stop.TheVariants as stop
use Rattle.mv_desk.specs.View.{View}
use Rattle.same_core.specs.Deciding.{IsCompared, IsPairDue}
use Rattle.same_core.specs.Files.{compared_texts_of}
use Rattle.same_core.proofs.HeldEqual.{equal_pairs_are_held}
use Rattle.same_core.proofs.OnPairs.{pair_answers_are_exact}
use Rattle.same_core.specs.declared.verdict.Same as compared
use Rattle.same_core.specs.declared.verdict.Same.TheVariants as same
use Rattle.verdict_program.specs.declared.answer.Answer.TheVariants as answer
use Rattle.verdict_program.specs.Answer.{status_of, status_of_same}
use Rattle.verdict_program.specs.Runs.{EndsAsDue, TellsHeld, standard}
use Rattle.verdict_program.proofs.Facts.{Facts, Says, told_bytes}
use Rattle.verdict_program.proofs.PairLemmas.{are_the_same}
use Rattle.verdict_program.proofs.StopFacts.{gives_as_due}

module _ (files : ComparedFiles) (conflicts : ℕ) (a b : View) (apart : LeavesGraphs files) where
  abbrev Is : compared.Same → Type 0
  Is outcome = IsCompared standard conflicts files a b outcome

  says : (outcome : compared.Same) → Is outcome → Says (Same files conflicts) (answer.Compared outcome) a b (status_of_same outcome)
  says same.Equal h = let (g, spelled, (other, other_spelled, (shape, (agree, written)))) = h in (
    are_the_same a files g other spelled other_spelled shape agree,
    λ told names. equal_pairs_are_held standard conflicts files a b (record { held = told; names = names }) apart.graph apart.other h,
  )
  says (same.Differs inputs) (p, inspects) = let (g, spelled, (h, other_spelled, (shape, differ))) = p in (g, spelled, (h, other_spelled, (shape, (inputs.items, differ))))
  says (same.Spent lemmas goal log) (p, inspects) = let (g, spelled, (h, other_spelled, (shape, spent))) = p in (g, spelled, (h, other_spelled, (shape, (lemmas, goal, log, spent))))
  says same.Shapes h = tt
  says (same.Stopped (stop.Graph at why)) h = tt
  says (same.Stopped stop.ReadFault) h = h.0
  says (same.Stopped stop.WriteFault) h = h.0
  says (same.Stopped (stop.TooLong at)) h = tt
  says (same.Stopped stop.Memory) h = tt

  given_as_due : (outcome : compared.Same) → Is outcome → TellsHeld a → (due : compared.Same) → IsPairDue standard (compared_texts_of a files) due → EndsAsDue (status_of_same due) (status_of_same outcome)
  given_as_due outcome h told due k =
      gives_as_due a b same.Stopped status_of_same (λ why. refl) due outcome (pair_answers_are_exact standard conflicts files a b outcome (told_bytes a told files.graph) (told_bytes a told files.other) h due k)

  pub same_facts : (outcome : compared.Same) → Is outcome → Facts (Same files conflicts) a b (answer.Compared outcome)
  same_facts outcome h = record {
    says = says outcome h;
    due = λ told due k. subst (λ d. EndsAsDue (status_of d) (status_of_same outcome)) (sym k.1) (given_as_due outcome h told k.0 k.2);
  }
