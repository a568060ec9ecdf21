-- What follows from an answer of `make`.
use Rattle.std.proofs.Common.{ℕ, List, refl, subst, sym, inl, inr}
use Rattle.command_core.specs.declared.stop.Stop.TheVariants as stop
use Rattle.command_line.specs.declared.command.Command.TheVariants.{Make}
use Rattle.command_line.specs.declared.making.Making.{Making}
use Rattle.mv_desk.specs.View.{View}
use Rattle.verdict_program.specs.declared.answer.Answer.TheVariants as answer
use Rattle.verdict_program.specs.declared.made.Made.{Made}
use Rattle.verdict_program.specs.declared.made.Made.TheVariants as made
use Rattle.graph_maker.specs.Designed.{designed}
use Rattle.verdict_program.specs.Answer.{status_of, status_of_make}
use Rattle.verdict_program.specs.Making.{IsMade, text_for}
use Rattle.verdict_program.specs.Runs.{EndsAsDue}
use Rattle.verdict_program.proofs.Facts.{Facts, Says}
use Rattle.verdict_program.proofs.MakingLemmas.{written_is_held}

module _ (making : Making) (out : List ℕ) (a b : View) where
  abbrev Is : Made → Type 0
  Is outcome = IsMade (text_for out (designed making.design making.bits making.adder)) out a b outcome

  says : (outcome : Made) → Is outcome → Says (Make making out) (answer.Made outcome) a b (status_of_make outcome)
  says made.Written h = λ told names. written_is_held out (text_for out (designed making.design making.bits making.adder)) a b told names h
  says (made.Stopped stop.WriteFault) h = h.0
  says (made.Stopped stop.Memory) h = tt
  says (made.Stopped stop.ReadFault) h = absurd h
  says (made.Stopped (stop.Graph at why)) h = absurd h
  says (made.Stopped (stop.TooLong at)) h = absurd h

  given_as_due : (given : Made) → Is given → EndsAsDue 0 (status_of_make given)
  given_as_due made.Written h = inl refl
  given_as_due (made.Stopped stop.WriteFault) h = inr (inr (inl refl))
  given_as_due (made.Stopped stop.Memory) h = inr (inr (inr refl))
  given_as_due (made.Stopped stop.ReadFault) h = absurd h
  given_as_due (made.Stopped (stop.Graph at why)) h = absurd h
  given_as_due (made.Stopped (stop.TooLong at)) h = absurd h

  pub make_facts : (outcome : Made) → Is outcome → Facts (Make making out) a b (answer.Made outcome)
  make_facts outcome h = record {
    says = says outcome h;
    due = λ told due k. subst (λ d. EndsAsDue (status_of d) (status_of_make outcome)) (sym k) (given_as_due outcome h);
  }
