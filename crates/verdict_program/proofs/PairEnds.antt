-- A run of `same` over two graphs of one shape.
use Rattle.std.proofs.Common.{ℕ, List, refl, ap, sym, subst, inl, inr}
use Rattle.command_core.specs.declared.stop.Stop.TheVariants as stop
use Rattle.command_line.specs.declared.command.Command.{Command}
use Rattle.command_line.specs.declared.command.Command.TheVariants.{Same}
use Rattle.mv_desk.specs.View.{View}
use Rattle.same_core.specs.Deciding.{IsOnPair}
use Rattle.same_core.proofs.OnPairs.{pairs_are_decided}
use Rattle.same_core.specs.declared.verdict.Same as compared
use Rattle.same_core.specs.declared.verdict.Same.TheVariants as same
use Rattle.verdict_program.specs.declared.answer.Answer.{Answer}
use Rattle.verdict_program.specs.Answer.{status_of, status_of_same}
use Rattle.verdict_program.specs.Runs.{EndsOnPair, EndsWith, HasPairAsked, IsRight, IsRightOf, standard}
use Rattle.verdict_program.proofs.Asking.{no_command, one_command}

on_pair : (outcome : compared.Same) → IsOnPair outcome → EndsOnPair (status_of_same outcome)
on_pair same.Equal h = inl refl
on_pair (same.Differs inputs) h = inr (inl refl)
on_pair (same.Spent lemmas goal log) h = inr (inr (inl refl))
on_pair same.Shapes h = absurd h
on_pair (same.Stopped stop.ReadFault) h = inr (inr (inr (inl refl)))
on_pair (same.Stopped stop.WriteFault) h = inr (inr (inr (inr (inl refl))))
on_pair (same.Stopped stop.Memory) h = inr (inr (inr (inr (inr refl))))
on_pair (same.Stopped (stop.Graph at why)) h = absurd h
on_pair (same.Stopped (stop.TooLong at)) h = absurd h

module _ (words : List (List ℕ)) (a b c : View) (given : Answer) (status : ℕ) (right : IsRight words a b given) (ends : EndsWith given b c status) (h : HasPairAsked words a) where
  abbrev asks : Command
  asks = Same h.0 h.1

  same_ends : IsRightOf asks a b given → EndsOnPair (status_of given)
  same_ends r =
      subst (λ x. EndsOnPair (status_of x)) (sym r.1) (on_pair r.0 (pairs_are_decided standard h.1 h.0 a b r.0 h.3 r.2.0))

  answer_ends : IsRight words a b given → EndsOnPair (status_of given)
  answer_ends (inl none) = absurd (no_command words asks h.2 none.1)
  answer_ends (inr (inl memory)) = inr (inr (inr (inr (inr (ap status_of memory.0)))))
  answer_ends (inr (inr r)) = same_ends (subst (λ command. IsRightOf command a b given) (one_command words r.0 asks r.1 h.2) r.2)

  pub run_ends_on_pair : EndsOnPair status
  run_ends_on_pair = go ends
    where
      go : EndsWith given b c status → EndsOnPair status
      go (inl e) = subst EndsOnPair (sym e.0) (answer_ends right)
      go (inr e) = inr (inr (inr (inr (inl e.0))))
