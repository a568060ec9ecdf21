-- A run that has enough budget ends with status 0, but for a fault or out of memory.
use Rattle.std.proofs.Common.{ℕ, List, ap, refl, sym, subst, inl, inr}
use Rattle.std.specs.Prelude.{None, IfSome}
use Rattle.command_core.specs.Stopping.{GivesDue}
use Rattle.command_line.specs.declared.command.Command.{Command}
use Rattle.command_line.specs.declared.command.Command.TheVariants.{Verify}
use Rattle.joint_prover.specs.Budgets.{IsEnough}
use Rattle.joint_prover.specs.Verdicts.{judgement}
use Rattle.joint_prover.specs.declared.verdict.Verdict.TheVariants as verdict
use Rattle.joint_prover.proofs.CallerLemmas.{enough_is_proved}
use Rattle.mv_desk.specs.View.{View}
use Rattle.verdict_program.specs.declared.answer.Answer.{Answer}
use Rattle.verdict_program.specs.Answer.{status_of, status_of_verify}
use Rattle.verdict_program.specs.EnoughBudget.{HasEnoughBudget}
use Rattle.verdict_program.specs.Runs.{EndsAsDue, EndsWith, IsRight, IsRightOf, standard}
use Rattle.verdict_program.proofs.Asking.{no_command, one_command}
use Rattle.verdict_program.proofs.StopFacts.{gives_as_due}
use Rattle.verdict_program.proofs.VerifyFacts.{status_of_judgement}

module _ (words : List (List ℕ)) (a b c : View) (given : Answer) (status : ℕ) (right : IsRight words a b given) (ends : EndsWith given b c status) (h : HasEnoughBudget words a) where
  abbrev asks : Command
  asks = Verify h.0 h.1

  verify_ends : IsRightOf asks a b given → EndsAsDue 0 (status_of given)
  verify_ends r =
      let told = enough_is_proved standard h.1 h.0 a b r.0 r.1 r.3.0 in
      subst (λ x. EndsAsDue 0 (status_of x)) (sym r.2)
      (subst (EndsAsDue 0) (status_of_judgement r.0)
      (gives_as_due a b verdict.Stopped status_of_verify (λ why. refl) (verdict.Proved None) (judgement r.0)
      (subst (λ o. IfSome o (λ file. IsEnough standard.graph h.1 file → GivesDue verdict.Stopped a b (verdict.Proved None) (judgement r.0))) h.4 told h.5)))

  answer_ends : IsRight words a b given → EndsAsDue 0 (status_of given)
  answer_ends (inl none) = absurd (no_command words asks h.2 none.1)
  answer_ends (inr (inl memory)) = inr (inr (inr (ap status_of memory.0)))
  answer_ends (inr (inr r)) = verify_ends (subst (λ command. IsRightOf command a b given) (one_command words r.0 asks r.1 h.2) r.2)

  pub run_has_enough : EndsAsDue 0 status
  run_has_enough = go ends
    where
      go : EndsWith given b c status → EndsAsDue 0 status
      go (inl e) = subst (EndsAsDue 0) (sym e.0) (answer_ends right)
      go (inr e) = inr (inr (inl e.0))
