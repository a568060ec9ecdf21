-- What follows from a stop, whichever command has no answer of its own.
use Rattle.std.proofs.Common.{◌≡◌, ◌∙◌, ℕ, refl, ap, subst, sym, inl, inr}
use Rattle.command_core.specs.Stopping.{GivesDue, Interrupts}
use Rattle.command_core.specs.declared.stop.Stop.{Stop}
use Rattle.command_core.specs.declared.stop.Stop.TheVariants as stop
use Rattle.mv_desk.specs.View.{View}
use Rattle.verdict_program.specs.Stops.{status_of_stop}
use Rattle.verdict_program.specs.Runs.{EndsAsDue}

module _ (a b : View) where
  -- what comes in place of an answer that is due
  interrupted : (due : ℕ) (why : Stop) → Interrupts a b why → EndsAsDue due (status_of_stop why)
  interrupted due (stop.Graph at fail) h = absurd h
  interrupted due stop.ReadFault h = inr (inl refl)
  interrupted due stop.WriteFault h = inr (inr (inl refl))
  interrupted due (stop.TooLong at) h = absurd h
  interrupted due stop.Memory h = inr (inr (inr refl))

  pub gives_as_due : {A : Type 0} (stopped : Stop → A) (status : A → ℕ) → ((why : Stop) → status (stopped why) ≡ status_of_stop why) →
      (due given : A) → GivesDue stopped a b due given → EndsAsDue (status due) (status given)
  gives_as_due stopped status is due given (inl same) = inl (ap status same)
  gives_as_due stopped status is due given (inr h) = subst (EndsAsDue (status due)) (sym (ap status h.1 ∙ is h.0)) (interrupted (status due) h.0 h.2)
