-- What follows from an answer of `eval`.
use Rattle.mv_desk.specs.declared.slot.Slot.TheVariants as slot
use Rattle.std.proofs.Common.{◌≡◌, ℕ, List, Option, Some, None, refl, subst, sym, inl}
use Rattle.std.specs.Prelude.{IsSome}
use Rattle.command_core.specs.Stopping.{GivesDue, IsGraphStop}
use Rattle.command_core.proofs.CallerLemmas.{stop_gives}
use Rattle.command_line.specs.declared.command.Command.TheVariants.{Eval}
use Rattle.command_line.specs.declared.point.Point.{Point}
use Rattle.mv_desk.specs.View.{View, bytes_under}
use Rattle.verdict_program.specs.declared.answer.Answer.TheVariants as answer
use Rattle.verdict_program.specs.declared.evaluated.Evaluated.{Evaluated}
use Rattle.verdict_program.specs.declared.evaluated.Evaluated.TheVariants as evaluated
use Rattle.verdict_program.specs.Answer.{status_of, status_of_eval}
use Rattle.verdict_program.specs.Evaluation.{IsEvaluated, IsValueDue, profile_at}
use Rattle.verdict_program.specs.Runs.{EndsAsDue, standard}
use Rattle.verdict_program.proofs.Facts.{Facts, Says, stop_says, told_bytes}
use Rattle.verdict_program.proofs.StopFacts.{gives_as_due}
use Rattle.verdict_program.proofs.Told.{none_told}
use Rattle.verdict_program.proofs.ValueDue.{one_value_is_due}

module _ (graph : List ℕ) (point : Point) (a b : View) where
  abbrev Is : Evaluated → Type 0
  Is outcome = IsEvaluated standard.graph graph point a b outcome

  says : (outcome : Evaluated) → Is outcome → Says (Eval graph point) (answer.Evaluated outcome) a b (status_of_eval outcome)
  says (evaluated.Value value) h = tt
  says evaluated.TooGreat h = h
  says (evaluated.Stopped why) h =
      stop_says (Eval graph point) (answer.Evaluated (evaluated.Stopped why)) a b (IsGraphStop slot.Graph (profile_at point) standard.graph (bytes_under a graph)) why h

  -- of a file that is told one answer is due
  one_due : (file : Option (List ℕ)) (given due : Evaluated) → IsSome file → IsValueDue standard.graph file point given → IsValueDue standard.graph file point due → given ≡ due
  one_due None given due told h k = absurd (none_told (List ℕ) told)
  one_due (Some bytes) given due told h k = (one_value_is_due standard.graph bytes point).one given due h k

  -- it is given, or what interrupts
  gives : (outcome : Evaluated) → Is outcome → (due : Evaluated) → IsSome (bytes_under a graph) → IsValueDue standard.graph (bytes_under a graph) point due → GivesDue evaluated.Stopped a b due outcome
  gives (evaluated.Value value) h due told k = inl (one_due (bytes_under a graph) (evaluated.Value value) due told h k)
  gives evaluated.TooGreat h due told k = inl (one_due (bytes_under a graph) evaluated.TooGreat due told h k)
  gives (evaluated.Stopped why) h due told k = stop_gives (IsGraphStop slot.Graph (profile_at point) standard.graph (bytes_under a graph)) a b evaluated.Stopped due why (λ stops. one_due (bytes_under a graph) (evaluated.Stopped why) due told (inl (why, stops, refl)) k) h

  pub eval_facts : (outcome : Evaluated) → Is outcome → Facts (Eval graph point) a b (answer.Evaluated outcome)
  eval_facts outcome h = record {
    says = says outcome h;
    due = λ told due k. subst (λ d. EndsAsDue (status_of d) (status_of_eval outcome)) (sym k.1)
        (gives_as_due a b evaluated.Stopped status_of_eval (λ why. refl) k.0 outcome (gives outcome h k.0 (told_bytes a told graph) k.2));
  }
