-- What follows from an answer of `trial`.
use Rattle.std.proofs.Common.{ℕ, refl, subst, sym, arith, inl, inr}
use Rattle.command_line.specs.declared.command.Command.TheVariants.{Trial}
use Rattle.joint_prover.specs.declared.note.Note.{Note}
use Rattle.mv_desk.specs.View.{View}
use Rattle.joint_prover.specs.Tries.{IsWithinBudget}
use Rattle.joint_prover.specs.Verdicts.{IsFirstAbove}
use Rattle.graph_core.specs.Aiger.Writing.{ascii_text}
use Rattle.graph_core.specs.declared.profile.Profile.TheVariants.{Multiplier as TwoOperands}
use Rattle.graph_core.proofs.OfTexts.CallerLemmas.{one_graph}
use Rattle.verdict_program.specs.declared.answer.Answer.TheVariants as answer
use Rattle.verdict_program.specs.declared.sample.Sample.{Sample}
use Rattle.verdict_program.specs.declared.tested.Tested.{Tested}
use Rattle.verdict_program.specs.declared.tested.Tested.TheVariants as tested
use Rattle.verdict_program.specs.Answer.{status_of, status_of_trial}
use Rattle.verdict_program.specs.Making.{sample_graph}
use Rattle.verdict_program.specs.Runs.{EndsAsDue}
use Rattle.verdict_program.specs.Trial.{IsTestDue, IsTested, IsUndecidedWith, OfMade, multiplier_of, sample_of, trial_task}
use Rattle.verdict_program.proofs.Facts.{Facts, Says}

-- a frontier above the budget, and none
undecided_not_due : (sample : Sample) (step size : ℕ) (n : Note) → OfMade sample (IsUndecidedWith step size n) →
    OfMade sample (λ g. IsWithinBudget g trial_task.claim trial_task.budget) → ⊥
undecided_not_due sample step size n h k =
    let first : IsFirstAbove h.0 trial_task.claim trial_task.budget step size = h.2.first in
    let within = subst (λ g. IsWithinBudget g trial_task.claim trial_task.budget) (one_graph TwoOperands (ascii_text (sample_graph sample)) k.0 h.0 k.1 h.1) k.2 in
    let low = within step size first.size in
    let high = first.above in
    omega arith

module _ (number : ℕ) (a b : View) where
  abbrev Is : Tested → Type 0
  Is outcome = IsTested (multiplier_of number) outcome

  says : (outcome : Tested) → Is outcome → Says (Trial number) (answer.Tested outcome) a b (status_of_trial outcome)
  says (tested.Accepted m n) h = (n, h.1)
  says (tested.Undecided m step size n) h = (step, size, n, h.1)
  says tested.Memory h = tt

  as_due : (due given : Tested) → IsTestDue (sample_of number) due → Is given → EndsAsDue (status_of_trial due) (status_of_trial given)
  as_due (tested.Accepted m n) (tested.Accepted l o) k h = inl refl
  as_due (tested.Accepted m n) (tested.Undecided l step size o) k h = absurd (undecided_not_due (sample_of number) step size o h.1 k)
  as_due (tested.Accepted m n) tested.Memory k h = inr (inr (inr refl))
  as_due (tested.Undecided m step size n) given k h = absurd k
  as_due tested.Memory given k h = absurd k

  pub trial_facts : (outcome : Tested) → Is outcome → Facts (Trial number) a b (answer.Tested outcome)
  trial_facts outcome h = record {
    says = says outcome h;
    due = λ told due k. subst (λ d. EndsAsDue (status_of d) (status_of_trial outcome)) (sym k.1) (as_due k.0 outcome k.2 h);
  }
