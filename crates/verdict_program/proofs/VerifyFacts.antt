-- What follows from an answer of `verify`.
use Rattle.std.proofs.Common.{◌≡◌, Option, Some, None, refl, subst, sym}
use Rattle.std.specs.Prelude.{⊤}
use Rattle.command_line.specs.declared.command.Command.TheVariants.{Verify}
use Rattle.command_core.specs.Files.{AreDistinct, Files}
use Rattle.command_core.specs.declared.stop.Stop.TheVariants as stop
use Rattle.command_core.specs.declared.task.Task.{Task}
use Rattle.joint_prover.specs.declared.note.Note.{Note}
use Rattle.joint_prover.specs.Notes.{IsNote, replacement_of}
use Rattle.joint_prover.specs.Tries.{AreTried}
use Rattle.graph_core.specs.Graph.{Aig}
use Rattle.joint_prover.specs.declared.replacement.Replacement.{Replacement}
use Rattle.joint_prover.specs.Verdicts.{HasNote, IsVerdict, judgement}
use Rattle.joint_prover.specs.declared.verdict.Verdict.{Verdict}
use Rattle.joint_prover.specs.declared.verdict.Verdict.TheVariants as verdict
use Rattle.joint_prover.proofs.CallerLemmas.{proved_pairs_are_held, verdicts_are_exact}
use Rattle.mv_desk.specs.View.{View}
use Rattle.verdict_program.specs.declared.answer.Answer.TheVariants as answer
use Rattle.verdict_program.specs.Answer.{status_of, status_of_verify}
use Rattle.verdict_program.specs.Runs.{EndsAsDue, standard}
use Rattle.verdict_program.proofs.Facts.{Facts, Says}
use Rattle.verdict_program.proofs.StopFacts.{gives_as_due}

-- the status says nothing of lengths
pub status_of_judgement : (v : Verdict) → status_of_verify (judgement v) ≡ status_of_verify v
status_of_judgement (verdict.Proved long) = refl
status_of_judgement (verdict.Wrong d) = refl
status_of_judgement (verdict.Undecided tried step size seen) = refl
status_of_judgement (verdict.Stopped why) = refl

module _ (files : Files) (task : Task) (a b : View) (apart : AreDistinct files.graph files.clauses files.algebra) (noted : Option Note) where
  abbrev Is : Verdict → Type 0
  Is outcome = IsVerdict standard task files a b outcome noted

  note_there : (g : Aig) (P : Option Replacement → Type 0) → HasNote g task noted P → (n : Note) × IsNote g task.claim task.conflicts n × P (replacement_of n)
  note_there g P h = go noted h
    where
      go : (told : Option Note) → HasNote g task told P → (n : Note) × IsNote g task.claim task.conflicts n × P (replacement_of n)
      go None k = absurd k
      go (Some n) k = (n, k.0, k.1)

  says : (outcome : Verdict) → Is outcome → Says (Verify files task) (answer.Verified outcome noted) a b (status_of_verify outcome)
  says (verdict.Proved long) h = λ told names.
      let pair = proved_pairs_are_held standard task files a b long noted (record { held = told; names = names }) apart h in
      (noted, long, refl, pair.0, pair.1)
  says (verdict.Wrong d) h = let r = h.0 in let n = note_there r.0 (λ used. ⊤) r.2.1 in (r.0, r.1, ((d, r.2.0), (n.0, n.1)))
  says (verdict.Undecided tried step size seen) h =
      let r = h.0 in let n = note_there r.0 (λ used. AreTried r.0 task.claim task.budget used tried.items) r.2.1 in (r.0, r.1, (step, size, r.2.0, (n.0, n.1, tried.items, n.2), r.2.2))
  says (verdict.Stopped (stop.Graph at why)) h = tt
  says (verdict.Stopped stop.ReadFault) h = h.0
  says (verdict.Stopped stop.WriteFault) h = h.0
  says (verdict.Stopped (stop.TooLong at)) h = tt
  says (verdict.Stopped stop.Memory) h = tt

  pub verify_facts : (outcome : Verdict) → Is outcome → Facts (Verify files task) a b (answer.Verified outcome noted)
  verify_facts outcome h = record {
    says = says outcome h;
    due = λ told due k. subst (λ d. EndsAsDue (status_of d) (status_of_verify outcome)) (sym k.2)
        (subst (EndsAsDue (status_of_verify k.0)) (status_of_judgement outcome)
        (let file = k.3 in gives_as_due a b verdict.Stopped status_of_verify (λ why. refl) k.0 (judgement outcome)
        (verdicts_are_exact standard task files a b file.0 k.0 outcome noted file.1 file.2 h)));
  }
