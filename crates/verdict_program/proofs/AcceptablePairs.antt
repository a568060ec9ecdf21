-- A pair that is held and within the limits is one that `check` is to accept.
use Rattle.std.specs.Prelude.{ℕ, List, IfSome}
use Rattle.std.specs.declared.option.Option.{Option}
use Rattle.std.specs.declared.option.Option.TheVariants.{None}
use Rattle.std.proofs.Common.{refl, sym, subst, inr}
use Rattle.aiger_reader.specs.Refusals.{SpellsWithin}
use Rattle.algebra_core.specs.AlgebraLines.{Premises}
use Rattle.algebra_core.specs.Certificates.{IsLawfulAlgebra}
use Rattle.command_core.specs.Files.{Files}
use Rattle.graph_core.specs.Graph.{Aig}
use Rattle.graph_core.specs.Graph.Operands.{profile_of, sides_for}
use Rattle.graph_core.specs.Text.JudgedLines.{IsWithin}
use Rattle.joint_prover.specs.Verdicts.{HoldsPair, IsFirstTooLongHeld}
use Rattle.joint_prover.specs.declared.note.Note.{Note}
use Rattle.command_core.specs.declared.task.Task.{Task}
use Rattle.mv_desk.specs.View.{View, bytes_under}
use Rattle.mv_text.specs.LineReading.{lengths_of}
use Rattle.pair_core.specs.Certificates.{IsLawfulPair}
use Rattle.pair_core.specs.ClauseFiles.{ArePremisesOf, GivesPremises}
use Rattle.pair_limits.specs.TooLong.{IsFirstTooLong}
use Rattle.verdict_program.specs.Runs.{AreAcceptable, standard}

module _ (task : Task) (files : Files) (v : View) (noted : Option Note) (h : HoldsPair task files v standard.graph noted) (short : IsFirstTooLongHeld standard files v None) where
  within : IsWithin (lengths_of standard) h.clause_file × IsWithin (lengths_of standard) h.algebra_file
  within = subst (λ o. IfSome o (λ y. IsFirstTooLong (lengths_of standard) h.clause_file y None)) h.algebra_held
      (subst (λ o. IfSome o (λ x. IfSome (bytes_under v files.algebra) (λ y. IsFirstTooLong (lengths_of standard) x y None))) h.clauses_held short)

  lawful : IsLawfulPair (lengths_of standard) h.graph task.claim h.clause_file h.algebra_file
  lawful = h.pair (lengths_of standard) within.0 within.1

  given_of : (g : Aig) (bytes : List ℕ) (p : Premises) → GivesPremises (lengths_of standard) g bytes p → ArePremisesOf g p
  given_of g bytes p k = record { header = k.header; takes = k.lawful.takes; version = k.same.version; extended = k.same.extended }

  pub short_is_acceptable : AreAcceptable v files task.claim
  short_is_acceptable =
      let spelled = subst (λ o. IfSome o (λ bytes. SpellsWithin (profile_of task.claim.widths) standard.graph bytes h.graph)) (sym h.graph_held) h.spells in
      let gives = subst (λ o. IfSome o (λ bytes. GivesPremises (lengths_of standard) h.graph bytes lawful.premises)) (sym h.clauses_held) lawful.gives in
      let good = subst (λ o. IfSome o (IsLawfulAlgebra (lengths_of standard) lawful.premises (sides_for task.claim h.graph))) (sym h.algebra_held) lawful.lawful in
      inr (h.graph, spelled, inr (lawful.premises, (given_of h.graph h.clause_file lawful.premises lawful.gives, gives), inr (good, refl)))
