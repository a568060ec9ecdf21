-- Of three files that are told just one answer is due, and what has its cause is that answer, or a stop that interrupts.
use Rattle.std.proofs.Common.{ℕ, List, Option, Some, None, refl, inl, inr}
use Rattle.std.specs.Prelude.{IsSome}
use Rattle.algebra_core.specs.AlgebraLines.{Premises}
use Rattle.algebra_core.specs.Refusal.{AlgebraCause}
use Rattle.algebra_core.proofs.CallerLemmas.{algebra_is_exact, premises_are_kept}
use Rattle.algebra_judge.specs.Faults as algebraic
use Rattle.clause_judge.specs.Faults as clausal
use Rattle.clause_judge.specs.Faults.{ClauseFault}
use Rattle.command_core.specs.Files.{texts_of}
use Rattle.command_core.specs.InOrder.{IsOneDue}
use Rattle.command_core.specs.Stopping.{GivesDue}
use Rattle.command_core.proofs.CallerLemmas.{caused_is_due, one_last, one_over_graph, one_then, stopped_is_due}
use Rattle.graph_core.specs.Graph.{Aig}
use Rattle.graph_core.specs.Graph.Operands.{Sides, profile_of, sides_for}
use Rattle.graph_core.specs.Text.JudgedLines.{IsExact, Lengths}
use Rattle.graph_core.specs.declared.claim.Claim.{Claim}
use Rattle.graph_core.proofs.OfTexts.CallerLemmas.{exact_as, exact_map}
use Rattle.mv_desk.specs.declared.limits.Limits.{Limits}
use Rattle.mv_desk.specs.declared.slot.Slot.TheVariants as slot
use Rattle.mv_text.specs.LineReading.{lengths_of}
use Rattle.pair_core.specs.ClauseFiles.{ArePremisesOf, GivesPremises}
use Rattle.joint_checker.specs.Answers.{answer_of_algebra, answer_of_clauses}
use Rattle.joint_checker.specs.Outcome.{IsAlgebraDue, IsDue, IsDueOver, IsOutcome, OneAnswerIsDue, OutcomesAreExact, RefusesClauses}
use Rattle.joint_checker.specs.declared.checked.Checked.{Checked}
use Rattle.joint_checker.specs.declared.checked.Checked.TheVariants as checked
use Rattle.joint_checker.proofs.ClauseWholes.{clauses_are_exact}
use Rattle.joint_checker.proofs.Joined.{gives_bounds, gives_of}

-- ---- the certificates, over a graph

module _ (lengths : Lengths) (claim : Claim) (clauses algebra : List ℕ) (g : Aig) where
  abbrev sides : Sides
  sides = sides_for claim g

  abbrev Gives : Premises → Type 0
  Gives p = ArePremisesOf g p × GivesPremises lengths g clauses p

  gives_or_refused : IsExact ((p : Premises) × Gives p) (RefusesClauses lengths g (Some clauses))
  gives_or_refused = exact_map (λ (f : ClauseFault). answer_of_clauses (clausal.fail_of f))
      (exact_as (λ h. (h.0, (gives_of lengths g clauses h.0 h.1, h.1))) (λ h. (h.0, h.1.1)) (λ c r. r) (λ c r. r) (clauses_are_exact.exact lengths g clauses))

  -- premises that say the same have the same answers
  same_due : (p q : Premises) → Gives p → Gives q → (answer : Checked) → IsAlgebraDue lengths sides (Some algebra) p answer → IsAlgebraDue lengths sides (Some algebra) q answer
  same_due p q h k answer (inl r) = inl (r.0, premises_are_kept.refused p q (clauses_are_exact.one lengths g clauses p q h.1 k.1) sides lengths algebra r.0 r.1, r.2)
  same_due p q h k answer (inr l) = inr ((premises_are_kept.lawful p q (clauses_are_exact.one lengths g clauses p q h.1 k.1) sides algebra l.0.0, l.0.1), l.1)

  one_of_algebra : (p : Premises) → Gives p → IsOneDue (IsAlgebraDue lengths sides (Some algebra) p)
  one_of_algebra p h = one_last checked.Accepted
      (exact_map (λ (f : ℕ × AlgebraCause). answer_of_algebra (algebraic.fail_of f)) (algebra_is_exact p sides lengths algebra (gives_bounds lengths g clauses p h.1)))

  one_of_pair : (file : Option (List ℕ)) → IsOneDue (IsDueOver lengths claim (record { graph = file; clauses = Some clauses; algebra = Some algebra }) g)
  one_of_pair file = one_then Gives (RefusesClauses lengths g (Some clauses)) (IsAlgebraDue lengths sides (Some algebra)) gives_or_refused same_due one_of_algebra

-- ---- three files that are told

one_of : (limits : Limits) (claim : Claim) (file clauses algebra : Option (List ℕ)) → IsSome file → IsSome clauses → IsSome algebra →
    IsOneDue (IsDue limits claim (record { graph = file; clauses = clauses; algebra = algebra }))
one_of limits claim (Some file) (Some clauses) (Some algebra) f c a =
    one_over_graph checked.Stopped slot.Graph (profile_of claim.widths) limits.graph file
    (IsDueOver (lengths_of limits) claim (record { graph = Some file; clauses = Some clauses; algebra = Some algebra }))
    (λ g spells. one_of_pair (lengths_of limits) claim clauses algebra g (Some file))
one_of limits claim None clauses algebra f c a = absurd (cc)
one_of limits claim (Some file) None algebra f c a = absurd (cc)
one_of limits claim (Some file) (Some clauses) None f c a = absurd (cc)

pub one_answer_is_due : OneAnswerIsDue
one_answer_is_due limits claim texts told = one_of limits claim texts.graph texts.clauses texts.algebra told.graph_told told.clauses_told told.algebra_told

pub outcomes_are_exact : OutcomesAreExact
outcomes_are_exact limits claim files before after given h told = go given h
  where
    one : IsOneDue (IsDue limits claim (texts_of before files))
    one = one_answer_is_due limits claim (texts_of before files) told

    go : (answer : Checked) → IsOutcome limits claim files before after answer → (due : Checked) → IsDue limits claim (texts_of before files) due → GivesDue checked.Stopped before after due answer
    go checked.Accepted (g, spelled, (p, of, gives, (lawful, does))) =
        caused_is_due checked.Stopped (IsDue limits claim (texts_of before files)) one before after checked.Accepted (inr (g, spelled, inr (p, (of, gives), inr (lawful, refl))))
    go (checked.Refused why) k = caused_is_due checked.Stopped (IsDue limits claim (texts_of before files)) one before after (checked.Refused why) k
    go (checked.Stopped why) k = stopped_is_due checked.Stopped (IsDue limits claim (texts_of before files)) one before after why k
