-- Of three files that are told just one answer is due, and what has its cause is that answer, or a stop that interrupts.
use Rattle.std.proofs.Common.{ℕ, List, Option, Some, None, refl, inl, inr, ⊎_elim}
use Rattle.std.specs.Prelude.{IsSome, length}
use Rattle.clause_judge.specs.Faults as clausal
use Rattle.clause_judge.specs.Faults.{ClauseFault}
use Rattle.command_core.specs.InOrder.{IsOneDue, OverGraph}
use Rattle.command_core.specs.Stopping.{GivesDue}
use Rattle.command_core.proofs.CallerLemmas.{caused_is_due, one_last, one_over_graph, one_unless, stopped_is_due}
use Rattle.graph_core.specs.declared.profile.Profile.TheVariants.{Any}
use Rattle.graph_core.specs.Graph.{Aig}
use Rattle.graph_core.specs.Text.JudgedLines.{Lengths}
use Rattle.graph_core.proofs.OfGraphs.CallerLemmas.{Decided, decided_eq}
use Rattle.graph_core.proofs.OfTexts.CallerLemmas.{exact_map}
use Rattle.mv_desk.specs.declared.limits.Limits.{Limits}
use Rattle.mv_desk.specs.declared.slot.Slot.TheVariants as slot
use Rattle.mv_text.specs.LineReading.{lengths_of}
use Rattle.same_core.specs.declared.checked.SameChecked.{SameChecked}
use Rattle.same_core.specs.declared.checked.SameChecked.TheVariants as checked
use Rattle.same_core.specs.Answers.{pair_answer_of_clauses}
use Rattle.same_core.specs.Files.{compared_texts_of}
use Rattle.same_core.specs.Merged.{AreOfOneShape, merged}
use Rattle.same_core.specs.Outcome.{IsMergedDue, IsPairCheckDue, IsPairOutcome, OnePairAnswerIsDue, PairOutcomesAreExact}
use Rattle.same_core.proofs.Wholes.{certificates_are_exact}

pub decided_shape : (g h : Aig) → Decided (AreOfOneShape g h)
decided_shape g h = ⊎_elim
    (λ same. ⊎_elim (λ equal. inl (record { inputs = same; outputs = equal })) (λ differ. inr (λ shape. differ shape.outputs)) (decided_eq (length g.outputs) (length h.outputs)))
    (λ differ. inr (λ shape. differ shape.inputs)) (decided_eq (length g.inputs) (length h.inputs))

-- over two graphs
one_of_merged : (lengths : Lengths) (bytes : List ℕ) (g h : Aig) → IsOneDue (IsMergedDue lengths (Some bytes) g h)
one_of_merged lengths bytes g h = one_unless checked.Shapes (decided_shape g h) (λ differ shape. differ shape)
    (λ shape. one_last checked.Accepted (exact_map (λ (f : ClauseFault). pair_answer_of_clauses (clausal.fail_of f)) (certificates_are_exact lengths (merged g h) bytes)))

one_of : (limits : Limits) (file other clauses : Option (List ℕ)) → IsSome file → IsSome other → IsSome clauses →
    IsOneDue (IsPairCheckDue limits (record { graph = file; other = other; clauses = clauses }))
one_of limits (Some file) (Some other) (Some clauses) f o c =
    one_over_graph checked.Stopped slot.Graph Any limits.graph file
    (λ g. OverGraph checked.Stopped slot.Other Any limits.graph (Some other) (IsMergedDue (lengths_of limits) (Some clauses) g))
    (λ g s. one_over_graph checked.Stopped slot.Other Any limits.graph other (IsMergedDue (lengths_of limits) (Some clauses) g)
    (λ h t. one_of_merged (lengths_of limits) clauses g h))
one_of limits None other clauses f o c = absurd (cc)
one_of limits (Some file) None clauses f o c = absurd (cc)
one_of limits (Some file) (Some other) None f o c = absurd (cc)

pub one_answer_is_due : OnePairAnswerIsDue
one_answer_is_due limits texts told = one_of limits texts.graph texts.other texts.clauses told.graph_told told.other_told told.clauses_told

pub outcomes_are_exact : PairOutcomesAreExact
outcomes_are_exact limits files before after given h told = go given h
  where
    one : IsOneDue (IsPairCheckDue limits (compared_texts_of before files))
    one = one_answer_is_due limits (compared_texts_of before files) told

    caused : (answer : SameChecked) → IsPairCheckDue limits (compared_texts_of before files) answer → (due : SameChecked) → IsPairCheckDue limits (compared_texts_of before files) due → GivesDue checked.Stopped before after due answer
    caused = caused_is_due checked.Stopped (IsPairCheckDue limits (compared_texts_of before files)) one before after

    go : (answer : SameChecked) → IsPairOutcome limits files before after answer → (due : SameChecked) → IsPairCheckDue limits (compared_texts_of before files) due → GivesDue checked.Stopped before after due answer
    go checked.Accepted (g, s, (k, t, (shape, (lawful, agree)))) = caused checked.Accepted (inr (g, s, inr (k, t, inr (shape, inr (lawful, refl)))))
    go (checked.Refused why) k = caused (checked.Refused why) k
    go checked.Shapes k = caused checked.Shapes k
    go (checked.Stopped why) k = stopped_is_due checked.Stopped (IsPairCheckDue limits (compared_texts_of before files)) one before after why k
