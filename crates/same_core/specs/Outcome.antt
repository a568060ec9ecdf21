-- What `check_same` says of three files, and where each answer comes.
use Rattle.std.specs.Prelude.{◌⊎◌, ℕ, List, IfSome}
use Rattle.std.specs.declared.option.Option.{Option}
use Rattle.clause_judge.specs.Faults as clausal
use Rattle.clause_judge.specs.Faults.{ClauseFault}
use Rattle.command_core.specs.InOrder.{IsOneDue, IsSaidOf, Last, OverGraph}
use Rattle.command_core.specs.Stopping.{GivesDue, IsGraphStop, IsStop, OpensUpTo}
use Rattle.command_core.specs.declared.stop.Stop.{Stop}
use Rattle.graph_core.specs.declared.profile.Profile.TheVariants.{Any}
use Rattle.graph_core.specs.Graph.Extended.{Extended}
use Rattle.graph_core.specs.Graph.{Aig}
use Rattle.graph_core.specs.Text.JudgedLines.{Lengths, Unless}
use Rattle.mv_desk.specs.View.{View, OpensFiles}
use Rattle.mv_desk.specs.declared.limits.Limits.{Limits}
use Rattle.mv_desk.specs.declared.slot.Slot.{Slot}
use Rattle.mv_desk.specs.declared.slot.Slot.TheVariants as slot
use Rattle.mv_text.specs.LineReading.{lengths_of}
use Rattle.same_core.specs.declared.checked.SameChecked.{SameChecked}
use Rattle.same_core.specs.declared.checked.SameChecked.TheVariants as checked
use Rattle.same_core.specs.Answers.{pair_answer_of_clauses}
use Rattle.same_core.specs.Certificates.{IsLawful, IsMergedFileRefusal}
use Rattle.same_core.specs.Files.{AreComparedTold, ComparedFiles, ComparedTexts, HasFirst, HasPair, compared_texts_of}
use Rattle.same_core.specs.Merged.{AgreeOnInputs, AreOfOneShape, merged}

-- The first file spells no graph, or it does, and the second one spells none.
abbrev pub IsPairStop : ℕ → ComparedTexts → Stop → Type 0
IsPairStop limit texts why =
    IsGraphStop slot.Graph Any limit texts.graph why ⊎ HasFirst limit texts (λ g. IsGraphStop slot.Other Any limit texts.other why)

-- The clause file is refused over merged gates, where it is told, and this is said of it.
abbrev pub RefusesMerged : Lengths → Extended → Option (List ℕ) → SameChecked → Type 0
RefusesMerged lengths e text =
    IsSaidOf (λ (f : ClauseFault). IfSome text (λ bytes. IsMergedFileRefusal lengths e bytes f)) (λ (f : ClauseFault). pair_answer_of_clauses (clausal.fail_of f))

-- What is due over two graphs: they aren't of one shape, or the clause file is refused, or lawful.
abbrev pub IsMergedDue : Lengths → Option (List ℕ) → Aig → Aig → SameChecked → Type 0
IsMergedDue lengths text g h = Unless (AreOfOneShape g h) (¬ (AreOfOneShape g h)) checked.Shapes
    (Last (IfSome text (IsLawful lengths (merged g h))) (RefusesMerged lengths (merged g h) text) checked.Accepted)

-- The answer that is due: the first refusal of the three files, or a length that is met before any refusal; else the file is lawful.
abbrev pub IsPairCheckDue : Limits → ComparedTexts → SameChecked → Type 0
IsPairCheckDue limits texts = OverGraph checked.Stopped slot.Graph Any limits.graph texts.graph (λ g.
    OverGraph checked.Stopped slot.Other Any limits.graph texts.other (IsMergedDue (lengths_of limits) texts.clauses g))

-- Where each answer comes, as far as the desk tells the files. Accepted graphs agree on all inputs.
abbrev pub IsPairOutcome : Limits → ComparedFiles → View → View → SameChecked → Type 0
IsPairOutcome limits files before after checked.Accepted =
    HasPair limits.graph (compared_texts_of before files) (λ g h.
    IfSome (compared_texts_of before files).clauses (IsLawful (lengths_of limits) (merged g h)) × AgreeOnInputs g h)
IsPairOutcome limits files before after (checked.Stopped why) =
    IsStop (λ stop. IsPairCheckDue limits (compared_texts_of before files) (checked.Stopped stop)) before after why
IsPairOutcome limits files before after outcome = IsPairCheckDue limits (compared_texts_of before files) outcome

-- the place of a file in their order
abbrev pub pair_place : Slot → ℕ
pair_place slot.Graph = 1
pair_place slot.Other = 2
pair_place _ = 3

-- How many files were opened: up to the one that the answer is of.
abbrev pub OpensForPair : SameChecked → View → View → Type 0
OpensForPair checked.Shapes before after = OpensFiles 2 before after
OpensForPair (checked.Stopped why) before after = OpensUpTo pair_place 3 why before after
OpensForPair _ before after = OpensFiles 3 before after

-- ---- exactness

-- Where the desk tells the three files, whichever answer is due is given.
abbrev pub IsExactPairAnswer : Limits → ComparedFiles → View → View → SameChecked → Type 0
IsExactPairAnswer limits files before after given =
    AreComparedTold (compared_texts_of before files) → (due : SameChecked) → IsPairCheckDue limits (compared_texts_of before files) due →
    GivesDue checked.Stopped before after due given

-- Of three files that are told just one answer is due.
abbrev pub OnePairAnswerIsDue : Type 0
OnePairAnswerIsDue = (limits : Limits) (texts : ComparedTexts) → AreComparedTold texts → IsOneDue (IsPairCheckDue limits texts)

-- So what has its cause is the answer that is due, or a failed read or out of memory.
abbrev pub PairOutcomesAreExact : Type 0
PairOutcomesAreExact = (limits : Limits) (files : ComparedFiles) (before after : View) (given : SameChecked) →
    IsPairOutcome limits files before after given → IsExactPairAnswer limits files before after given
