-- What `check` says of three files, and where each answer comes.
use Rattle.std.specs.Prelude.{◌≡◌, ◌⊎◌, ℕ, List, Err, IfSome, Ok, Result, ⊤}
use Rattle.std.specs.declared.option.Option.{Option}
use Rattle.algebra_core.specs.AlgebraLines.{Premises}
use Rattle.algebra_core.specs.Certificates.{IsLawfulAlgebra}
use Rattle.algebra_core.specs.Refusal.{AlgebraCause, IsAlgebraRefusal}
use Rattle.algebra_judge.specs.Faults as algebraic
use Rattle.clause_judge.specs.Faults as clausal
use Rattle.clause_judge.specs.Faults.{ClauseFault}
use Rattle.command_core.specs.Files.{AreTold, Files, HasGraph, Texts, texts_of}
use Rattle.command_core.specs.InOrder.{IsOneDue, IsSaidOf, Last, OverGraph, Then}
use Rattle.command_core.specs.Stopping.{GivesDue, IsAbout, IsStop, OpensUpTo}
use Rattle.graph_core.specs.Graph.{Aig}
use Rattle.graph_core.specs.Graph.Operands.{Does, Sides, profile_of, sides_for}
use Rattle.graph_core.specs.Text.JudgedLines.{Lengths}
use Rattle.graph_core.specs.declared.claim.Claim.{Claim}
use Rattle.graph_core.specs.declared.profile.Profile.{Profile}
use Rattle.mv_desk.specs.View.{View, OpensFiles, SlotStays}
use Rattle.mv_desk.specs.declared.limits.Limits.{Limits}
use Rattle.mv_desk.specs.declared.slot.Slot.{Slot}
use Rattle.mv_desk.specs.declared.slot.Slot.TheVariants as slot
use Rattle.mv_text.specs.LineReading.{lengths_of}
use Rattle.pair_core.specs.ClauseFiles.{ArePremisesOf, GivesPremises}
use Rattle.joint_checker.specs.Answers.{answer_of_algebra, answer_of_clauses}
use Rattle.joint_checker.specs.ClauseRefusals.{IsFileRefusal}
use Rattle.joint_checker.specs.LawfulFiles.{HasPremises, HasLawfulPair}
use Rattle.joint_checker.specs.declared.checked.Checked.{Checked}
use Rattle.joint_checker.specs.declared.checked.Checked.TheVariants as checked
use Rattle.joint_checker.specs.declared.checked.Refusal.TheVariants as refusal

-- ---- what the three files come to

-- The clause file is refused for a graph, where it is told, and this is said of it.
abbrev pub RefusesClauses : Lengths → Aig → Option (List ℕ) → Checked → Type 0
RefusesClauses lengths g text =
    IsSaidOf (λ (f : ClauseFault). IfSome text (λ bytes. IsFileRefusal lengths g bytes f)) (λ (f : ClauseFault). answer_of_clauses (clausal.fail_of f))

-- The algebra file is refused over premises and operands, where it is told, and this is said of it.
abbrev pub RefusesAlgebra : Lengths → Premises → Sides → Option (List ℕ) → Checked → Type 0
RefusesAlgebra lengths p sides text =
    IsSaidOf (λ (f : ℕ × AlgebraCause). IfSome text (λ bytes. IsAlgebraRefusal p sides lengths bytes f)) (λ (f : ℕ × AlgebraCause). answer_of_algebra (algebraic.fail_of f))

-- What is due over premises: the algebra file is refused, or the pair is lawful.
abbrev pub IsAlgebraDue : Lengths → Sides → Option (List ℕ) → Premises → Checked → Type 0
IsAlgebraDue lengths sides text p = Last (IfSome text (IsLawfulAlgebra lengths p sides)) (RefusesAlgebra lengths p sides text) checked.Accepted

-- What is due over a graph: the clause file is refused, or gives premises.
abbrev pub IsDueOver : Lengths → Claim → Texts → Aig → Checked → Type 0
IsDueOver lengths claim texts g =
    Then (λ (p : Premises). ArePremisesOf g p × IfSome texts.clauses (λ bytes. GivesPremises lengths g bytes p)) (RefusesClauses lengths g texts.clauses)
    (IsAlgebraDue lengths (sides_for claim g) texts.algebra)

-- The answer that is due: the first refusal of the three files, or a length that is met before any refusal; else the pair is lawful.
abbrev pub IsDue : Limits → Claim → Texts → Checked → Type 0
IsDue limits claim texts =
    OverGraph checked.Stopped slot.Graph (profile_of claim.widths) limits.graph texts.graph (IsDueOver (lengths_of limits) claim texts)

-- ---- what `check` answers

-- Where each answer comes, as far as the desk tells the files.
abbrev pub IsOutcome : Limits → Claim → Files → View → View → Checked → Type 0
IsOutcome limits claim files before after checked.Accepted = HasLawfulPair limits claim (texts_of before files) (Does claim)
IsOutcome limits claim files before after (checked.Refused why) = IsDue limits claim (texts_of before files) (checked.Refused why)
IsOutcome limits claim files before after (checked.Stopped why) =
    IsStop (λ stop. IsDue limits claim (texts_of before files) (checked.Stopped stop)) before after why

-- The answer where something is made of an accepted pair, or else why there is none.
abbrev pub answer_of : {X : Type 0} → Result X Checked → Checked
answer_of (Ok made) = checked.Accepted
answer_of (Err answer) = answer

-- ---- which files are opened

-- the answer is one of the file in this slot
abbrev pub IsAnswerOf : Slot → Checked → Type 0
IsAnswerOf at checked.Accepted = ⊥
IsAnswerOf at (checked.Refused (refusal.Algebra n why)) = slot.Algebra ≡ at
IsAnswerOf at (checked.Refused why) = slot.Clauses ≡ at
IsAnswerOf at (checked.Stopped why) = IsAbout at why

-- The clause file is needed: the graph file spells a graph, and the answer isn't one of it.
abbrev pub NeedsClauses : Profile → Limits → Texts → Checked → Type 0
NeedsClauses profile limits texts answer = HasGraph profile limits.graph texts.graph (λ g. ⊤) × ¬ (IsAnswerOf slot.Graph answer)

-- The algebra file is needed: moreover the clause file gives premises, and the answer isn't one of it.
abbrev pub NeedsAlgebra : Profile → Limits → Texts → Checked → Type 0
NeedsAlgebra profile limits texts answer =
    NeedsClauses profile limits texts answer × HasPremises profile limits texts (λ g p. ⊤) × ¬ (IsAnswerOf slot.Clauses answer)

-- Each certificate is opened only when it is needed: else its slot is as it was. The slot `Other` always is.
pub record OpensNeeded (profile : Profile) (limits : Limits) (texts : Texts) (before after : View) (answer : Checked) : Type 0 where
  pub clauses : SlotStays slot.Clauses before after ⊎ NeedsClauses profile limits texts answer
  pub algebra : SlotStays slot.Algebra before after ⊎ NeedsAlgebra profile limits texts answer
  pub other : SlotStays slot.Other before after

-- the place of a file in their order
abbrev pub check_place : Slot → ℕ
check_place slot.Graph = 1
check_place slot.Clauses = 2
check_place _ = 3

-- How many files were opened: up to the one that the answer is of.
abbrev pub OpensFor : Checked → View → View → Type 0
OpensFor (checked.Refused (refusal.Clauses n why)) before after = OpensFiles 2 before after
OpensFor (checked.Refused (refusal.Goals column)) before after = OpensFiles 2 before after
OpensFor (checked.Stopped why) before after = OpensUpTo check_place 3 why before after
OpensFor _ before after = OpensFiles 3 before after

-- ---- exactness

-- Where the desk tells the three files, whichever answer is due is given.
abbrev pub IsExactAnswer : Limits → Claim → Files → View → View → Checked → Type 0
IsExactAnswer limits claim files before after given =
    AreTold (texts_of before files) → (due : Checked) → IsDue limits claim (texts_of before files) due → GivesDue checked.Stopped before after due given

-- Of three files that are told just one answer is due.
abbrev pub OneAnswerIsDue : Type 0
OneAnswerIsDue = (limits : Limits) (claim : Claim) (texts : Texts) → AreTold texts → IsOneDue (IsDue limits claim texts)

-- So what has its cause is the answer that is due, or a failed read or out of memory.
abbrev pub OutcomesAreExact : Type 0
OutcomesAreExact = (limits : Limits) (claim : Claim) (files : Files) (before after : View) (given : Checked) →
    IsOutcome limits claim files before after given → IsExactAnswer limits claim files before after given
