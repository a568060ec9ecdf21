-- What `same` says of two files, and where each answer comes.
use Rattle.std.specs.Prelude.{◌≡◌, ◌≢◌, ◌+◌, ◌*◌, ◌≤◌, ⊤, ℕ, Bool, List, Some, IsSome, length, map}
use Rattle.std.specs.List.{All}
use Rattle.clause_core.specs.Clause.{IsClause}
use Rattle.clause_core.specs.ClauseLines.{AreLawfulClauseLines, ClauseLine, clause_in}
use Rattle.drup_text.specs.SameFiles.{same_text}
use Rattle.drup_text.specs.WrittenLaws.{IsWritableLine}
use Rattle.goal_refuter.specs.Refutations.{IsSpent}
use Rattle.graph_core.specs.Graph.Assignments.{literal}
use Rattle.graph_core.specs.declared.profile.Profile.TheVariants.{Any}
use Rattle.graph_core.specs.Graph.{Aig, evaluated}
use Rattle.graph_core.specs.Text.JudgedLines.{IsWithin, Lengths}
use Rattle.mv_desk.specs.Calls.{Inspects}
use Rattle.mv_desk.specs.View.{IsTold, OpensFiles, Rose, SlotStays, View, bytes_under}
use Rattle.mv_desk.specs.declared.limits.Limits.{Limits}
use Rattle.mv_desk.specs.declared.slot.Slot.{Slot}
use Rattle.mv_desk.specs.declared.slot.Slot.TheVariants as slot
use Rattle.same_core.specs.declared.verdict.Same.{Same}
use Rattle.same_core.specs.declared.verdict.Same.TheVariants as same
use Rattle.same_core.specs.Certificates.{IsLawful}
use Rattle.aiger_reader.specs.Refusals.{SpellsWithin}
use Rattle.command_core.specs.Stopping.{GivesDue, IsStop, OpensUpTo}
use Rattle.command_core.specs.Written.{FailsToWrite, WritesFile}
use Rattle.command_core.specs.declared.stop.Stop.TheVariants as stop
use Rattle.same_core.specs.Files.{ComparedFiles, ComparedTexts, HasOtherShapes, HasPair, compared_texts_of}
use Rattle.same_core.specs.Merged.{AgreeOnInputs, AreOfOneShape, merged}
use Rattle.same_core.specs.Outcome.{IsPairStop, pair_place}

-- Inputs on which some output of the two graphs differs.
pub record IsPairDifference (g h : Aig) (inputs : List Bool) : Type 0 where
  pub all : length inputs ≡ length g.inputs
  pub differ : map (literal (evaluated g inputs)) g.outputs ≢ map (literal (evaluated h inputs)) h.outputs

-- Lines that are written: they are lawful and show each goal, each has a literal once, of 32 bits, and they are few.
pub record AreWritten (g h : Aig) (conflicts : ℕ) (lines : List ClauseLine) : Type 0 where
  pub lawful : AreLawfulClauseLines (merged g h) lines
  pub writable : All IsWritableLine lines
  pub once : All (λ line. IsClause (clause_in line)) lines
  pub few : length lines ≤ 2 * (conflicts + 512)

-- The graphs alone were opened and read: every slot but theirs is as it was.
pub record ReadsGraphs (before after : View) : Type 0 where
  pub others : (other : Slot) → other ≢ slot.Graph → other ≢ slot.Other → SlotStays other before after
  pub inspects : Inspects before after

-- The files spell two graphs of one shape that agree on all inputs, and something holds of the text of lines that show it, once the graphs
-- alone were read.
abbrev pub HasEqualPair : ℕ → ℕ → ComparedFiles → View → (List ℕ → View → Type 0) → Type 0
HasEqualPair limit conflicts files before P = HasPair limit (compared_texts_of before files) (λ g h.
    AgreeOnInputs g h × ((lines : List ClauseLine) × (between : View) × AreWritten g h conflicts lines ×
    ReadsGraphs before between × P (same_text lines) between))

-- Where each answer comes, as far as the desk tells the files. Graphs that are called equal agree on all inputs, and also those whose
-- certificate couldn't be written; where no pair of graphs is read, the answer is that of a check.
abbrev pub IsCompared : Limits → ℕ → ComparedFiles → View → View → Same → Type 0
IsCompared limits conflicts files before after same.Equal =
    HasEqualPair limits.graph conflicts files before (λ text between. WritesFile slot.Clauses files.clauses text between after)
IsCompared limits conflicts files before after (same.Differs inputs) =
    HasPair limits.graph (compared_texts_of before files) (λ g h. IsPairDifference g h inputs.items) × Inspects before after
IsCompared limits conflicts files before after (same.Spent lemmas goal log) =
    HasPair limits.graph (compared_texts_of before files) (λ g h. IsSpent (merged g h) conflicts lemmas goal log) × Inspects before after
IsCompared limits conflicts files before after same.Shapes = HasOtherShapes limits.graph (compared_texts_of before files) × Inspects before after
IsCompared limits conflicts files before after (same.Stopped stop.WriteFault) =
    Rose before.write_faults after.write_faults ×
    HasEqualPair limits.graph conflicts files before (λ text between. FailsToWrite slot.Clauses files.clauses text between after)
IsCompared limits conflicts files before after (same.Stopped why) =
    IsStop (IsPairStop limits.graph (compared_texts_of before files)) before after why × Inspects before after

-- How many files were opened: both graphs, or the first one alone where the answer is of it.
abbrev pub OpensForCompared : Same → View → View → Type 0
OpensForCompared (same.Stopped why) before after = OpensUpTo pair_place 2 why before after
OpensForCompared _ before after = OpensFiles 2 before after

-- The answer that is due where no pair of graphs is spelled: that of a check.
abbrev pub IsPairDue : Limits → ComparedTexts → Same → Type 0
IsPairDue limits texts same.Shapes = HasOtherShapes limits.graph texts
IsPairDue limits texts (same.Stopped why) = IsPairStop limits.graph texts why
IsPairDue limits texts _ = ⊥

-- ---- laws

-- What is written for graphs that are called equal is a lawful file within all lengths that it keeps to.
abbrev pub WrittenIsLawful : Type 0
WrittenIsLawful = (lengths : Lengths) (g h : Aig) (conflicts : ℕ) (lines : List ClauseLine) → AreWritten g h conflicts lines →
    IsWithin lengths (same_text lines) → IsLawful lengths (merged g h) (same_text lines)

-- The files spell two graphs of one shape, and are told.
abbrev pub HasToldPair : ℕ → ComparedTexts → Type 0
HasToldPair limit texts = (file : List ℕ) × (other : List ℕ) × (texts.graph ≡ Some file) × (texts.other ≡ Some other) ×
    (g : Aig) × (h : Aig) × SpellsWithin Any limit file g × SpellsWithin Any limit other h × AreOfOneShape g h

-- the answer is on two graphs, or none is on the files: a fault, or out of memory
abbrev pub IsOnPair : Same → Type 0
IsOnPair same.Shapes = ⊥
IsOnPair (same.Stopped (stop.Graph at why)) = ⊥
IsOnPair (same.Stopped (stop.TooLong at)) = ⊥
IsOnPair _ = ⊤

-- Two graphs of one shape are called equal, or differ, or the conflicts are spent; but for a fault or out of memory.
abbrev pub PairsAreDecided : Type 0
PairsAreDecided = (limits : Limits) (conflicts : ℕ) (files : ComparedFiles) (before after : View) (given : Same) →
    HasToldPair limits.graph (compared_texts_of before files) →
    IsCompared limits conflicts files before after given → IsOnPair given

-- Where two graph files are told, whichever such answer is due is given.
abbrev pub PairAnswersAreExact : Type 0
PairAnswersAreExact = (limits : Limits) (conflicts : ℕ) (files : ComparedFiles) (before after : View) (given : Same) →
    IsSome (bytes_under before files.graph) → IsSome (bytes_under before files.other) → IsCompared limits conflicts files before after given →
    (due : Same) → IsPairDue limits (compared_texts_of before files) due → GivesDue same.Stopped before after due given

-- The files are two graphs that agree on all inputs, and the text of lines that show it.
pub record HoldsEqual (limit conflicts : ℕ) (files : ComparedFiles) (view : View) : Type 0 where
  pub graph_file : List ℕ
  pub other_file : List ℕ
  pub lines : List ClauseLine
  pub graph_held : bytes_under view files.graph ≡ Some graph_file
  pub other_held : bytes_under view files.other ≡ Some other_file
  pub clauses_held : bytes_under view files.clauses ≡ Some (same_text lines)
  pub graph : Aig
  pub other : Aig
  pub spells : SpellsWithin Any limit graph_file graph
  pub other_spells : SpellsWithin Any limit other_file other
  pub shape : AreOfOneShape graph other
  pub written : AreWritten graph other conflicts lines
  pub agree : AgreeOnInputs graph other

-- Where graphs are called equal, and the certificate has the name of neither, that is what the files are then.
abbrev pub EqualPairsAreHeld : Type 0
EqualPairsAreHeld = (limits : Limits) (conflicts : ℕ) (files : ComparedFiles) (before after : View) → IsTold before → files.clauses ≢ files.graph →
    files.clauses ≢ files.other →
    IsCompared limits conflicts files before after same.Equal → HoldsEqual limits.graph conflicts files after
