-- What `trim` says of five files, where each answer comes, and what is done to the files.
use Rattle.std.specs.Prelude.{◌≡◌, ℕ, List, IfSome, IsSome, Some}
use Rattle.aiger_reader.specs.Refusals.{SpellsWithin}
use Rattle.command_core.specs.declared.stop.Stop.TheVariants as stop
use Rattle.graph_core.specs.Graph.{Aig}
use Rattle.graph_core.specs.Graph.Operands.{Does, profile_of}
use Rattle.graph_core.specs.declared.claim.Claim.{Claim}
use Rattle.mv_desk.specs.Calls.{Inspects}
use Rattle.mv_desk.specs.View.{View, IsHeld, Rose, bytes_under, IsTold}
use Rattle.mv_desk.specs.declared.limits.Limits.{Limits}
use Rattle.mv_desk.specs.declared.slot.Slot.TheVariants as slot
use Rattle.mv_text.specs.LineReading.{lengths_of}
use Rattle.command_core.specs.Files.{Files, HasGraph, LeavesFiles, Texts, texts_of}
pub use Rattle.command_core.specs.Files.{TrimmedFiles, trimmed_files_of}
use Rattle.joint_checker.specs.Outcome.{IsDue, IsOutcome, OpensNeeded}
use Rattle.command_core.specs.Written.{StopsWriting, WritesPair}
use Rattle.pair_core.specs.Certificates.{IsPair}
use Rattle.joint_checker.specs.declared.checked.Checked.{Checked}
use Rattle.joint_checker.specs.declared.checked.Checked.TheVariants as checked
use Rattle.pair_trim.specs.declared.answer.TrimAnswer.{TrimAnswer}
use Rattle.pair_trim.specs.declared.answer.TrimAnswer.TheVariants as trim
use Rattle.pair_trim.specs.declared.answer.Trimmed.{Trimmed}
use Rattle.pair_trim.specs.NewPairs.{IsTrimOf}

-- the graph with the certificates that are written
abbrev pub new_files : TrimmedFiles → Files
new_files files = record { graph = files.old.graph; clauses = files.to_clauses; algebra = files.to_algebra }

-- The old files were opened and read. A slot whose name is told and whose file is held has its name told still.
pub record ReadsOld (files : Files) (before after : View) : Type 0 where
  pub inspects : Inspects before after
  pub clauses_named : IsHeld before files.clauses → IsSome (before.name slot.Clauses) → IsSome (after.name slot.Clauses)
  pub algebra_named : IsHeld before files.algebra → IsSome (before.name slot.Algebra) → IsSome (after.name slot.Algebra)

-- The graph does what is claimed, and something holds of the texts of a pair for it; where the old certificates are told, these are the
-- texts of what is kept of them.
abbrev pub HasTrim : Limits → Claim → TrimmedFiles → View → Trimmed → (List ℕ → List ℕ → Type 0) → Type 0
HasTrim limits claim files before t P = HasGraph (profile_of claim.widths) limits.graph (bytes_under before files.old.graph) (λ g. Does claim g ×
    ((clauses : List ℕ) × (algebra : List ℕ) × IsPair g claim clauses algebra ×
    IfSome (bytes_under before files.old.clauses) (λ old. IfSome (bytes_under before files.old.algebra) (λ other.
    IsTrimOf (lengths_of limits) g claim old other t clauses algebra)) × P clauses algebra))

-- what `check` says of the pair
abbrev pub checked_of : TrimAnswer → Checked
checked_of (trim.Trimmed t) = checked.Accepted
checked_of (trim.Refused why) = checked.Refused why
checked_of (trim.Stopped why) = checked.Stopped why

-- The pair isn't accepted, and nothing was created.
pub record IsNotAccepted (limits : Limits) (claim : Claim) (files : TrimmedFiles) (before after : View) (outcome : Checked) : Type 0 where
  pub outcome_is : IsOutcome limits claim files.old before after outcome
  pub opens : OpensNeeded (profile_of claim.widths) limits (texts_of before files.old) before after outcome
  pub inspects : Inspects before after

-- Where each answer comes, as far as the desk tells the files.
abbrev pub IsTrimAnswer : Limits → Claim → TrimmedFiles → View → View → TrimAnswer → Type 0
IsTrimAnswer limits claim files before after (trim.Trimmed t) =
    IsOutcome limits claim files.old before after checked.Accepted ×
    HasTrim limits claim files before t (λ clauses algebra.
    (read : View) × ReadsOld files.old before read × WritesPair (new_files files) clauses algebra read after)
IsTrimAnswer limits claim files before after (trim.Stopped stop.WriteFault) =
    Rose before.write_faults after.write_faults × IsOutcome limits claim files.old before after checked.Accepted ×
    ((t : Trimmed) × HasTrim limits claim files before t (λ clauses algebra. (read : View) × ReadsOld files.old before read ×
    StopsWriting (new_files files) (λ text. text ≡ clauses) (λ beside text. text ≡ algebra) read after))
IsTrimAnswer limits claim files before after given = IsNotAccepted limits claim files before after (checked_of given)

-- The answer that is due: where `check` accepts, something is kept; else that of `check`.
abbrev pub IsTrimDue : Limits → Claim → Texts → TrimAnswer → Type 0
IsTrimDue limits claim texts given = IsDue limits claim texts (checked_of given)

-- ---- what users rest on

-- The files that a desk held before are a graph that does what is claimed and an old pair of certificates. It holds them still, and under
-- the new names what is kept of the pair.
pub record HoldsTrimmed (limits : Limits) (claim : Claim) (files : TrimmedFiles) (before after : View) : Type 0 where
  pub graph_file : List ℕ
  pub old_clauses : List ℕ
  pub old_algebra : List ℕ
  pub new_clauses : List ℕ
  pub new_algebra : List ℕ
  pub graph_held : bytes_under before files.old.graph ≡ Some graph_file
  pub clauses_held : bytes_under before files.old.clauses ≡ Some old_clauses
  pub algebra_held : bytes_under before files.old.algebra ≡ Some old_algebra
  pub graph_stays : bytes_under after files.old.graph ≡ Some graph_file
  pub clauses_stay : bytes_under after files.old.clauses ≡ Some old_clauses
  pub algebra_stays : bytes_under after files.old.algebra ≡ Some old_algebra
  pub to_clauses_held : bytes_under after files.to_clauses ≡ Some new_clauses
  pub to_algebra_held : bytes_under after files.to_algebra ≡ Some new_algebra
  pub graph : Aig
  pub spells : SpellsWithin (profile_of claim.widths) limits.graph graph_file graph
  pub does : Does claim graph
  pub kept : Trimmed
  pub trims : IsTrimOf (lengths_of limits) graph claim old_clauses old_algebra kept new_clauses new_algebra

-- Where the desk tells its files and the new names are new, that is what it holds once a pair was trimmed.
abbrev pub TrimmedPairsAreHeld : Type 0
TrimmedPairsAreHeld = (limits : Limits) (claim : Claim) (files : TrimmedFiles) (before after : View) (t : Trimmed) → IsTold before → LeavesFiles files →
    IsTrimAnswer limits claim files before after (trim.Trimmed t) → HoldsTrimmed limits claim files before after
