-- What writing a file does to the outside, and writing a pair of certificates: the clause file comes first.
use Rattle.std.specs.Prelude.{◌≡◌, ◌≢◌, ◌⊎◌, List, ℕ}
use Rattle.mv_desk.specs.Calls.{Creates, Inspects, WritesPart, WritesTo}
use Rattle.mv_desk.specs.View.{View, IsSame, ModeStays, SlotStays}
use Rattle.mv_desk.specs.declared.slot.Slot.{Slot}
use Rattle.mv_desk.specs.declared.slot.Slot.TheVariants as slot
use Rattle.command_core.specs.Files.{Files}

-- ---- one file

-- nothing was created or written, and every slot but `Graph` is as it was
pub record ReadsGraph (before after : View) : Type 0 where
  pub others : (other : Slot) → other ≢ slot.Graph → SlotStays other before after
  pub inspects : Inspects before after

-- the report is as it was
pub record ReportStays (before after : View) : Type 0 where
  pub mode : ModeStays slot.Report before after
  pub written : after.written slot.Report ≡ before.written slot.Report

-- a file was created, and this text was written to it
pub record WritesFile (at : Slot) (name text : List ℕ) (before after : View) : Type 0 where
  pub created : View
  pub creates : Creates at name before created
  pub writes : WritesTo at text created after

-- a file was created, and a front part of this text was written to it
pub record WritesFront (at : Slot) (name text : List ℕ) (before after : View) : Type 0 where
  pub created : View
  pub creates : Creates at name before created
  pub writes : WritesPart at text created after

-- Writing failed: no file of that name could be created, or a front part of the text was written.
abbrev pub FailsToWrite : Slot → List ℕ → List ℕ → View → View → Type 0
FailsToWrite at name text before after = IsSame before after ⊎ WritesFront at name text before after

-- The same of a text of which something holds.
abbrev pub StopsAt : Slot → List ℕ → (List ℕ → Type 0) → View → View → Type 0
StopsAt at name P before after = IsSame before after ⊎ ((text : List ℕ) × P text × WritesFront at name text before after)

-- ---- a pair of certificates

-- both certificates were written whole, first the clause file
pub record WritesPair (files : Files) (clauses algebra : List ℕ) (before after : View) : Type 0 where
  pub between : View
  pub clause_file : WritesFile slot.Clauses files.clauses clauses before between
  pub algebra_file : WritesFile slot.Algebra files.algebra algebra between after

-- Writing of a pair stopped. Something holds of the clause file's text, and something of both texts; the algebra file is created only
-- once the clause file is whole.
abbrev pub StopsWriting : Files → (List ℕ → Type 0) → (List ℕ → List ℕ → Type 0) → View → View → Type 0
StopsWriting files P Q before after =
    StopsAt slot.Clauses files.clauses P before after ⊎
    ((clauses : List ℕ) × (between : View) × P clauses × WritesFile slot.Clauses files.clauses clauses before between ×
    StopsAt slot.Algebra files.algebra (Q clauses) between after)
