-- What `verify` says of a graph file, and where each verdict comes.
use Rattle.std.specs.Prelude.{◌≡◌, ◌⊎◌, ℕ, ◌%◌, ◌<◌, ◌≤◌, Bool, List, length, IfSome, IsSomeAnd, ⊤}
use Rattle.std.specs.declared.option.Option.{Option}
use Rattle.std.specs.declared.option.Option.TheVariants.{None, Some}
use Rattle.aiger_reader.specs.Refusals.{SpellsWithin}
use Rattle.command_core.specs.Stopping.{GivesDue, IsGraphStop, IsStop}
use Rattle.command_core.specs.declared.stop.Stop.TheVariants as stop
use Rattle.frontier_core.specs.LeastDifference.{IsDifference, IsDifferenceAt, IsLeastDifference, ones_from}
use Rattle.frontier_core.specs.PlainOrder.{HasPlainSize}
use Rattle.graph_core.specs.Graph.{Aig}
use Rattle.graph_core.specs.Graph.Extended.{without_cut}
use Rattle.graph_core.specs.Graph.Operands.{Does, claimed_at, has_addend, inputs_at, output_modulus, profile_of, sides_for, value_at}
use Rattle.graph_core.specs.declared.claim.Claim.{Claim}
use Rattle.mv_desk.specs.View.{View, Rose, bytes_under, IsTold}
use Rattle.mv_desk.specs.declared.limits.Limits.{Limits}
use Rattle.mv_desk.specs.declared.slot.Slot.{Slot}
use Rattle.mv_desk.specs.declared.slot.Slot.TheVariants as slot
use Rattle.joint_prover.specs.declared.replacement.Replacement.{Replacement}
use Rattle.mv_text.specs.LineReading.{lengths_of}
use Rattle.pair_core.specs.Certificates.{IsPair}
use Rattle.pair_limits.specs.TooLong.{IsFirstTooLong}
use Rattle.command_core.specs.Files.{AreDistinct, Files, HasGraph}
use Rattle.joint_prover.specs.declared.difference.Difference.{Difference}
use Rattle.joint_prover.specs.declared.note.Note.{Note}
use Rattle.command_core.specs.declared.task.Task.{Task}
use Rattle.joint_prover.specs.declared.verdict.Verdict.{Verdict}
use Rattle.joint_prover.specs.declared.verdict.Verdict.TheVariants.{Proved, Wrong, Undecided, Stopped}
use Rattle.joint_prover.specs.Notes.{IsNote, replacement_of}
use Rattle.joint_prover.specs.Pairs.{AreClausesFor, IsPairFor}
use Rattle.joint_prover.specs.Tries.{AreTried, IsWithinBudget}
use Rattle.command_core.specs.Written.{ReadsGraph, StopsWriting, WritesPair}

-- ---- proved

-- The files that a desk holds: a graph that does what is claimed, a pair of certificates for it, which is the pair that is written with
-- what this note names in use, and the note's cause.
pub record HoldsPair (task : Task) (files : Files) (view : View) (limit : ℕ) (noted : Option Note) : Type 0 where
  pub graph_file : List ℕ
  pub clause_file : List ℕ
  pub algebra_file : List ℕ
  pub graph_held : bytes_under view files.graph ≡ Some graph_file
  pub clauses_held : bytes_under view files.clauses ≡ Some clause_file
  pub algebra_held : bytes_under view files.algebra ≡ Some algebra_file
  pub graph : Aig
  pub spells : SpellsWithin (profile_of task.claim.widths) limit graph_file graph
  pub pair : IsPair graph task.claim clause_file algebra_file
  pub does : Does task.claim graph
  pub note : IsSomeAnd noted (λ n. IsNote graph task.claim task.conflicts n × IsPairFor graph task (replacement_of n) clause_file algebra_file)

-- Of the certificates that a desk holds, where it tells them, the first one that is past the limits, if one is.
abbrev pub IsFirstTooLongHeld : Limits → Files → View → Option Slot → Type 0
IsFirstTooLongHeld limits files view long =
    IfSome (bytes_under view files.clauses) (λ clauses. IfSome (bytes_under view files.algebra) (λ algebra. IsFirstTooLong (lengths_of limits) clauses algebra long))

-- ---- undecided

-- The first frontier of the plain order with more monomials than the budget, and how many it has.
pub record IsFirstAbove (g : Aig) (claim : Claim) (budget t n : ℕ) : Type 0 where
  pub there : t ≤ length g.gates
  pub above : budget < n
  pub size : HasPlainSize (without_cut g) (sides_for claim g) t n
  pub first : (i k : ℕ) → i < t → HasPlainSize (without_cut g) (sides_for claim g) i k → k ≤ budget

-- ---- few ones

-- of these values of the inputs at most two are one
abbrev pub HasFewOnes : List Bool → Type 0
HasFewOnes bits = length (ones_from 0 bits) ≤ 2

-- No values of the inputs with few ones are a difference.
abbrev pub HaveManyOnes : Aig → Claim → Type 0
HaveManyOnes g claim = (bits : List Bool) → IsDifferenceAt g (sides_for claim g) bits → ¬ (HasFewOnes bits)

-- ---- the verdicts

-- They are the graph's value on the numbers, and what is claimed of these; and whether there is an addend.
pub record IsValued (g : Aig) (claim : Claim) (d : Difference) : Type 0 where
  pub addend : has_addend claim.widths ≡ d.has_addend
  pub value_is : d.value ≡ value_at g (sides_for claim g) d.numbers
  pub claimed_is : d.claimed ≡ claimed_at (output_modulus g) (sides_for claim g) d.numbers % output_modulus g

-- The least numbers on which the graph's value isn't what is claimed of them, with both.
pub record IsWrong (g : Aig) (claim : Claim) (d : Difference) : Type 0 where
  pub least : IsLeastDifference g (sides_for claim g) d.numbers
  pub valued : IsValued g claim d

-- Numbers on which the graph's value isn't what is claimed of them, with both; other ones may be less.
pub record IsSeen (g : Aig) (claim : Claim) (d : Difference) : Type 0 where
  pub difference : IsDifference g (sides_for claim g) d.numbers
  pub valued : IsValued g claim d

-- ---- where each verdict comes

-- There is a note, which has its cause, and something holds of what it names in use.
abbrev pub HasNote : Aig → Task → Option Note → (Option Replacement → Type 0) → Type 0
HasNote g task noted P = IsSomeAnd noted (λ n. IsNote g task.claim task.conflicts n × P (replacement_of n))

-- Something holds of the graph, as far as the file is told.
abbrev pub IsOfFile : ℕ → Task → Files → View → (Aig → Type 0) → Type 0
IsOfFile limit task files before P = HasGraph (profile_of task.claim.widths) limit (bytes_under before files.graph) P

-- Where each verdict comes, and what was done to the files. With each but the first and a write fault nothing was created. There is a
-- note with each but a stop. Of certificates that were written it is told which is the first that is past the limits, if one is.
abbrev pub IsVerdict : Limits → Task → Files → View → View → Verdict → Option Note → Type 0
IsVerdict limits task files before after (Proved long) noted =
    IsOfFile limits.graph task files before (λ g. Does task.claim g × HasNote g task noted (λ used.
    (read : View) × ReadsGraph before read ×
    ((clauses : List ℕ) × (algebra : List ℕ) × IsPairFor g task used clauses algebra × WritesPair files clauses algebra read after ×
    IsFirstTooLong (lengths_of limits) clauses algebra long)))
IsVerdict limits task files before after (Wrong d) noted =
    IsOfFile limits.graph task files before (λ g. IsWrong g task.claim d × HasNote g task noted (λ used. ⊤)) × ReadsGraph before after
IsVerdict limits task files before after (Undecided tried step size seen) noted =
    IsOfFile limits.graph task files before (λ g. IsFirstAbove g task.claim task.budget step size ×
    HasNote g task noted (λ used. AreTried g task.claim task.budget used tried.items) × HaveManyOnes g task.claim ×
    IfSome seen (IsSeen g task.claim)) ×
    ReadsGraph before after
IsVerdict limits task files before after (Stopped stop.WriteFault) noted =
    Rose before.write_faults after.write_faults ×
    IsOfFile limits.graph task files before (λ g. Does task.claim g ×
    ((n : Note) × IsNote g task.claim task.conflicts n × (read : View) × ReadsGraph before read ×
    StopsWriting files (AreClausesFor g task (replacement_of n)) (IsPairFor g task (replacement_of n)) read after)) × (noted ≡ None)
IsVerdict limits task files before after (Stopped why) noted =
    IsStop (IsGraphStop slot.Graph (profile_of task.claim.widths) limits.graph (bytes_under before files.graph)) before after why ×
    ReadsGraph before after × (noted ≡ None)

-- ---- what users rest on

-- With `Proved` the desk holds the pair, where it tells its files and no two names are equal; and the verdict tells which file of the pair is
-- the first that is past the limits, if one is.
abbrev pub ProvedPairsAreHeld : Type 0
ProvedPairsAreHeld = (limits : Limits) (task : Task) (files : Files) (before after : View) (long : Option Slot) (noted : Option Note) →
    IsTold before → AreDistinct files.graph files.clauses files.algebra →
    IsVerdict limits task files before after (Proved long) noted → HoldsPair task files after limits.graph noted × IsFirstTooLongHeld limits files after long

-- a verdict without what it tells of lengths
abbrev pub judgement : Verdict → Verdict
judgement (Proved long) = Proved None
judgement given = given

-- The verdict that is due to a graph file where no frontier of the plain order is above the budget, where the least difference has few
-- ones, or where no graph is spelled.
abbrev pub IsVerdictDue : ℕ → Task → List ℕ → Verdict → Type 0
IsVerdictDue limit task file (Proved None) =
    (g : Aig) × SpellsWithin (profile_of task.claim.widths) limit file g × IsWithinBudget g task.claim task.budget × Does task.claim g
IsVerdictDue limit task file (Wrong d) =
    (g : Aig) × SpellsWithin (profile_of task.claim.widths) limit file g ×
    (IsWithinBudget g task.claim task.budget ⊎ HasFewOnes (inputs_at (sides_for task.claim g) d.numbers)) × IsWrong g task.claim d
IsVerdictDue limit task file (Stopped why) = IsGraphStop slot.Graph (profile_of task.claim.widths) limit (Some file) why
IsVerdictDue limit task file _ = ⊥

-- It is given, however long the certificates are; or in its place a fault, which was counted, or out of memory.
abbrev pub VerdictsAreExact : Type 0
VerdictsAreExact = (limits : Limits) (task : Task) (files : Files) (before after : View) (file : List ℕ)
    (due given : Verdict) (noted : Option Note) →
    bytes_under before files.graph ≡ Some file → IsVerdictDue limits.graph task file due →
    IsVerdict limits task files before after given noted → GivesDue Stopped before after due (judgement given)
