-- What plans run over and come to, and what is told of it. Private clauses alone cite this file.
use Rattle.std.specs.Prelude.{◌≡◌, ◌⊎◌, ℕ, ◌+◌, ◌*◌, ◌≤◌, ◌&&◌, not, if◌then◌else◌, Bool, true, false, List, [], length, option_map, take, IfSome, IsSome, ⊤}
use Rattle.std.specs.declared.option.Option.{Option}
use Rattle.std.specs.declared.option.Option.TheVariants.{None, Some}
use Rattle.clause_core.specs.ClauseLines.{AreLawfulClauseLines}
use Rattle.column_reducer.specs.Reducing.{ContinuesLines, IsLastRest, IsPassed, planned}
use Rattle.command_core.specs.Files.{Files}
use Rattle.command_core.specs.Written.{StopsWriting, WritesPair}
use Rattle.command_core.specs.declared.stop.Stop.TheVariants as stop
use Rattle.frontier_core.specs.LastFrontier.{AgreeEverywhere}
use Rattle.frontier_core.specs.LeastDifference.{IsLeastDifferenceAt}
use Rattle.frontier_core.specs.declared.step.Step.{Step}
use Rattle.frontier_core.specs.Plan.{IsPlan, nothing, taken}
use Rattle.graph_core.specs.Aiger.Sizes.{IsSizedAs}
use Rattle.graph_core.specs.Graph.Extended.{modulus}
use Rattle.graph_core.specs.Graph.{Aig, IsWellFormed}
use Rattle.graph_core.specs.Graph.Operands.{AreInRange, AreOperandsOf, Does, Sides, inputs_at, profile_of, sides_for}
use Rattle.graph_core.specs.declared.claim.Claim.{Claim}
use Rattle.graph_core.specs.declared.numbers.Numbers.{Numbers}
use Rattle.graph_core.specs.Text.JudgedLines.{Lengths}
use Rattle.mv_desk.specs.View.{View, Rose}
use Rattle.mv_text.specs.LineReading.{lengths_of}
use Rattle.mv_desk.specs.declared.slot.Slot.{Slot}
use Rattle.pac_writer.specs.Writing.{Made, written_ledger}
use Rattle.pair_core.specs.Texts.{CanBeWritten, algebra_text, clauses_text}
use Rattle.pair_core.specs.declared.pair.Pair.{Pair}
use Rattle.pair_limits.specs.TooLong.{IsFirstTooLong}
use Rattle.poly_terms.specs.Tables.{Sum, modulus_in}
use Rattle.ripple_graft.specs.Extension.{IsExtension}
use Rattle.joint_prover.specs.declared.reference.Compared.{Compared}
use Rattle.joint_prover.specs.declared.reference.Compared.TheVariants as compared
use Rattle.joint_prover.specs.declared.replacement.Replacement.{Replacement}
use Rattle.slice_planner.specs.Slices.{IsSlicePlan}
use Rattle.slice_planner.specs.declared.order.Order.{Order}
use Rattle.slice_planner.specs.declared.order.Order.TheVariants.{Slices}
use Rattle.stage_rewriter.specs.Placing.{IsShownBeside}
use Rattle.joint_prover.specs.declared.decision.Decision.{Decision}
use Rattle.joint_prover.specs.declared.decision.Decision.TheVariants as decision
use Rattle.joint_prover.specs.declared.decision.Outcome.{Outcome}
use Rattle.joint_prover.specs.declared.decision.Plainly.{Plainly}
use Rattle.joint_prover.specs.declared.decision.Plainly.TheVariants as plainly
use Rattle.joint_prover.specs.declared.ended.Ended.{Ended}
use Rattle.joint_prover.specs.declared.decision.Outcome.TheVariants.{Decided, Passed}
use Rattle.joint_prover.specs.declared.note.Note.{Note}
use Rattle.joint_prover.specs.declared.replacement.Replacement.TheVariants.{Adder, Beside}
use Rattle.joint_prover.specs.declared.replacement.Lent.{Lent}
use Rattle.joint_prover.specs.declared.replacement.Lent.TheVariants as lend
use Rattle.joint_prover.specs.declared.shown.Shown.{Shown}
use Rattle.joint_prover.specs.declared.task.Job.{Job}
use Rattle.command_core.specs.declared.task.Task.{Task}
use Rattle.joint_prover.specs.declared.verdict.Tried.{Tried}
use Rattle.joint_prover.specs.declared.verdict.Verdict.{Verdict}
use Rattle.joint_prover.specs.declared.verdict.Verdict.TheVariants as verdict
use Rattle.joint_prover.specs.Decisions.{IsDecision}
use Rattle.joint_prover.specs.Notes.{IsFound}
use Rattle.joint_prover.specs.Pairs.{IsPairOver}
use Rattle.joint_prover.specs.Replacements.{IsAllowed, IsVersion, Takes, extended_by}
use Rattle.joint_prover.specs.Tries.{AreTried, EndsWithinBy, IsWithinBudget}
use Rattle.joint_prover.specs.Verdicts.{IsFirstAbove, IsWrong}

-- ---- the graphs that plans run over

-- what is lent
abbrev pub lent : Lent → Replacement
lent (lend.Adder cut) = Adder cut.now
lent (lend.Beside b) = Beside b.now

-- what takes the place of outputs, if anything does
abbrev pub replacement_named : Shown → Option Replacement
replacement_named s = option_map lent s.by

-- It is the graph with that, or the graph alone. The new outputs are the old ones, and lines show it, of which there are few.
pub record IsShown (g : Aig) (task : Task) (s : Shown) : Type 0 where
  pub extended : s.extended.now ≡ extended_by g (replacement_named s)
  pub takes : Takes g (replacement_named s)
  pub allowed : IsAllowed task.version (replacement_named s)
  pub agree : AgreeEverywhere (extended_by g (replacement_named s))
  pub lawful : AreLawfulClauseLines (extended_by g (replacement_named s)) s.log.now
  pub few : length s.log.now ≤ 2 * (task.conflicts + 2 * length g.outputs)
  pub none : replacement_named s ≡ None → s.log.now ≡ []

-- The operands are those that their claim names in the graph, which has no fault and is of a size for it; that is what is asked; and the
-- version of certificates is one.
pub record IsJob (job : Job) : Type 0 where
  pub operands : AreOperandsOf job.graph.now job.operands.now
  pub sized : IsSizedAs (profile_of job.operands.now.claim.widths) job.graph.now
  pub claim : job.operands.now.claim ≡ job.task.claim
  pub well_formed : IsWellFormed job.graph.now
  pub version : IsVersion job.task.version

-- what is in use: what was found, or the adder that is used
abbrev pub replacement_of_found : Option Replacement → Option Replacement → Option Replacement
replacement_of_found used None = used
replacement_of_found used (Some r) = Some r

-- ---- a plan

-- Lines over a graph with or without an adder, of which none was written.
pub record IsStart (l : Made) : Type 0 where
  pub sides : AreOperandsOf l.extended.graph l.sides
  pub same_modulus : modulus_in l.table ≡ modulus l.extended
  pub lines : l.lines ≡ []
  pub unclosed : l.closing ≡ None
  pub sized : IsSizedAs (profile_of l.sides.claim.widths) l.extended.graph
  pub extension : IsExtension l.extended
  pub agree : AgreeEverywhere l.extended

-- There are at most 16 lines for each gate, and 32 more.
abbrev pub AreFew : Made → Type 0
AreFew l = length l.lines ≤ 16 * (length l.extended.gates + 2)

-- A plan was reduced to its end and left this remainder, and the lines go on; they are few.
pub record IsRemainder (old new : Made) (poly : Sum) (id : ℕ) : Type 0 where
  pub steps : List Step
  pub uncounted : ℕ
  pub plan : IsPlan old.extended steps
  pub goes_on : ContinuesLines old new
  pub rest : IsLastRest (planned old.extended steps uncounted) old.sides new.table (written_ledger new).live poly id
  pub few : AreFew new

-- The numbers stand for the least values of the inputs at which the graph isn't what is claimed.
pub record AreLeast (g : Aig) (s : Sides) (x : Numbers) : Type 0 where
  pub least : IsLeastDifferenceAt g s (inputs_at s x)
  pub range : AreInRange s x

-- Lines over the graph with this or alone are few and closed, and the graph does what is claimed.
pub record IsProof (g : Aig) (claim : Claim) (r : Option Replacement) (l : Made) : Type 0 where
  pub extended : l.extended ≡ extended_by g r
  pub sides : l.sides ≡ sides_for claim g
  pub few : AreFew l
  pub closed : IsSome l.closing
  pub does : Does claim g

-- The columns and gates that the first steps have taken, the latest first.
pub record IsTriedAt (steps : List Step) (count size : ℕ) (rewritten : Bool) (tried : Tried) : Type 0 where
  pub rewritten_is : tried.rewritten ≡ rewritten
  pub columns : tried.columns.items ≡ (taken nothing (take count steps)).added
  pub gates : tried.gates.items ≡ (taken nothing (take count steps)).eliminated
  pub size_is : tried.size ≡ size

-- ---- what a plan decides

-- the least numbers on which the graph differs
abbrev pub IsWrongAs : Aig → Claim → Decision → Type 0
IsWrongAs g claim (decision.Wrong d) = IsWrong g claim d
IsWrongAs g claim _ = ⊥

-- over the graph with this or alone
abbrev pub Decides : Aig → Task → Option Replacement → Decision → Type 0
Decides g task r (decision.Proved p) = Does task.claim g × CanBeWritten p × IsPairOver g task r (clauses_text p) (algebra_text p)
Decides g task r d = IsWrongAs g task.claim d

-- and by a plan that keeps to the budget
abbrev pub IsEnd : Aig → Task → Option Replacement → Decision → Type 0
IsEnd g task r d = EndsWithinBy g task.claim task.budget r × Decides g task r d

-- with whatever is in use, where plans were tried and passed the budget
abbrev pub DecidesAtLast : Aig → Task → List Tried → Decision → Type 0
DecidesAtLast g task tried d = (used : Option Replacement) → AreTried g task.claim task.budget used tried → IsDecision g task used d

-- what the plain plan comes to over the graph alone
abbrev pub IsPlainEnd : Aig → Task → Plainly → Type 0
IsPlainEnd g task (plainly.Decided d) = IsWithinBudget g task.claim task.budget × Decides g task None d
IsPlainEnd g task (plainly.Passed step size) = IsFirstAbove g task.claim task.budget step size

-- what a plan comes to; of a slice plan it is known where it passed its budget
abbrev pub IsOutcome : Aig → Task → Option Replacement → Order → ℕ → Outcome → Type 0
IsOutcome g task r order budget (Decided d) = IsEnd g task r d
IsOutcome g task r order budget (Passed plan step size) = order ≡ Slices →
    IsSlicePlan (extended_by g r) plan.steps × IsPassed (planned (extended_by g r) plan.steps 0) (sides_for task.claim g) budget step size

-- What comes of a reference beside the graph: it is shown, by lines of which there are few; or the graph is wrong at some numbers.
abbrev pub IsCompared : Job → ℕ → Compared → Type 0
IsCompared job conflicts (compared.Equal placed) = IsShownBeside job.graph.now conflicts placed × AgreeEverywhere placed.extended
IsCompared job conflicts (compared.Wrong x) = AreInRange job.operands.now x
IsCompared job conflicts compared.Open = ⊤

-- ---- what several plans decide

-- a pair that it has can be written
abbrev pub HasWritable : Decision → Type 0
HasWritable (decision.Proved p) = CanBeWritten p
HasWritable d = ⊤

-- a pair that it has is within the limits
abbrev pub IsShort : Lengths → Decision → Type 0
IsShort lengths (decision.Proved p) = IsFirstTooLong lengths (clauses_text p) (algebra_text p) None
IsShort lengths d = ⊤

-- Whether it is so is told.
pub record IsMeasured (lengths : Lengths) (e : Ended) : Type 0 where
  pub short : e.is_long ≡ false → IsShort lengths e.decision
  pub long : e.is_long ≡ true → ¬ (IsShort lengths e.decision)

-- A plan over the graph with this or alone has decided this.
pub record IsEndedOver (job : Job) (r : Option Replacement) (e : Ended) : Type 0 where
  pub decides : Decides job.graph.now job.task r e.decision
  pub found : e.found ≡ None
  pub measured : IsMeasured (lengths_of job.limits) e

-- Plans have decided this, with what is in use or what was found.
pub record IsEndedFor (job : Job) (used : Option Replacement) (e : Ended) : Type 0 where
  pub decision : IsDecision job.graph.now job.task (replacement_of_found used e.found) e.decision
  pub found : IfSome e.found (IsFound job.graph.now)
  pub measured : IsMeasured (lengths_of job.limits) e

-- with what was found, whatever is in use
abbrev pub IsEndedWithFound : Job → Ended → Type 0
IsEndedWithFound job e = (used : Option Replacement) → IsEndedFor job used e

-- the same over the graph with what was found
abbrev pub over_replacement : Replacement → Ended → Ended
over_replacement r e = record { decision = e.decision; found = Some r; is_long = e.is_long }

-- something is decided, and by no pair past the limits
abbrev pub is_settled : Option Ended → Bool
is_settled None = false
is_settled (Some e) = not e.is_long

-- the first, unless it is long and the later one isn't
abbrev pub shorter : Ended → Option Ended → Ended
shorter first None = first
shorter first (Some later) = if first.is_long && not later.is_long then later else first

-- the first that isn't long, or else the first
abbrev pub first_short : Option Ended → Option Ended → Option Ended
first_short None later = later
first_short (Some first) later = Some (shorter first later)

-- ---- what is told

-- Of a pair: it is written, and it is told whether a file is too long; or writing it stops.
abbrev pub IsToldPair : Lengths → Files → View → View → Pair → Verdict → Type 0
IsToldPair lengths files before after p v =
    ((long : Option Slot) × (v ≡ verdict.Proved long) × WritesPair files (clauses_text p) (algebra_text p) before after ×
    IsFirstTooLong lengths (clauses_text p) (algebra_text p) long) ⊎
    ((v ≡ verdict.Stopped stop.WriteFault) × Rose before.write_faults after.write_faults ×
    StopsWriting files (λ text. text ≡ clauses_text p) (λ beside text. text ≡ algebra_text p) before after)

-- Of a decision: that of its pair; or nothing is done to the files.
abbrev pub IsToldAs : Lengths → Files → View → View → Decision → Verdict → Type 0
IsToldAs lengths files before after (decision.Proved p) v = IsToldPair lengths files before after p v
IsToldAs lengths files before after (decision.Wrong d) v = (v ≡ verdict.Wrong d) × (after ≡ before)
IsToldAs lengths files before after (decision.Undecided tried step size seen) v = (v ≡ verdict.Undecided tried step size seen) × (after ≡ before)

-- with each verdict but a stop
abbrev pub note_beside : Verdict → Note → Option Note
note_beside (verdict.Stopped why) n = None
note_beside v n = Some n

-- Of a decision with its note: a pair is written, of which it is told whether a file is too long, or writing it stops; else nothing is done
-- to the files.
abbrev pub IsTold : Lengths → Files → View → View → Decision → Note → Verdict → Option Note → Type 0
IsTold lengths files before after (decision.Proved p) n v noted =
    ((long : Option Slot) × (v ≡ verdict.Proved long) × (noted ≡ Some n) × WritesPair files (clauses_text p) (algebra_text p) before after ×
    IsFirstTooLong lengths (clauses_text p) (algebra_text p) long) ⊎
    ((v ≡ verdict.Stopped stop.WriteFault) × (noted ≡ None) × Rose before.write_faults after.write_faults ×
    StopsWriting files (λ text. text ≡ clauses_text p) (λ beside text. text ≡ algebra_text p) before after)
IsTold lengths files before after (decision.Wrong d) n v noted = (v ≡ verdict.Wrong d) × (noted ≡ Some n) × (after ≡ before)
IsTold lengths files before after (decision.Undecided tried step size seen) n v noted = (v ≡ verdict.Undecided tried step size seen) × (noted ≡ Some n) × (after ≡ before)
