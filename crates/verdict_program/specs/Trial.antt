-- Which multiplier a number names, what `trial` says of it, and when.
use Rattle.std.specs.Prelude.{◌≡◌, ℕ, ◌+◌, ◌-◌, ◌/◌, ◌%◌, ◌^◌, ◌==◌, List, Some, codes, length, if◌then◌else◌, ⊤}
use Rattle.command_core.specs.declared.stop.Stop.{Stop}
use Rattle.command_core.specs.declared.stop.Stop.TheVariants as stop
use Rattle.command_line.specs.Asked.{default_budget, default_conflicts}
use Rattle.graph_core.specs.Aiger.{Spells}
use Rattle.graph_core.specs.Aiger.Writing.{ascii_text}
use Rattle.graph_core.specs.Graph.{Aig}
use Rattle.graph_core.specs.Graph.Operands.{Multiplies, product_under}
use Rattle.graph_core.specs.declared.order.Order.TheVariants.{Separate}
use Rattle.graph_core.specs.declared.profile.Profile.TheVariants.{Multiplier as TwoOperands}
use Rattle.graph_maker.specs.declared.adder.Adder.{Adder}
use Rattle.graph_maker.specs.declared.adder.Adder.TheVariants.{Ripple, Kogge, Sklansky}
use Rattle.graph_maker.specs.declared.kind.Kind.{Kind}
use Rattle.graph_maker.specs.declared.kind.Kind.TheVariants.{Array, Dadda}
use Rattle.pair_core.specs.Certificates.{IsLawfulPair}
use Rattle.command_core.specs.Files.{Files}
use Rattle.joint_prover.specs.Notes.{IsNote, replacement_of}
use Rattle.joint_prover.specs.Pairs.{IsPairFor}
use Rattle.joint_prover.specs.Tries.{AreTried, IsWithinBudget}
use Rattle.joint_prover.specs.Verdicts.{HoldsPair, IsFirstAbove}
use Rattle.joint_prover.specs.declared.note.Note.{Note}
use Rattle.command_core.specs.declared.task.Task.{Task}
use Rattle.joint_prover.specs.declared.verdict.Tried.{Tried}
use Rattle.mv_desk.specs.View.{View, bytes_under}
use Rattle.mv_desk.specs.declared.limits.Limits.{Limits}
use Rattle.mv_text.specs.LineReading.{lengths_of}
use Rattle.verdict_program.specs.Making.{sample_graph}
use Rattle.verdict_program.specs.declared.sample.Sample.{Sample}
use Rattle.verdict_program.specs.declared.tested.Multiplier.{Multiplier}
use Rattle.verdict_program.specs.declared.tested.Tested.{Tested}
use Rattle.verdict_program.specs.declared.tested.Tested.TheVariants.{Accepted, Undecided, Memory}

-- ---- which multiplier

abbrev pub kind_of : ℕ → Kind
kind_of number = if number % 2 == 0 then Array else Dadda

abbrev pub adder_of : ℕ → Adder
adder_of number = if number / 2 % 3 == 0 then Ripple else (if number / 2 % 3 == 1 then Kogge else Sklansky)

-- the multiplier that a number names
abbrev pub sample_of : ℕ → Sample
sample_of number = record { kind = kind_of number; bits = 1 + number / 6 % 64; adder = adder_of number }

-- with how many gates it has
abbrev pub multiplier_of : ℕ → Multiplier
multiplier_of number = record { sample = sample_of number; gates = length (sample_graph (sample_of number)).gates }

-- ---- what is said of it

-- what is asked: the product under the order `separate`, within the default budgets, by certificates of version 1
abbrev pub trial_task : Task
trial_task = record { claim = product_under Separate; budget = default_budget; conflicts = default_conflicts; version = 1 }

-- the lengths that files in memory may have
abbrev pub no_limits : Limits
no_limits = record { graph = 2 ^ 64 - 1; certificate = 2 ^ 64 - 1; line = 2 ^ 64 - 1 }

-- Something holds of the graph that the made graph's ascii text spells.
abbrev pub OfMade : Sample → (Aig → Type 0) → Type 0
OfMade sample P = (g : Aig) × Spells TwoOperands (ascii_text (sample_graph sample)) g × P g

-- The graph multiplies, the note has its cause, and there is a lawful pair of certificates: the pair that is written with what the note names.
pub record IsAcceptedWith (note : Note) (g : Aig) : Type 0 where
  pub multiplies : Multiplies g Separate
  pub noted : IsNote g trial_task.claim trial_task.conflicts note
  pub clauses : List ℕ
  pub algebra : List ℕ
  pub written : IsPairFor g trial_task (replacement_of note) clauses algebra
  pub lawful : IsLawfulPair (lengths_of no_limits) g (product_under Separate) clauses algebra

-- This is the plain order's first frontier above the budget, the note has its cause, and each plan that was tried before has a frontier
-- above the budget.
pub record IsUndecidedWith (step size : ℕ) (note : Note) (g : Aig) : Type 0 where
  pub first : IsFirstAbove g trial_task.claim trial_task.budget step size
  pub noted : IsNote g trial_task.claim trial_task.conflicts note
  pub tried : List Tried
  pub above : AreTried g trial_task.claim trial_task.budget (replacement_of note) tried

-- Where each answer comes, and of which multiplier.
abbrev pub IsTested : Multiplier → Tested → Type 0
IsTested asked (Accepted multiplier note) = (multiplier ≡ asked) × OfMade asked.sample (IsAcceptedWith note)
IsTested asked (Undecided multiplier step size note) = (multiplier ≡ asked) × OfMade asked.sample (IsUndecidedWith step size note)
IsTested asked Memory = ⊤

-- The answer that is due: acceptance, where no frontier of the plain order is above the budget.
abbrev pub IsTestDue : Sample → Tested → Type 0
IsTestDue sample (Accepted m n) = OfMade sample (λ g. IsWithinBudget g trial_task.claim trial_task.budget)
IsTestDue sample _ = ⊥

-- ---- private clauses alone cite what follows

-- what a desk in memory refuses: to write, or memory
abbrev pub IsOfMemory : Stop → Type 0
IsOfMemory stop.WriteFault = ⊤
IsOfMemory stop.Memory = ⊤
IsOfMemory _ = ⊥

-- the names of the files in memory
abbrev pub trial_files : Files
trial_files = record { graph = codes "graph"; clauses = codes "clauses"; algebra = codes "algebra" }

-- the graph file is held
abbrev pub HoldsGraph : View → Sample → Type 0
HoldsGraph view sample = bytes_under view trial_files.graph ≡ Some (ascii_text (sample_graph sample))

-- and a lawful pair of certificates for what it spells
abbrev pub HoldsTrial : View → Note → Type 0
HoldsTrial view note = HoldsPair trial_task trial_files view no_limits.graph (Some note)
