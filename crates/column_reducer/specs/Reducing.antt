-- What a reduction answers.
use Rattle.std.specs.Prelude.{◌≡◌, ◌⊎◌, ℕ, ◌+◌, ◌<◌, ◌≤◌, List, length, take}
use Rattle.graph_core.specs.Graph.Assignments.{Assignment}
use Rattle.graph_core.specs.Graph.Operands.{Sides}
use Rattle.graph_core.specs.Graph.Extended.{Extended, modulus}
use Rattle.algebra_core.specs.AlgebraLines.{LiveLine, IsLive, specification, value_of}
use Rattle.algebra_core.specs.NormalForm.{HasSize}
use Rattle.algebra_core.specs.Polynomials.{difference}
use Rattle.poly_terms.specs.Tables.{Table, Sum, Extends, IsOf, value_in}
use Rattle.pac_writer.specs.Writing.{Made, written_ledger}
use Rattle.column_reducer.specs.declared.reduced.Reduced.{Reduced}
use Rattle.column_reducer.specs.declared.reduced.Reduced.TheVariants as answer
use Rattle.std.specs.declared.option.Option.TheVariants.{None}
use Rattle.frontier_core.specs.declared.step.Step.{Step}
use Rattle.frontier_core.specs.Plan.{IsPlan, nothing, taken, value_of_taken}

-- A plan over an extended graph, and how many of its steps come before the first frontier that counts.
pub record Planned : Type 0 where
  pub extended : Extended
  pub steps : List Step
  pub uncounted : ℕ

abbrev pub planned : Extended → List Step → ℕ → Planned
planned e steps uncounted = record { extended = e; steps = steps; uncounted = uncounted }

-- Each step leaves a frontier, and the last one that of all columns and gates.
pub record IsPlanned (p : Planned) : Type 0 where
  pub plan : IsPlan p.extended p.steps
  pub low : p.uncounted ≤ length p.steps

-- the frontier's function after so many of a plan's steps
abbrev pub value_after : Planned → Sides → ℕ → Assignment → ℕ
value_after p s i = value_of_taken p.extended s (taken nothing (take i p.steps))

-- The frontier that counts as this step's, from 0, has so many monomials.
abbrev pub HasSizeAt : Planned → Sides → ℕ → ℕ → Type 0
HasSizeAt p s step n = HasSize (modulus p.extended) (value_after p s (p.uncounted + step)) n

-- The first step that leaves a frontier with more monomials than the budget, and how many it has.
pub record IsPassed (p : Planned) (s : Sides) (budget step size : ℕ) : Type 0 where
  pub there : p.uncounted + step ≤ length p.steps
  pub above : budget < size
  pub has : HasSizeAt p s step size
  pub first : (i n : ℕ) → i < step → HasSizeAt p s i n → n ≤ budget

-- No frontier that counts has more monomials than the budget.
abbrev pub KeepsBudget : Planned → Sides → ℕ → Type 0
KeepsBudget p s budget = (i n : ℕ) → p.uncounted + i ≤ length p.steps → HasSizeAt p s i n → n ≤ budget

-- A polynomial has the last frontier's function, and a line is the specification minus it; id 0 counts as a line of value 0.
pub record IsLastRest (p : Planned) (s : Sides) (t : Table) (lines : List LiveLine) (poly : Sum) (id : ℕ) : Type 0 where
  pub of : IsOf t poly
  pub last : (σ : Assignment) → value_in t poly σ ≡ value_after p s (length p.steps) σ
  pub line : (id ≡ 0) ⊎ IsLive lines id
  pub differs : (σ : Assignment) → value_of lines id σ ≡ difference (modulus p.extended) (specification p.extended s σ) (value_in t poly σ)

-- Lines over this graph, these operands and this table, which aren't closed.
pub record AreLinesOver (e : Extended) (s : Sides) (t : Table) (l : Made) : Type 0 where
  pub extended : l.extended ≡ e
  pub sides : l.sides ≡ s
  pub table : l.table ≡ t
  pub unclosed : l.closing ≡ None

-- Lines go on: they are over the same graph and operands, the table has grown at most, and they aren't closed.
pub record ContinuesLines (old new : Made) : Type 0 where
  pub extended : new.extended ≡ old.extended
  pub sides : new.sides ≡ old.sides
  pub table : Extends old.table new.table
  pub unclosed : new.closing ≡ None

-- what a reduction answers
abbrev pub IsReduced : Planned → Sides → ℕ → Made → Reduced → Type 0
IsReduced p s budget l (answer.Rest poly id) = IsLastRest p s l.table (written_ledger l).live poly id × KeepsBudget p s budget
IsReduced p s budget l (answer.Passed step size) = IsPassed p s budget step size
