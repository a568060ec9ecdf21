-- Plans: the order in which columns are added and gates eliminated.
use Rattle.std.specs.Prelude.{◌≡◌, ℕ, ◌<◌, ◌≤◌, ◌⊎◌, true, false, List, [], ◌∷◌, ◌++◌, map, length, take, slice_get}
use Rattle.std.specs.declared.option.Option.TheVariants.{Some}
use Rattle.std.specs.List.{All}
use Rattle.graph_core.specs.declared.literal.Lit.{Lit}
use Rattle.graph_core.specs.Graph.Literals.{variable_of}
use Rattle.graph_core.specs.Graph.Assignments.{Assignment}
use Rattle.graph_core.specs.Graph.Operands.{Sides}
use Rattle.graph_core.specs.Graph.Extended.{Extended}
use Rattle.ripple_graft.specs.Extension.{new_outputs, IsExtension}
use Rattle.frontier_core.specs.declared.step.Step.{Step}
use Rattle.frontier_core.specs.declared.step.Step.TheVariants.{Add, Eliminate}
use Rattle.frontier_core.specs.Sets.{has}
use Rattle.frontier_core.specs.Columns.{all_columns}
use Rattle.frontier_core.specs.Frontier.{IsFrontier, IsLastFrontier, frontier_value}
use Rattle.frontier_core.specs.PlainOrder.{IsPlainOrder}

-- The columns that were added and the gates that were eliminated, the latest first.
pub record Taken : Type 0 where
  pub added : List ℕ
  pub eliminated : List ℕ

abbrev pub nothing : Taken
nothing = record { added = []; eliminated = [] }

abbrev pub step : Taken → Step → Taken
step f (Add k) = record { added = k ∷ f.added; eliminated = f.eliminated }
step f (Eliminate v) = record { added = f.added; eliminated = v ∷ f.eliminated }

abbrev pub taken : Taken → List Step → Taken
taken f [] = f
taken f (s ∷ ss) = taken (step f s) ss

abbrev pub IsFrontierOf : Extended → Taken → Type 0
IsFrontierOf e f = IsFrontier e f.added f.eliminated

abbrev pub value_of_taken : Extended → Sides → Taken → Assignment → ℕ
value_of_taken e s f = frontier_value e s f.added f.eliminated

-- A gate can be eliminated where its readers are and the columns whose output it is were added.
pub record CanEliminate (e : Extended) (f : Taken) (v : ℕ) : Type 0 where
  pub gate : has (map (λ x. x.v) e.gates) v ≡ true
  pub new : has f.eliminated v ≡ false
  pub readers : All (λ x. (variable_of x.left ≡ v) ⊎ (variable_of x.right ≡ v) → has f.eliminated x.v ≡ true) e.gates
  pub outputs : (k : ℕ) (l : Lit) → slice_get (new_outputs e) k ≡ Some l → variable_of l ≡ v → has f.added k ≡ true

abbrev pub CanFollow : Extended → Taken → Step → Type 0
CanFollow e f (Add k) = (k < length e.graph.outputs) × (has f.added k ≡ false)
CanFollow e f (Eliminate v) = CanEliminate e f v

abbrev pub AreSteps : Extended → Taken → List Step → Type 0
AreSteps e f [] = Unit {0}
AreSteps e f (s ∷ ss) = CanFollow e f s × AreSteps e (step f s) ss

-- A plan: steps that can follow one another, up to the last frontier.
pub record IsPlan (e : Extended) (steps : List Step) : Type 0 where
  pub follow : AreSteps e nothing steps
  pub last : IsLastFrontier e (taken nothing steps).added (taken nothing steps).eliminated

-- Each front of steps that follow one another leaves a frontier, and the next step can follow there.
abbrev pub PlanLeavesFrontiers : Type 0
PlanLeavesFrontiers = (e : Extended) (steps : List Step) (t : ℕ) → AreSteps e nothing steps →
    IsFrontierOf e (taken nothing (take t steps)) × ((s : Step) → slice_get steps t ≡ Some s → CanFollow e (taken nothing (take t steps)) s)

-- One more step at the end.
abbrev pub StepIsPushed : Type 0
StepIsPushed = (e : Extended) (f : Taken) (steps : List Step) (s : Step) → (taken f (steps ++ s ∷ []) ≡ step (taken f steps) s) ×
    (AreSteps e f steps → CanFollow e (taken f steps) s → AreSteps e f (steps ++ s ∷ []))

-- the plain plan: all columns, and then the gates in the plain order
abbrev pub plain_steps : Extended → List ℕ → List Step
plain_steps e vs = map Add (all_columns e) ++ map Eliminate vs

-- It is a plan, and after t gates it has the plain order's frontier.
abbrev pub PlainPlanIsPlan : Type 0
PlainPlanIsPlan = (e : Extended) (vs : List ℕ) → IsExtension e → IsPlainOrder e.gates vs → IsPlan e (plain_steps e vs) ×
    ((s : Sides) (t : ℕ) → t ≤ length vs → (σ : Assignment) →
    value_of_taken e s (taken nothing (map Add (all_columns e) ++ map Eliminate (take t vs))) σ ≡ frontier_value e s (all_columns e) (take t vs) σ)
