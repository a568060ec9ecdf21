-- Plans that eliminate the gates of a graph group by group.
use Rattle.std.specs.Prelude.{◌≡◌, ◌≢◌, ℕ, ◌<◌, ◌⊎◌, true, false, List, [], ◌∷◌, ◌++◌, map, length}
use Rattle.std.specs.List.{All, AllPairs, concat}
use Rattle.graph_core.specs.declared.gate.Gate.{Gate}
use Rattle.graph_core.specs.Graph.Literals.{variable_of}
use Rattle.graph_core.specs.Graph.Extended.{Extended}
use Rattle.ripple_graft.specs.Extension.{IsExtension}
use Rattle.frontier_core.specs.declared.step.Step.{Step}
use Rattle.frontier_core.specs.declared.step.Step.TheVariants.{Add, Eliminate}
use Rattle.frontier_core.specs.Sets.{has}
use Rattle.frontier_core.specs.PlainOrder.{IsPlainOrder}
use Rattle.frontier_core.specs.Plan.{Taken, nothing, taken, AreSteps, IsPlan}
use Rattle.slice_planner.specs.Groups.{groups, IsWhole, GoesByGroups}

-- each gate that reads one of these variables was seen, or stands before it
abbrev pub AreReadersFirst : List Gate → List ℕ → List ℕ → Type 0
AreReadersFirst gates seen [] = Unit {0}
AreReadersFirst gates seen (v ∷ vs) = All (λ x. (variable_of x.left ≡ v) ⊎ (variable_of x.right ≡ v) → has seen x.v ≡ true) gates ×
    AreReadersFirst gates (v ∷ seen) vs

-- Groups that have all gates, each once, with a gate's readers before it.
pub record AreGroups (e : Extended) (gs : List (List ℕ)) : Type 0 where
  pub all : All (λ x. has (concat gs) x.v ≡ true) e.gates
  pub gates : All (λ v. has (map (λ x. x.v) e.gates) v ≡ true) (concat gs)
  pub once : AllPairs ◌≢◌ (concat gs)
  pub order : AreReadersFirst e.gates [] (concat gs)

-- Steps that end between two groups, and go by groups.
pub record AreAtGroups (e : Extended) (gs : List (List ℕ)) (steps : List Step) : Type 0 where
  pub follow : AreSteps e nothing steps
  pub unsplit : All (IsWhole (taken nothing steps).eliminated) gs
  pub by_groups : GoesByGroups gs steps

-- No step at first.
abbrev pub FirstGroups : Type 0
FirstGroups = (e : Extended) (gs : List (List ℕ)) → AreAtGroups e gs []

-- One more column.
abbrev pub ColumnIsPushed : Type 0
ColumnIsPushed = (e : Extended) (gs : List (List ℕ)) (steps : List Step) (k : ℕ) → AreAtGroups e gs steps → k < length e.graph.outputs →
    has (taken nothing steps).added k ≡ false → AreAtGroups e gs (steps ++ Add k ∷ [])

-- One more group, where its gates can be eliminated one after the other.
abbrev pub GroupIsPushed : Type 0
GroupIsPushed = (e : Extended) (gs before after : List (List ℕ)) (group : List ℕ) (steps : List Step) → AreGroups e gs →
    gs ≡ before ++ group ∷ after → AreAtGroups e gs steps → AreSteps e (taken nothing steps) (map Eliminate group) →
    AreAtGroups e gs (steps ++ map Eliminate group)

-- With all columns, the first group that is left can be eliminated.
abbrev pub NextGroupFollows : Type 0
NextGroupFollows = (e : Extended) (gs before after : List (List ℕ)) (group : List ℕ) (f : Taken) → AreGroups e gs → gs ≡ before ++ group ∷ after →
    ((k : ℕ) → k < length e.graph.outputs → has f.added k ≡ true) → All (λ v. has f.eliminated v ≡ true) (concat before) →
    All (λ v. has f.eliminated v ≡ false) group → AreSteps e f (map Eliminate group)

-- With all columns and all groups the steps are a plan.
abbrev pub GroupsFinish : Type 0
GroupsFinish = (e : Extended) (gs : List (List ℕ)) (steps : List Step) → AreGroups e gs → AreAtGroups e gs steps →
    ((k : ℕ) → k < length e.graph.outputs → has (taken nothing steps).added k ≡ true) →
    All (λ v. has (taken nothing steps).eliminated v ≡ true) (concat gs) → IsPlan e steps

-- each gate reads no later one, and not itself
abbrev pub AreInOrder : List Gate → Type 0
AreInOrder [] = Unit {0}
AreInOrder (x ∷ gates) = All (λ y. (variable_of x.left ≢ y.v) × (variable_of x.right ≢ y.v)) (x ∷ gates) × AreInOrder gates

-- Where the gates are listed in such an order, the groups of the list serve.
abbrev pub ListedGroupsServe : Type 0
ListedGroupsServe = (e : Extended) → IsExtension e → AreInOrder e.gates → AreGroups e (groups e.gates)

-- The gates in the plain order, each alone, serve for every graph.
abbrev pub PlainGroupsServe : Type 0
PlainGroupsServe = (e : Extended) (vs : List ℕ) → IsExtension e → IsPlainOrder e.gates vs → AreGroups e (map (λ v. v ∷ []) vs)
