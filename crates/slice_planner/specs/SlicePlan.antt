-- The slice plan: columns from the last down, and after each column the groups that can be eliminated then, in their order.
use Rattle.std.specs.Prelude.{◌≡◌, ℕ, zero, suc, Bool, true, not, ◌&&◌, ◌||◌, List, [], ◌∷◌, ◌++◌, map, length, if◌then◌else◌, ◌==◌}
use Rattle.std.specs.List.{All, Contains}
use Rattle.graph_core.specs.declared.gate.Gate.{Gate}
use Rattle.graph_core.specs.declared.literal.Lit.{Lit}
use Rattle.graph_core.specs.Graph.Literals.{variable_of}
use Rattle.graph_core.specs.Graph.Extended.{Extended}
use Rattle.ripple_graft.specs.Extension.{new_outputs}
use Rattle.frontier_core.specs.declared.step.Step.{Step}
use Rattle.frontier_core.specs.declared.step.Step.TheVariants.{Add, Eliminate}
use Rattle.frontier_core.specs.Sets.{has}
use Rattle.frontier_core.specs.Plan.{Taken, nothing, step, taken, IsPlan}
use Rattle.slice_planner.specs.Groups.{GoesByGroups}
use Rattle.slice_planner.specs.GroupPlans.{AreGroups}

-- whether each gate that reads v was eliminated
abbrev pub readers_gone : List Gate → List ℕ → ℕ → Bool
readers_gone [] eliminated v = true
readers_gone (x ∷ gates) eliminated v =
    (not ((variable_of x.left == v) || (variable_of x.right == v)) || has eliminated x.v) && readers_gone gates eliminated v

-- whether each column from k on whose output is v's was added
abbrev pub outputs_added : List Lit → ℕ → List ℕ → ℕ → Bool
outputs_added [] k added v = true
outputs_added (l ∷ ls) k added v = (not (variable_of l == v) || has added k) && outputs_added ls (suc k) added v

abbrev pub can_go : Extended → Taken → ℕ → Bool
can_go e f v = has (map (λ x. x.v) e.gates) v &&
    (not (has f.eliminated v) && (readers_gone e.gates f.eliminated v && outputs_added (new_outputs e) 0 f.added v))

-- whether the gates of a group can be eliminated one after the other
abbrev pub can_all_go : Extended → Taken → List ℕ → Bool
can_all_go e f [] = true
can_all_go e f (v ∷ vs) = can_go e f v && can_all_go e (step f (Eliminate v)) vs

-- the groups that can be eliminated, each after those before it
abbrev pub swept : Extended → Taken → List (List ℕ) → List Step
swept e f [] = []
swept e f (group ∷ gs) = if can_all_go e f group then map Eliminate group ++ swept e (taken f (map Eliminate group)) gs else swept e f gs

-- The columns below k, from the last down; after column k the groups of `due k` are swept, and at the end all groups.
abbrev pub slices : Extended → List (List ℕ) → (ℕ → List (List ℕ)) → Taken → ℕ → List Step
slices e gs due f zero = swept e f gs
slices e gs due f (suc k) = Add k ∷ (swept e (step f (Add k)) (due k) ++ slices e gs due (taken (step f (Add k)) (swept e (step f (Add k)) (due k))) k)

abbrev pub slice_steps : Extended → List (List ℕ) → (ℕ → List (List ℕ)) → List Step
slice_steps e gs due = slices e gs due nothing (length e.graph.outputs)

-- the columns in the order in which they are added
abbrev pub columns_added : List Step → List ℕ
columns_added [] = []
columns_added (Add k ∷ steps) = k ∷ columns_added steps
columns_added (Eliminate v ∷ steps) = columns_added steps

abbrev pub count_down : ℕ → List ℕ
count_down zero = []
count_down (suc k) = k ∷ count_down k

-- Whatever groups are due, it is a plan, goes by groups, and adds the columns from the last down to 0.
abbrev pub SlicePlanServes : Type 0
SlicePlanServes = (e : Extended) (gs : List (List ℕ)) (due : ℕ → List (List ℕ)) → AreGroups e gs → ((k : ℕ) → All (Contains gs) (due k)) →
    IsPlan e (slice_steps e gs due) × GoesByGroups gs (slice_steps e gs due) × (columns_added (slice_steps e gs due) ≡ count_down (length e.graph.outputs))
