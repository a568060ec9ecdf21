-- The gates of a graph in groups: half and full adders that are written one gate after the other, and single gates.
use Rattle.std.specs.Prelude.{◌≡◌, ℕ, zero, suc, ◌⊎◌, Bool, true, false, List, [], ◌∷◌, ◌++◌, map, length, take, drop, reverse, if◌then◌else◌}
use Rattle.std.specs.List.{All, Any}
use Rattle.graph_core.specs.declared.gate.Gate.{Gate}
use Rattle.frontier_core.specs.declared.step.Step.{Step}
use Rattle.frontier_core.specs.Sets.{has}
use Rattle.frontier_core.specs.Plan.{nothing, taken}
use Rattle.slice_planner.specs.Positions.{is_half, is_full}

-- of a list with the last gate first: whether its first seven are a full adder, its first three a half adder
abbrev pub ends_full : List Gate → Bool
ends_full (h ∷ s ∷ f ∷ e ∷ t ∷ w ∷ u ∷ gates) = is_full u w t e f s h
ends_full _ = false

abbrev pub ends_half : List Gate → Bool
ends_half (t ∷ w ∷ u ∷ gates) = is_half u w t
ends_half _ = false

abbrev pub group_size : List Gate → ℕ
group_size gates = if ends_full gates then 7 else (if ends_half gates then 3 else 1)

-- the groups of such a list; as many steps as gates are enough
abbrev pub groups_of : ℕ → List Gate → List (List ℕ)
groups_of zero gates = []
groups_of (suc k) [] = []
groups_of (suc k) (x ∷ gates) = map (λ y. y.v) (take (group_size (x ∷ gates)) (x ∷ gates)) ∷ groups_of k (drop (group_size (x ∷ gates)) (x ∷ gates))

-- The groups of the gates as they are listed, the last one first.
abbrev pub groups : List Gate → List (List ℕ)
groups gates = groups_of (length gates) (reverse gates)

-- ---- plans that go by groups

abbrev pub IsWhole : List ℕ → List ℕ → Type 0
IsWhole eliminated group = All (λ v. has eliminated v ≡ true) group ⊎ All (λ v. has eliminated v ≡ false) group

-- Of gates that are eliminated, the latest first: some of one group, and before them whole groups.
pub record AreByGroups (gs : List (List ℕ)) (eliminated : List ℕ) : Type 0 where
  pub part : List ℕ
  pub whole : List ℕ
  pub both : eliminated ≡ part ++ whole
  pub unsplit : All (IsWhole whole) gs
  pub one : (part ≡ []) ⊎ Any (λ group. All (λ v. has group v ≡ true) part) gs

-- A plan goes by groups where one group after the other is eliminated.
abbrev pub GoesByGroups : List (List ℕ) → List Step → Type 0
GoesByGroups gs steps = (t : ℕ) → AreByGroups gs (taken nothing (take t steps)).eliminated
