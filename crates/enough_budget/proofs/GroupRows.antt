-- Groups and slice plans of small made graphs, by computing.
use Rattle.std.specs.Prelude.{◌≡◌, [], ◌∷◌, map, length}
use Rattle.std.proofs.Common.{refl}
use Rattle.graph_core.specs.Graph.Extended.{without_cut}
use Rattle.frontier_core.specs.declared.step.Step.TheVariants.{Add, Eliminate}
use Rattle.graph_maker.specs.declared.kind.Kind.TheVariants.{Array, Dadda}
use Rattle.graph_maker.specs.declared.adder.Adder.TheVariants.{Ripple}
use Rattle.graph_maker.specs.Made.{made}
use Rattle.slice_planner.specs.Groups.{groups}
use Rattle.slice_planner.specs.SlicePlan.{slice_steps}

one_bit : groups (made Array 1 Ripple).gates ≡ (3 ∷ []) ∷ []
one_bit = refl

two_bits : groups (made Array 2 Ripple).gates ≡ (14 ∷ 13 ∷ 12 ∷ []) ∷ (11 ∷ 10 ∷ 9 ∷ []) ∷ (8 ∷ []) ∷ (7 ∷ []) ∷ (6 ∷ []) ∷ (5 ∷ []) ∷ []
two_bits = refl

three_bits : map length (groups (made Dadda 3 Ripple).gates) ≡ 7 ∷ 7 ∷ 7 ∷ 3 ∷ 3 ∷ 3 ∷ 1 ∷ 1 ∷ 1 ∷ 1 ∷ 1 ∷ 1 ∷ 1 ∷ 1 ∷ 1 ∷ []
three_bits = refl

plan_of_one_bit : slice_steps (without_cut (made Array 1 Ripple)) (groups (made Array 1 Ripple).gates) (λ k. groups (made Array 1 Ripple).gates) ≡ Add 1 ∷ Add 0 ∷ Eliminate 3 ∷ []
plan_of_one_bit = refl

plan_of_two_bits : slice_steps (without_cut (made Array 2 Ripple)) (groups (made Array 2 Ripple).gates) (λ k. groups (made Array 2 Ripple).gates) ≡
    Add 3 ∷ Add 2 ∷ Eliminate 14 ∷ Eliminate 13 ∷ Eliminate 12 ∷ Eliminate 8 ∷ Add 1 ∷ Eliminate 11 ∷ Eliminate 10 ∷ Eliminate 9 ∷ Eliminate 7 ∷ Eliminate 6 ∷ Add 0 ∷ Eliminate 5 ∷ []
plan_of_two_bits = refl
