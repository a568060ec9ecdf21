-- A frontier is a set of columns and a set of gates.
use Rattle.std.specs.Prelude.{◌≡◌, ℕ, suc, ◌+◌, ◌%◌, ◌<◌, true, cond, List, [], ◌∷◌, length, map, slice_index_or}
use Rattle.std.specs.List.{All}
use Rattle.std.proofs.Common.{refl, sym, ap, ap₂, ◌∙◌, inl, inr, ⊎_elim}
use Rattle.std.proofs.lemmas.List.Elements.{recursion_from_All, filter_agree}
use Rattle.graph_core.specs.declared.literal.Lit.{Lit}
use Rattle.graph_core.specs.Graph.Literals.{variable_of}
use Rattle.graph_core.specs.Graph.Assignments.{Assignment}
use Rattle.graph_core.specs.Graph.{evaluation}
use Rattle.graph_core.specs.Graph.Operands.{Sides}
use Rattle.graph_core.specs.Graph.Extended.{modulus}
use Rattle.ripple_graft.specs.Extension.{new_outputs}
use Rattle.frontier_core.specs.Sets.{has}
use Rattle.frontier_core.specs.Columns.{column_of, columns_sum}
use Rattle.frontier_core.specs.Frontier.{gates_among, FrontierIsSet}
use Rattle.frontier_core.proofs.Everywhere.{has_at, all_has}

columns_sum_set : (m : ℕ) (s : Sides) (added columns : List ℕ) (k : ℕ) (os : List Lit) (σ : Assignment) → ((j : ℕ) → has added j ≡ has columns j) →
    columns_sum m s added k os σ ≡ columns_sum m s columns k os σ
columns_sum_set m s added columns k [] σ h = refl
columns_sum_set m s added columns k (o ∷ os) σ h = ap₂ ◌+◌ (ap (λ b. cond b (column_of m s k o σ) 0) (h k)) (columns_sum_set m s added columns (suc k) os σ h)

-- what holds of each of some numbers holds of each of others that are had there
all_of_set : (P : ℕ → Type 0) (us vs : List ℕ) → ((v : ℕ) → has us v ≡ has vs v) → All P us → All P vs
all_of_set P us vs same h k d low = all_has P us (slice_index_or vs k d) (recursion_from_All P us h) (same (slice_index_or vs k d) ∙ has_at vs (slice_index_or vs k d) k d low refl)

pub frontier_is_set : FrontierIsSet
frontier_is_set e added eliminated columns gates same_columns same_gates = (
  (λ s σ.
      let kept = filter_agree (λ x. has eliminated x.v) (λ x. has gates x.v) (λ x. same_gates x.v) e.gates in
      ap (λ ys. columns_sum (modulus e) s added 0 (new_outputs e) (evaluation ys σ) % modulus e) kept ∙
      ap (λ n. n % modulus e) (columns_sum_set (modulus e) s added columns 0 (new_outputs e) (evaluation (gates_among gates e.gates) σ) same_columns)),
  (λ columns_once gates_once f. record {
    columns = all_of_set (λ k. k < length e.graph.outputs) added columns same_columns f.columns;
    gates = all_of_set (λ v. has (map (λ x. x.v) e.gates) v ≡ true) eliminated gates same_gates f.gates;
    columns_once = columns_once;
    gates_once = gates_once;
    readers = λ k d h.
        let x = slice_index_or e.gates k d in
        λ reads. sym (same_gates x.v) ∙ f.readers k d h (⊎_elim (λ l. inl (same_gates (variable_of x.left) ∙ l)) (λ r. inr (same_gates (variable_of x.right) ∙ r)) reads);
    outputs = λ k l is h. sym (same_columns k) ∙ f.outputs k l is (same_gates (variable_of l) ∙ h);
  }),
)
