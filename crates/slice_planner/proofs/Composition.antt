-- Where some gates are eliminated after others, the function is the one before at the values that these gates compute.
use Rattle.std.specs.Prelude.{◌≡◌, ◌≢◌, ℕ, ◌%◌, ◌<◌, ◌⊎◌, true, false, ◌&&◌, ◌||◌, List, [], ◌∷◌, ◌++◌, length, ◌==◌}
use Rattle.std.specs.List.{AllByRecursion}
use Rattle.std.proofs.Common.{sym, ap, ap₂, ◌∙◌, inl, inr, ⊎_elim, true≢false}
use Rattle.std.proofs.Math.Path.{fun_ext}
use Rattle.std.proofs.lemmas.Bool.{cases_Bool, or_cases, or_left, or_right}
use Rattle.std.proofs.lemmas.List.Folds.{list_any-append}
use Rattle.std.proofs.lemmas.List.Elements.{recursion_from_All, All-from_recursion, All-filter}
use Rattle.graph_core.specs.declared.gate.Gate.{Gate}
use Rattle.graph_core.specs.Graph.Assignments.{Assignment, variable, literal}
use Rattle.graph_core.specs.Graph.Literals.{variable_of}
use Rattle.graph_core.specs.Graph.{IsEvaluation, IsFree, evaluation}
use Rattle.graph_core.specs.Graph.Extended.{Extended, modulus}
use Rattle.graph_core.specs.Graph.Operands.{Sides}
use Rattle.graph_core.proofs.OfGraphs.CallerLemmas.{all_weaker, evaluation_is_one, finds_none, literal_same, rounds-free, variable_same}
use Rattle.ripple_graft.specs.Extension.{new_outputs, IsExtension}
use Rattle.frontier_core.specs.Sets.{has}
use Rattle.frontier_core.specs.Columns.{columns_sum}
use Rattle.frontier_core.specs.Frontier.{IsFrontier, gates_among, frontier_value}
use Rattle.frontier_core.proofs.Everywhere.{filter_all, all_filtered}
use Rattle.frontier_core.proofs.Computed.{filter_order, computed_is, computed_keeps}

pub has_append : (us vs : List ℕ) (v : ℕ) → has (us ++ vs) v ≡ (has us v || has vs v)
has_append us vs v = list_any-append (λ u. u == v) us vs

module _ (e : Extended) (made : IsExtension e) (added part whole : List ℕ) (f : IsFrontier e added whole) (σ : Assignment) where
  abbrev both : List ℕ
  both = part ++ whole

  abbrev ρ : Assignment
  ρ = evaluation (gates_among part e.gates) σ

  abbrev τ : Assignment
  τ = evaluation (gates_among whole e.gates) ρ

  abbrev Computes : Assignment → Gate → Type 0
  Computes υ x = variable υ x.v ≡ (literal υ x.left && literal υ x.right)

  abbrev Reads : Gate → Type 0
  Reads x = (has whole (variable_of x.left) ≡ true) ⊎ (has whole (variable_of x.right) ≡ true) → has whole x.v ≡ true

  in_whole : AllByRecursion (λ x. has whole x.v ≡ true → Computes τ x) e.gates
  in_whole = all_filtered (Computes τ) (λ x. has whole x.v) e.gates (recursion_from_All (Computes τ) (gates_among whole e.gates) (computed_is e made whole ρ))

  in_part : AllByRecursion (λ x. has part x.v ≡ true → Computes ρ x) e.gates
  in_part = all_filtered (Computes ρ) (λ x. has part x.v) e.gates (recursion_from_All (Computes ρ) (gates_among part e.gates) (computed_is e made part σ))

  kept : (v : ℕ) → has whole v ≡ false → τ v ≡ ρ v
  kept v h = computed_keeps e made whole ρ v h

  one : (x : Gate) → (has whole x.v ≡ true → Computes τ x) → (has part x.v ≡ true → Computes ρ x) → Reads x → has both x.v ≡ true → Computes τ x
  one x w p r t = ⊎_elim w behind (cases_Bool (has whole x.v))
    where
      behind : has whole x.v ≡ false → Computes τ x
      behind q =
          let here : has part x.v ≡ true = ⊎_elim (λ s. s) (λ s. absurd (true≢false (sym s ∙ q))) (or_cases (has part x.v) (has whole x.v) (sym (has_append part whole x.v) ∙ t)) in
          let left : has whole (variable_of x.left) ≡ false = ⊎_elim (λ s. absurd (true≢false (sym (r (inl s)) ∙ q))) (λ s. s) (cases_Bool (has whole (variable_of x.left))) in
          let right : has whole (variable_of x.right) ≡ false = ⊎_elim (λ s. absurd (true≢false (sym (r (inr s)) ∙ q))) (λ s. s) (cases_Bool (has whole (variable_of x.right))) in
          variable_same τ ρ x.v (kept x.v q) ∙ p here ∙ ap₂ ◌&&◌ (literal_same ρ τ x.left (sym (kept (variable_of x.left) left))) (literal_same ρ τ x.right (sym (kept (variable_of x.right) right)))

  all_one : (gates : List Gate) → AllByRecursion (λ x. has whole x.v ≡ true → Computes τ x) gates → AllByRecursion (λ x. has part x.v ≡ true → Computes ρ x) gates → AllByRecursion Reads gates →
      AllByRecursion (λ x. has both x.v ≡ true → Computes τ x) gates
  all_one [] w p r = tt
  all_one (x ∷ gates) w p r = (one x w.0 p.0 r.0, all_one gates w.1 p.1 r.1)

  evaluates : IsEvaluation (gates_among both e.gates) τ
  evaluates =
      All-from_recursion (Computes τ) (gates_among both e.gates)
      (filter_all (Computes τ) (λ x. has both x.v) e.gates (all_one e.gates in_whole in_part (recursion_from_All Reads e.gates f.readers)))

  free_stays : (v : ℕ) → IsFree (gates_among both e.gates) v → τ v ≡ σ v
  free_stays v free =
      let away : AllByRecursion (λ x. has both x.v ≡ true → x.v ≢ v) e.gates = all_filtered (λ x. x.v ≢ v) (λ x. has both x.v) e.gates (recursion_from_All (λ x. x.v ≢ v) (gates_among both e.gates) free) in
      rounds-free (gates_among whole e.gates) ρ (length (gates_among whole e.gates)) v
      (finds_none (gates_among whole e.gates) v
      (filter_all (λ x. v ≢ x.v) (λ x. has whole x.v) e.gates
      (all_weaker (λ x. has both x.v ≡ true → x.v ≢ v) (λ x. has whole x.v ≡ true → v ≢ x.v) e.gates (λ x k t same. k (has_append part whole x.v ∙ or_right (has part x.v) (has whole x.v) t) (sym same)) away))) ∙
      rounds-free (gates_among part e.gates) σ (length (gates_among part e.gates)) v
      (finds_none (gates_among part e.gates) v
      (filter_all (λ x. v ≢ x.v) (λ x. has part x.v) e.gates
      (all_weaker (λ x. has both x.v ≡ true → x.v ≢ v) (λ x. has part x.v ≡ true → v ≢ x.v) e.gates (λ x k t same. k (has_append part whole x.v ∙ or_left (has part x.v) (has whole x.v) t) (sym same)) away)))

  same_evaluation : (v : ℕ) → τ v ≡ evaluation (gates_among both e.gates) σ v
  same_evaluation = evaluation_is_one (gates_among both e.gates) σ τ (filter_order (λ x. has both x.v) e.gates made.acyclic) (All-filter (λ x. has both x.v) (λ x. 0 < x.v) e.gates made.defined_once.gates) evaluates free_stays

  pub eliminating_part : (s : Sides) → frontier_value e s added both σ ≡ frontier_value e s added whole ρ
  eliminating_part s = ap (λ υ. columns_sum (modulus e) s added 0 (new_outputs e) υ % modulus e) (sym (fun_ext same_evaluation))
