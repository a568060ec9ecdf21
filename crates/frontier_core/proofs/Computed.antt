-- Some gates of an extended graph without faults, computed from the other variables.
use Rattle.std.specs.Prelude.{◌≡◌, ◌≢◌, ℕ, zero, suc, ◌<◌, Bool, true, false, cond, List, [], ◌∷◌, ◌++◌, map, length, slice_index_or}
use Rattle.std.specs.List.{AllByRecursion, Contains, filter}
use Rattle.std.proofs.Common.{sym, ap, subst, ◌∙◌, arith, true≢false}
use Rattle.std.proofs.lemmas.List.Elements.{All-from_recursion, recursion_from_All, All-contains, All-filter, filter_passes}
use Rattle.graph_core.specs.declared.literal.Lit.{Lit}
use Rattle.graph_core.specs.declared.gate.Gate.{Gate}
use Rattle.graph_core.specs.Graph.Literals.{variable_of}
use Rattle.graph_core.specs.Graph.Assignments.{Assignment, literal}
use Rattle.graph_core.specs.Graph.{IsEvaluation, IsAcyclic, defined, evaluation}
use Rattle.graph_core.specs.Graph.Operands.{Sides, ReadInputs, operand_literals}
use Rattle.graph_core.specs.Graph.Extended.{Extended}
use Rattle.ripple_graft.specs.Extension.{IsExtension, whole}
use Rattle.graph_core.proofs.OfGraphs.CallerLemmas.{Distinct, evaluation_is, rounds-free, finds_none, literal_same, all_split, all_weaker, Apart, apart_from_pairs, gates_distinct, rest_apart}
use Rattle.ripple_graft.proofs.CallerLemmas.{order_from, rank}
use Rattle.frontier_core.specs.Sets.{has}
use Rattle.frontier_core.specs.Columns.{AgreeOnOperands}
use Rattle.frontier_core.specs.Frontier.{gates_among}
use Rattle.frontier_core.proofs.Everywhere.{all_of_map, filter_all}

distinct_one : (x : Gate) (rest : List Gate) (b : Bool) → AllByRecursion (λ y. x.v ≢ y.v) rest → Distinct rest → Distinct (cond b (x ∷ rest) rest)
distinct_one x rest true h k = (h, k)
distinct_one x rest false h k = k

distinct_filter : (test : Gate → Bool) (gates : List Gate) → Distinct gates → Distinct (filter test gates)
distinct_filter test [] h = tt
distinct_filter test (x ∷ gates) h =
    distinct_one x (filter test gates) (test x)
    (filter_all (λ y. x.v ≢ y.v) test gates (all_weaker (λ y. x.v ≢ y.v) (λ y. test y ≡ true → x.v ≢ y.v) gates (λ y k f. k) h.0)) (distinct_filter test gates h.1)

-- a gate is the only one with its variable
pub same_gate : (gates : List Gate) (x : Gate) → Distinct gates → Contains gates x → AllByRecursion (λ y. x.v ≡ y.v → x ≡ y) gates
same_gate [] x d c = tt
same_gate (y ∷ gates) x d (zero, below, is) = (
  (λ e. sym is),
  all_weaker (λ z. y.v ≢ z.v) (λ z. x.v ≡ z.v → x ≡ z) gates (λ z k e. absurd (k (ap (λ w. w.v) is ∙ e))) d.0,
)
same_gate (y ∷ gates) x d (suc k, below, is) =
    let other : y.v ≢ x.v = subst (λ z. y.v ≢ z.v) is (All-from_recursion (λ z. y.v ≢ z.v) gates d.0 k x (omega arith)) in
    ((λ e. absurd (other (sym e))), same_gate gates x d.1 (k, omega arith, is))

-- the gates that a test keeps have an order
pub filter_order : (test : Gate → Bool) (gates : List Gate) → IsAcyclic gates → IsAcyclic (filter test gates)
filter_order test gates acyclic = (
  rank (filter test gates) acyclic.0,
  order_from (filter test gates) acyclic.0
      (All-filter test (λ x. acyclic.0 (variable_of x.left) < acyclic.0 x.v) gates acyclic.1.left)
      (All-filter test (λ x. acyclic.0 (variable_of x.right) < acyclic.0 x.v) gates acyclic.1.right),
)

-- no input is a gate
inputs_apart : (ls : List Lit) (gates : List Gate) → Apart (map variable_of ls ++ map (λ x. x.v) gates) → AllByRecursion (λ l. AllByRecursion (λ x. variable_of l ≢ x.v) gates) ls
inputs_apart [] gates h = tt
inputs_apart (l ∷ ls) gates h =
    (all_of_map (λ y. variable_of l ≢ y) (λ x. x.v) gates (all_split (λ y. variable_of l ≢ y) (map variable_of ls) (map (λ x. x.v) gates) h.0).1, inputs_apart ls gates h.1)

module _ (e : Extended) (made : IsExtension e) where
  pub all_distinct : Distinct e.gates
  all_distinct = gates_distinct e.gates (rest_apart (map variable_of e.graph.inputs) (map (λ x. x.v) e.gates) (apart_from_pairs (defined (whole e)) made.defined_once.once))

  pub inputs_no_gates : AllByRecursion (λ l. AllByRecursion (λ x. variable_of l ≢ x.v) e.gates) e.graph.inputs
  inputs_no_gates = inputs_apart e.graph.inputs e.gates (apart_from_pairs (defined (whole e)) made.defined_once.once)

  -- the eliminated gates are computed
  pub computed_is : (eliminated : List ℕ) (σ : Assignment) → IsEvaluation (gates_among eliminated e.gates) (evaluation (gates_among eliminated e.gates) σ)
  computed_is eliminated σ =
      let acyclic = filter_order (λ x. has eliminated x.v) e.gates made.acyclic in
      evaluation_is (gates_among eliminated e.gates) acyclic.0 acyclic.1 (distinct_filter (λ x. has eliminated x.v) e.gates all_distinct)
      (All-filter (λ x. has eliminated x.v) (λ x. 0 < x.v) e.gates made.defined_once.gates) σ

  -- a variable that is no eliminated one keeps its value
  pub computed_keeps : (eliminated : List ℕ) (σ : Assignment) (v : ℕ) → has eliminated v ≡ false → evaluation (gates_among eliminated e.gates) σ v ≡ σ v
  computed_keeps eliminated σ v h =
      rounds-free (gates_among eliminated e.gates) σ (length (gates_among eliminated e.gates)) v
      (finds_none (gates_among eliminated e.gates) v
      (all_weaker (λ x. has eliminated x.v ≡ true) (λ x. v ≢ x.v) (gates_among eliminated e.gates) (λ x t s. true≢false (sym t ∙ sym (ap (has eliminated) s) ∙ h))
      (recursion_from_All (λ x. has eliminated x.v ≡ true) (gates_among eliminated e.gates) (filter_passes (λ x. has eliminated x.v) e.gates))))

  -- so does an input
  pub computed_inputs : (eliminated : List ℕ) (σ : Assignment) → AllByRecursion (λ l. literal (evaluation (gates_among eliminated e.gates) σ) l ≡ literal σ l) e.graph.inputs
  computed_inputs eliminated σ =
      all_weaker (λ l. AllByRecursion (λ x. variable_of l ≢ x.v) e.gates) (λ l. literal (evaluation (gates_among eliminated e.gates) σ) l ≡ literal σ l) e.graph.inputs
      (λ l h. literal_same (evaluation (gates_among eliminated e.gates) σ) σ l
      (rounds-free (gates_among eliminated e.gates) σ (length (gates_among eliminated e.gates)) (variable_of l)
      (finds_none (gates_among eliminated e.gates) (variable_of l)
      (filter_all (λ x. variable_of l ≢ x.v) (λ x. has eliminated x.v) e.gates (all_weaker (λ x. variable_of l ≢ x.v) (λ x. has eliminated x.v ≡ true → variable_of l ≢ x.v) e.gates (λ x k f. k) h)))))
      inputs_no_gates

  -- so do the operands
  pub computed_operands : (s : Sides) (eliminated : List ℕ) (σ : Assignment) → ReadInputs e.graph s → AgreeOnOperands s σ (evaluation (gates_among eliminated e.gates) σ)
  computed_operands s eliminated σ read k d low =
      All-contains (λ l. literal (evaluation (gates_among eliminated e.gates) σ) l ≡ literal σ l) e.graph.inputs (slice_index_or (operand_literals s) k d)
      (All-from_recursion (λ l. literal (evaluation (gates_among eliminated e.gates) σ) l ≡ literal σ l) e.graph.inputs (computed_inputs eliminated σ)) (read k d low)
