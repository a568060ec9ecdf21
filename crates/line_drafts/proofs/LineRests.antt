-- A remainder over inputs alone, by which a line differs from the specification: it is the last frontier.
use Rattle.std.specs.Prelude.{◌≡◌, ℕ, ◌+◌, ◌*◌, ◌-◌, ◌%◌, cond, true, List, [], ◌∷◌, ◌&&◌, map, ◌==◌}
use Rattle.std.specs.declared.option.Option.TheVariants.{Some}
use Rattle.std.specs.List.{All, AllByRecursion, Contains}
use Rattle.std.proofs.Common.{refl, sym, ap, ap₂, ◌∙◌, ⊎_elim}
use Rattle.std.proofs.Math.Nat.{mod-mod, mod-lt}
use Rattle.std.proofs.lemmas.Bool.{cases_Bool}
use Rattle.std.proofs.lemmas.List.Elements.{All-from_recursion, recursion_from_All, All-weaker, All-contains}
use Rattle.graph_core.specs.declared.literal.Lit.{Lit}
use Rattle.graph_core.specs.Graph.Literals.{variable_of}
use Rattle.graph_core.specs.Graph.Assignments.{Assignment, variable, literal, bit, word}
use Rattle.graph_core.specs.Graph.{IsEvaluation, evaluation}
use Rattle.graph_core.specs.Graph.Operands.{claimed, value_at_inputs}
use Rattle.graph_core.specs.Graph.Extended.{modulus}
use Rattle.algebra_core.specs.AlgebraLines.{LiveLine, AreMet, Premises, after_all, axioms, line_of, specification, value_of, value_or_zero}
use Rattle.algebra_core.specs.Polynomials.{Polynomial, difference, product, sum_of, value}
use Rattle.algebra_core.proofs.CallerLemmas.{modulus_pos}
use Rattle.algebra_core.proofs.LedgerLines.{live_lines_vanish}
use Rattle.algebra_core.proofs.CallerLemmas.{claim_from_difference}
use Rattle.graph_core.proofs.OfGraphs.CallerLemmas.{IsInput, literal-input, outputs_are_value, variable_same}
use Rattle.frontier_core.specs.Sets.{has}
use Rattle.frontier_core.specs.Frontier.{frontier_value, gates_among}
use Rattle.frontier_core.proofs.ColumnClaims.{claims_are_of_operands}
use Rattle.frontier_core.proofs.Computed.{computed_is, computed_inputs, computed_operands}
use Rattle.frontier_core.proofs.Everywhere.{all_filtered, all_from_map, all_has, all_zip}
use Rattle.frontier_core.proofs.LastFrontiers.{last_frontier_is_error}
use Rattle.line_drafts.specs.LineRests.{LineRestIsLastFrontier}

-- where all live lines are 0, so is each id's
value_zero : (live : List LiveLine) (id : ℕ) (σ : Assignment) → AllByRecursion (λ l. l.value σ ≡ 0) live → value_of live id σ ≡ 0
value_zero [] id σ h = refl
value_zero (x ∷ xs) id σ h =
    ⊎_elim
    (λ yes'. ap (λ c. value_or_zero (cond c (Some x) (line_of xs id)) σ) yes' ∙ h.0)
    (λ other. ap (λ c. value_or_zero (cond c (Some x) (line_of xs id)) σ) other ∙ value_zero xs id σ h.1)
    (cases_Bool (x.id == id))

module _ (ρ σ : Assignment) where
  inputs_same : (ls : List Lit) → AllByRecursion IsInput ls → AllByRecursion (λ l. literal ρ l ≡ literal σ l) ls → AllByRecursion (λ l. ρ (variable_of l) ≡ σ (variable_of l)) ls
  inputs_same [] i h = tt
  inputs_same (l ∷ ls) i h = (sym (literal-input ρ l i.0) ∙ h.0 ∙ literal-input σ l i.0, inputs_same ls i.1 h.1)

  values_same : (ls : List Lit) → AllByRecursion (λ l. literal ρ l ≡ literal σ l) ls → map (literal ρ) ls ≡ map (literal σ) ls
  values_same [] h = refl
  values_same (l ∷ ls) h = ap₂ ◌∷◌ h.0 (values_same ls h.1)

  module _ (us : List ℕ) (same : AllByRecursion (λ u. ρ u ≡ σ u) us) where
    product_same : (vs : List ℕ) → AllByRecursion (λ v. has us v ≡ true) vs → product ρ vs ≡ product σ vs
    product_same [] h = refl
    product_same (v ∷ vs) h = ap₂ (λ c n. bit c * n) (variable_same ρ σ v (all_has (λ u. ρ u ≡ σ u) us v same h.0)) (product_same vs h.1)

    sums_same : (m : ℕ) (p : Polynomial) → AllByRecursion (λ x. All (λ v. has us v ≡ true) x.variables) p → sum_of m p ρ ≡ sum_of m p σ
    sums_same m [] h = refl
    sums_same m (x ∷ p) h =
        ap₂ (λ n k. cond x.negative (difference m 0 (x.coefficient * n)) (x.coefficient * n) + k)
        (product_same x.variables (recursion_from_All (λ v. has us v ≡ true) x.variables h.0)) (sums_same m p h.1)

pub line_rest_is_last_frontier : LineRestIsLastFrontier
line_rest_is_last_frontier e s added eliminated lines id r end lawful over differs σ =
    let g = e.graph in
    let made = end.extension in
    let m = modulus e in
    let ρ = evaluation (gates_among eliminated e.gates) σ in
    let holds : AllByRecursion (λ x. variable ρ x.v ≡ (literal ρ x.left && literal ρ x.right)) e.gates =
    all_zip (λ x. has eliminated x.v ≡ true) (λ x. has eliminated x.v ≡ true → variable ρ x.v ≡ (literal ρ x.left && literal ρ x.right)) (λ x. variable ρ x.v ≡ (literal ρ x.left && literal ρ x.right)) e.gates
    (λ x t h. h t) (recursion_from_All (λ x. has eliminated x.v ≡ true) e.gates end.last.all_gates)
    (all_filtered (λ x. variable ρ x.v ≡ (literal ρ x.left && literal ρ x.right)) (λ x. has eliminated x.v) e.gates
    (recursion_from_All (λ x. variable ρ x.v ≡ (literal ρ x.left && literal ρ x.right)) (gates_among eliminated e.gates) (computed_is e made eliminated σ))) in
    let evaluates : IsEvaluation e.gates ρ = All-from_recursion (λ x. variable ρ x.v ≡ (literal ρ x.left && literal ρ x.right)) e.gates holds in
    let of_graph : IsEvaluation g.gates ρ = All-weaker (Contains e.gates) (λ x. variable ρ x.v ≡ (literal ρ x.left && literal ρ x.right))
    (λ x c. All-contains (λ x. variable ρ x.v ≡ (literal ρ x.left && literal ρ x.right)) e.gates x evaluates c) g.gates made.kept in
    let premises : Premises = record { version = 1; extended = e; imports = [] } in
    let met : AreMet premises ρ = record { columns = end.agree ρ evaluates; imports = All-from_recursion (λ (f : Assignment → ℕ). f ρ ≡ 0) [] tt } in
    let live = (after_all m (axioms e) lines).live in
    let vanish : AllByRecursion (λ l. l.value ρ ≡ 0) live = recursion_from_All (λ l. l.value ρ ≡ 0) live (live_lines_vanish premises lines ρ lawful evaluates met) in
    let none : difference m (specification e s ρ) (value m r ρ) ≡ 0 = sym (differs ρ) ∙ value_zero live id ρ vanish in
    let inputs : AllByRecursion (λ l. literal ρ l ≡ literal σ l) g.inputs = computed_inputs e made eliminated σ in
    let there : specification e s ρ ≡ value m r ρ % m = claim_from_difference m (specification e s ρ) (value m r ρ) (mod-lt (word ρ g.outputs + (m - claimed m s ρ % m)) (modulus_pos e)) none in
    let of_spec : specification e s ρ ≡ frontier_value e s added eliminated σ =
    ap₂ (difference m) (outputs_are_value g made.graph ρ of_graph ∙ ap (value_at_inputs g) (values_same ρ σ g.inputs inputs))
    (claims_are_of_operands m s σ ρ (computed_operands e made s eliminated σ end.inputs)).0 ∙ sym (last_frontier_is_error e s added eliminated σ end) in
    let same : value m r ρ ≡ value m r σ =
    ap (λ n. n % m) (sums_same ρ σ (map variable_of g.inputs)
    (all_from_map (λ u. ρ u ≡ σ u) variable_of g.inputs (inputs_same ρ σ g.inputs (recursion_from_All IsInput g.inputs made.graph.defined_once.inputs) inputs)) m r
    (recursion_from_All (λ x. All (λ v. has (map variable_of g.inputs) v ≡ true) x.variables) r over)) in
    sym same ∙ sym (mod-mod (sum_of m r ρ) m) ∙ sym there ∙ of_spec
