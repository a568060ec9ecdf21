-- The last frontier: the graph's value minus what it is claimed to be.
use Rattle.std.specs.Prelude.{◌≡◌, ◌≢◌, ℕ, zero, suc, ◌+◌, ◌*◌, ◌-◌, ◌%◌, ◌^◌, ◌<◌, ◌⊎◌, not, Bool, true, false, cond, ◌&&◌, ◌||◌, List, [], ◌∷◌, map, length, slice_get, slice_index_or, ◌==◌}
use Rattle.std.specs.declared.option.Option.TheVariants.{Some}
use Rattle.std.specs.List.{AllByRecursion, Contains, flat_map}
use Rattle.std.proofs.Common.{refl, sym, ap, ap₂, subst, ◌∙◌, arith, ⊎_elim, inr, eqb-true, eq-eqb, ne_eqb, true≢false}
use Rattle.std.proofs.Math.Path.{fun_ext}
use Rattle.std.proofs.Math.Nat.{mod-mod}
use Rattle.std.proofs.lemmas.Bool.{cases_Bool, eqb-false, or_parts}
use Rattle.std.proofs.lemmas.List.{length-map}
use Rattle.std.proofs.lemmas.List.Folds.{list_any-append}
use Rattle.std.proofs.lemmas.List.Elements.{All-from_recursion, recursion_from_All, All-weaker, All-contains, All-contains_itself, Contains-append_right}
use Rattle.graph_core.specs.declared.literal.Lit.{Lit}
use Rattle.graph_core.specs.declared.gate.Gate.{Gate}
use Rattle.graph_core.specs.Graph.Literals.{variable_of}
use Rattle.graph_core.specs.Graph.Assignments.{Assignment, variable, literal, bit, word}
use Rattle.graph_core.specs.Graph.{Aig, IsDefinedOnce, IsWellFormed, read_literals, IsEvaluation, IsFree, evaluation, of_inputs, evaluated, defined}
use Rattle.graph_core.specs.Graph.Operands.{Sides, ReadInputs, operand_literals, claimed, output_modulus, value_at_inputs}
use Rattle.algebra_core.specs.Polynomials.{difference, value}
use Rattle.algebra_core.specs.NormalForm.{IsNormalTerm}
use Rattle.graph_core.specs.Graph.Extended.{Extended, Column, modulus}
use Rattle.ripple_graft.specs.Extension.{new_or_old, outputs_from, new_outputs}
use Rattle.algebra_core.proofs.CallerLemmas.{modulus_pos, rising_mem, claim_from_difference, difference_same}
use Rattle.graph_core.proofs.OfGraphs.CallerLemmas.{IsInput, literal_same, apart_from_pairs, inputs_have, lits_apart, inputs_are, outputs_are_value, word_below}
use Rattle.frontier_core.specs.Sets.{has}
use Rattle.frontier_core.specs.Columns.{AgreeOnOperands, columns_sum}
use Rattle.frontier_core.specs.Frontier.{gates_among, set_to}
use Rattle.frontier_core.specs.LastFrontier.{LastFrontierIsError, LastFrontierAtInputs, LastFrontierDecides, LastFrontierIsOverInputs}
use Rattle.frontier_core.proofs.Everywhere.{all_zip, all_filtered, has_at, has_none, has_contained}
use Rattle.frontier_core.proofs.ColumnClaims.{claims_are_of_operands, columns_make_claim}
use Rattle.frontier_core.proofs.Computed.{computed_is, computed_inputs, computed_operands}
use Rattle.frontier_core.proofs.FrontierSteps.{set_to-other}
use Rattle.frontier_core.proofs.PlainOrders.{length-outputs_from}
use Rattle.frontier_core.proofs.Unused.{unused_variable_is_absent}

-- the old and the new outputs are one word where the replaced columns agree
new_is_old : (σ : Assignment) (all : List Lit) (cs : List Column) (k : ℕ) (l : Lit) → AllByRecursion (λ c. literal σ c.old ≡ literal σ c.new) cs →
    AllByRecursion (λ c. slice_get all c.number ≡ Some c.old) cs → slice_get all k ≡ Some l → literal σ (new_or_old cs k l) ≡ literal σ l
new_is_old σ all [] k l h r is = refl
new_is_old σ all (c ∷ cs) k l h r is =
    ⊎_elim
    (λ e.
    let number = eqb-true c.number k e in
    let same : c.old ≡ l = some_injective (sym r.0 ∙ ap (slice_get all) number ∙ is) in
    ap (λ b. literal σ (cond b c.new (new_or_old cs k l))) e ∙ sym h.0 ∙ ap (literal σ) same)
    (λ f. ap (λ b. literal σ (cond b c.new (new_or_old cs k l))) f ∙ new_is_old σ all cs k l h.1 r.1 is)
    (cases_Bool (c.number == k))
  where
    some_injective : {x y : Lit} → Some x ≡ Some y → x ≡ y
    some_injective e = cc

new_word : (σ : Assignment) (all : List Lit) (cs : List Column) (k : ℕ) (ls : List Lit) → AllByRecursion (λ c. literal σ c.old ≡ literal σ c.new) cs →
    AllByRecursion (λ c. slice_get all c.number ≡ Some c.old) cs → ((i : ℕ) → slice_get ls i ≡ slice_get all (k + i)) → word σ (outputs_from cs k ls) ≡ word σ ls
new_word σ all cs k [] h r is = refl
new_word σ all cs k (l ∷ ls) h r is =
    ap₂ (λ b n. bit b + 2 * n) (new_is_old σ all cs k l h r (ap (slice_get all) (omega arith) ∙ sym (is 0)))
    (new_word σ all cs (suc k) ls h r (λ i. is (suc i) ∙ ap (slice_get all) (omega arith)))

-- ---- values of the inputs

same_values : (σ τ : Assignment) (ls : List Lit) → AllByRecursion (λ l. literal τ l ≡ literal σ l) ls → map (literal τ) ls ≡ map (literal σ) ls
same_values σ τ [] h = refl
same_values σ τ (l ∷ ls) h = ap₂ ◌∷◌ h.0 (same_values σ τ ls h.1)

same_literals : (σ τ : Assignment) (ls : List Lit) → map (literal τ) ls ≡ map (literal σ) ls → AllByRecursion (λ l. literal τ l ≡ literal σ l) ls
same_literals σ τ [] h = tt
same_literals σ τ (l ∷ ls) h =
    let first : literal τ l ≡ literal σ l = cc in
    let rest : map (literal τ) ls ≡ map (literal σ) ls = cc in
    (first, same_literals σ τ ls rest)

-- where the inputs have one value, the operands have
pub operands_agree : (g : Aig) (s : Sides) (σ τ : Assignment) → ReadInputs g s → map (literal τ) g.inputs ≡ map (literal σ) g.inputs → AgreeOnOperands s σ τ
operands_agree g s σ τ read same k d low =
    All-contains (λ l. literal τ l ≡ literal σ l) g.inputs (slice_index_or (operand_literals s) k d) (All-from_recursion (λ l. literal τ l ≡ literal σ l) g.inputs (same_literals σ τ g.inputs same)) (read k d low)

pub given : (σ : Assignment) (ls : List Lit) → AllByRecursion (λ l. σ (variable_of l) ≡ σ (variable_of l)) ls
given σ [] = tt
given σ (l ∷ ls) = (refl, given σ ls)

-- the inputs have the values that they are given
pub inputs_given : (g : Aig) (bits : List Bool) → IsDefinedOnce g → length bits ≡ length g.inputs → map (literal (of_inputs g.inputs bits)) g.inputs ≡ bits
inputs_given g bits once same =
    inputs_are (of_inputs g.inputs bits) g.inputs bits (sym same) (lits_apart g.inputs (map (λ x. x.v) g.gates) (apart_from_pairs (defined g) once.once))
    (recursion_from_All IsInput g.inputs once.inputs) (given (of_inputs g.inputs bits) g.inputs)

-- ---- the last frontier

pub last_frontier_is_error : LastFrontierIsError
last_frontier_is_error e s added eliminated σ end =
    let g = e.graph in
    let made = end.extension in
    let m = modulus e in
    let ρ = evaluation (gates_among eliminated e.gates) σ in
    let holds : AllByRecursion (λ x. variable ρ x.v ≡ (literal ρ x.left && literal ρ x.right)) e.gates =
    all_zip (λ x. has eliminated x.v ≡ true) (λ x. has eliminated x.v ≡ true → variable ρ x.v ≡ (literal ρ x.left && literal ρ x.right)) (λ x. variable ρ x.v ≡ (literal ρ x.left && literal ρ x.right)) e.gates
    (λ x t h. h t) (recursion_from_All (λ x. has eliminated x.v ≡ true) e.gates end.last.all_gates)
    (all_filtered (λ x. variable ρ x.v ≡ (literal ρ x.left && literal ρ x.right)) (λ x. has eliminated x.v) e.gates
    (recursion_from_All (λ x. variable ρ x.v ≡ (literal ρ x.left && literal ρ x.right)) (gates_among eliminated e.gates) (computed_is e made eliminated σ))) in
    let evaluates : IsEvaluation e.gates ρ = All-from_recursion (λ x. variable ρ x.v ≡ (literal ρ x.left && literal ρ x.right)) e.gates holds in
    let of_graph : IsEvaluation g.gates ρ = All-weaker (Contains e.gates) (λ x. variable ρ x.v ≡ (literal ρ x.left && literal ρ x.right))
    (λ x c. All-contains (λ x. variable ρ x.v ≡ (literal ρ x.left && literal ρ x.right)) e.gates x evaluates c) g.gates made.kept in
    let size : length (new_outputs e) ≡ length g.outputs = length-outputs_from e.replaced 0 g.outputs in
    let sum : columns_sum m s added 0 (new_outputs e) ρ % m ≡ difference m (word ρ (new_outputs e)) (claimed m s ρ) =
    subst (λ n. columns_sum (2 ^ n) s added 0 (new_outputs e) ρ % 2 ^ n ≡ difference (2 ^ n) (word ρ (new_outputs e)) (claimed (2 ^ n) s ρ)) size
    (columns_make_claim s (new_outputs e) added ρ (λ j h. end.last.all_columns j (omega (arith, size)))) in
    let new : word ρ (new_outputs e) ≡ word ρ g.outputs = new_word ρ g.outputs e.replaced 0 g.outputs
    (recursion_from_All (λ c. literal ρ c.old ≡ literal ρ c.new) e.replaced (end.agree ρ evaluates))
    (recursion_from_All (λ c. slice_get g.outputs c.number ≡ Some c.old) e.replaced made.replaced) (λ i. ap (slice_get g.outputs) (omega arith)) in
    let out : word ρ (new_outputs e) ≡ value_at_inputs g (map (literal σ) g.inputs) =
    new ∙ outputs_are_value g made.graph ρ of_graph ∙ ap (value_at_inputs g) (same_values σ ρ g.inputs (computed_inputs e made eliminated σ)) in
    sum ∙ ap₂ (difference m) out (claims_are_of_operands m s σ ρ (computed_operands e made s eliminated σ end.inputs)).0

-- what is claimed at values of the inputs is claimed at the evaluation with them
claim_evaluated : (g : Aig) (s : Sides) (m : ℕ) (σ : Assignment) (bits : List Bool) → IsDefinedOnce g → ReadInputs g s → length bits ≡ length g.inputs → map (literal σ) g.inputs ≡ bits →
    claimed m s σ ≡ claimed m s (evaluated g bits)
claim_evaluated g s m σ bits once read size is =
    (claims_are_of_operands m s (evaluated g bits) σ (operands_agree g s (evaluated g bits) σ read (is ∙ sym (inputs_have g bits once (sym size))))).0

pub last_frontier_at_inputs : LastFrontierAtInputs
last_frontier_at_inputs e s added eliminated bits end size =
    let g = e.graph in
    let σ = of_inputs g.inputs bits in
    let once = end.extension.graph.defined_once in
    let is = inputs_given g bits once size in
    last_frontier_is_error e s added eliminated σ end ∙ ap₂ (difference (modulus e)) (ap (value_at_inputs g) is) (claim_evaluated g s (modulus e) σ bits once end.inputs size is)

-- a claim minus itself
claim_same : (m y : ℕ) → 0 < m → difference m (y % m) y ≡ 0
claim_same m y h = sym (ap (λ z. (y % m + (m - z)) % m) (mod-mod y m)) ∙ difference_same m (y % m) h

-- a value that differs by 0 from what is claimed is it, and the other way round
pub error_is_none : (g : Aig) (s : Sides) (bits : List Bool) → difference (output_modulus g) (value_at_inputs g bits) (claimed (output_modulus g) s (evaluated g bits)) ≡ 0 →
    value_at_inputs g bits ≡ claimed (output_modulus g) s (evaluated g bits) % output_modulus g
error_is_none g s bits none = claim_from_difference (output_modulus g) (value_at_inputs g bits) (claimed (output_modulus g) s (evaluated g bits)) (word_below (evaluated g bits) g.outputs) none

pub none_is_error : (e : Extended) (s : Sides) (bits : List Bool) → value_at_inputs e.graph bits ≡ claimed (modulus e) s (evaluated e.graph bits) % modulus e →
    difference (modulus e) (value_at_inputs e.graph bits) (claimed (modulus e) s (evaluated e.graph bits)) ≡ 0
none_is_error e s bits is = ap (λ x. difference (modulus e) x (claimed (modulus e) s (evaluated e.graph bits))) is ∙ claim_same (modulus e) (claimed (modulus e) s (evaluated e.graph bits)) (modulus_pos e)

pub last_frontier_decides : LastFrontierDecides
last_frontier_decides e s added eliminated end = (
  (λ none bits size. error_is_none e.graph s bits (sym (last_frontier_at_inputs e s added eliminated bits end size) ∙ none (of_inputs e.graph.inputs bits))),
  (λ meets σ.
      let g = e.graph in
      let bits = map (literal σ) g.inputs in
      let size : length bits ≡ length g.inputs = length-map g.inputs (literal σ) in
      last_frontier_is_error e s added eliminated σ end ∙
      ap (difference (modulus e) (value_at_inputs g bits)) (claim_evaluated g s (modulus e) σ bits end.extension.graph.defined_once end.inputs size refl) ∙
      none_is_error e s bits (meets bits size)),
)

-- an input's literal doesn't change with another variable
inputs_unchanged : (v : ℕ) (b : Bool) (σ : Assignment) (ls : List Lit) → has (map variable_of ls) v ≡ false → map (literal (set_to v b σ)) ls ≡ map (literal σ) ls
inputs_unchanged v b σ [] h = refl
inputs_unchanged v b σ (l ∷ ls) h =
    let parts = or_parts (variable_of l == v) (has (map variable_of ls) v) h in
    ap₂ ◌∷◌ (literal_same (set_to v b σ) σ l (set_to-other v b σ (variable_of l) (eqb-false (variable_of l) v parts.0))) (inputs_unchanged v b σ ls parts.1)

pub last_frontier_is_over_inputs : LastFrontierIsOverInputs
last_frontier_is_over_inputs e s added eliminated p end normal is k d low i w within =
    let t = slice_index_or p k d in
    let v = slice_index_or t.variables i w in
    let term : IsNormalTerm (modulus e) t = normal.terms k d low in
    let member : has t.variables v ≡ true = has_at t.variables v i w within refl in
    let above : 0 < v = rising_mem 0 t.variables v term.3 member in
    ⊎_elim (λ yes'. yes')
    (λ other.
    let absent = unused_variable_is_absent (modulus e) v p above normal (λ σ. at v other true σ ∙ sym (at v other false σ)) in
    absurd (true≢false (sym member ∙ absent k d low)))
    (cases_Bool (has (map variable_of e.graph.inputs) v))
  where
    at : (v : ℕ) → has (map variable_of e.graph.inputs) v ≡ false → (b : Bool) (σ : Assignment) → value (modulus e) p (set_to v b σ) ≡
        difference (modulus e) (value_at_inputs e.graph (map (literal σ) e.graph.inputs)) (claimed (modulus e) s σ)
    at v other b σ =
        let τ = set_to v b σ in
        let same = inputs_unchanged v b σ e.graph.inputs other in
        is τ ∙ last_frontier_is_error e s added eliminated τ end ∙
        ap₂ (difference (modulus e)) (ap (value_at_inputs e.graph) same) (claims_are_of_operands (modulus e) s σ τ (operands_agree e.graph s σ τ end.inputs same)).0
