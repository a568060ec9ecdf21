-- On an evaluation the outputs have the values that the graph gives the values of its inputs.
use Rattle.std.specs.Prelude.{◌≡◌, ◌≢◌, ℕ, zero, suc, ◌+◌, ◌*◌, ◌%◌, ◌<◌, ◌⊎◌, not, Bool, true, false, cond, ◌&&◌, ◌||◌, List, [], ◌∷◌, map, length, slice_index_or, ◌==◌}
use Rattle.std.specs.List.{AllByRecursion, Contains, flat_map, list_any}
use Rattle.std.proofs.Common.{refl, sym, ap, ap₂, ◌∙◌, arith, ⊎_elim, inr, eqb-true, eq-eqb, ne_eqb}
use Rattle.std.proofs.Math.Path.{fun_ext}
use Rattle.std.proofs.lemmas.Bool.{cases_Bool, eqb-false}
use Rattle.std.proofs.lemmas.List.Folds.{list_any_at}
use Rattle.std.proofs.lemmas.List.Folds.{list_any-append}
use Rattle.std.proofs.lemmas.List.Elements.{All-from_recursion, recursion_from_All, All-weaker, All-contains_itself, Contains-append_right}
use Rattle.graph_core.specs.declared.literal.Lit.{Lit}
use Rattle.graph_core.specs.declared.gate.Gate.{Gate}
use Rattle.graph_core.specs.Graph.Literals.{variable_of}
use Rattle.graph_core.specs.Graph.Assignments.{Assignment, variable, literal, bit, word}
use Rattle.graph_core.specs.Graph.{Aig, IsWellFormed, read_literals, IsEvaluation, IsFree, of_inputs, evaluated, defined}
use Rattle.graph_core.specs.Graph.Operands.{value_at_inputs}
use Rattle.graph_core.proofs.OfGraphs.Evaluation.{evaluation_is_one}
use Rattle.graph_core.proofs.OfGraphs.Lists.{all_split}
use Rattle.graph_core.proofs.OfGraphs.OperandBits.{IsInput, literal-input}

-- whether a number is in a list
abbrev pub among : List ℕ → ℕ → Bool
among us v = list_any (λ u. u == v) us

-- an element is had
pub has_at : (us : List ℕ) (v k d : ℕ) → k < length us → slice_index_or us k d ≡ v → among us v ≡ true
has_at us v k d h e = list_any_at (λ u. u == v) us k d h (eq-eqb (slice_index_or us k d) v e)

pub has_contained : (us : List ℕ) (v : ℕ) → Contains us v → among us v ≡ true
has_contained us v c = has_at us v c.0 v c.1 c.2

pub has_none : (gates : List Gate) (v : ℕ) → AllByRecursion (λ x. x.v ≢ v) gates → among (map (λ x. x.v) gates) v ≡ false
has_none [] v h = refl
has_none (x ∷ gates) v h = ap₂ ◌||◌ (ne_eqb x.v v h.0) (has_none gates v h.1)

-- an assignment's inputs, given again
pub of_inputs_again : (σ : Assignment) (ls : List Lit) (v : ℕ) → AllByRecursion IsInput ls → of_inputs ls (map (literal σ) ls) v ≡ cond (among (map variable_of ls) v) (σ v) false
of_inputs_again σ [] v h = refl
of_inputs_again σ (l ∷ ls) v h =
    ⊎_elim
    (λ e.
    let same = eqb-true v (variable_of l) e in
    ap (λ b. cond b (literal σ l) (of_inputs ls (map (literal σ) ls) v)) e ∙ literal-input σ l h.0 ∙ ap σ (sym same) ∙
    sym (ap (λ b. cond (b || among (map variable_of ls) v) (σ v) false) (eq-eqb (variable_of l) v (sym same))))
    (λ f.
    let other = eqb-false v (variable_of l) f in
    ap (λ b. cond b (literal σ l) (of_inputs ls (map (literal σ) ls) v)) f ∙ of_inputs_again σ ls v h.1 ∙
    sym (ap (λ b. cond (b || among (map variable_of ls) v) (σ v) false) (ne_eqb (variable_of l) v (λ s. other (sym s)))))
    (cases_Bool (v == variable_of l))

or_false : (b : Bool) → (b || false) ≡ b
or_false true = refl
or_false false = refl

module _ (g : Aig) (well : IsWellFormed g) (ρ : Assignment) (evaluates : IsEvaluation g.gates ρ) where
  -- the evaluation, false where nothing is defined
  abbrev known : Assignment
  known v = cond (among (defined g) v) (ρ v) false

  abbrev IsKnownLit : Lit → Type 0
  IsKnownLit l = (variable_of l ≡ 0) ⊎ Contains (defined g) (variable_of l)

  known_variable : (v : ℕ) → (v ≡ 0) ⊎ Contains (defined g) v → variable known v ≡ variable ρ v
  known_variable zero h = refl
  known_variable (suc v) h = ⊎_elim (λ z. absurd (omega arith)) (λ c. ap (λ b. cond b (ρ (suc v)) false) (has_contained (defined g) (suc v) c)) h

  known_literal : (l : Lit) → IsKnownLit l → literal known l ≡ literal ρ l
  known_literal l h = ap (λ b. cond (l.0 % 2 == 0) b (not b)) (known_variable (variable_of l) h)

  reads : AllByRecursion IsKnownLit g.outputs × AllByRecursion IsKnownLit (flat_map (λ x. x.left ∷ x.right ∷ []) g.gates)
  reads = all_split IsKnownLit g.outputs (flat_map (λ x. x.left ∷ x.right ∷ []) g.gates) (recursion_from_All IsKnownLit (read_literals g) well.known)

  known_gates : (gates : List Gate) → AllByRecursion (λ v. Contains (defined g) v) (map (λ x. x.v) gates) → AllByRecursion IsKnownLit (flat_map (λ x. x.left ∷ x.right ∷ []) gates) →
      AllByRecursion (λ x. variable ρ x.v ≡ (literal ρ x.left && literal ρ x.right)) gates → AllByRecursion (λ x. variable known x.v ≡ (literal known x.left && literal known x.right)) gates
  known_gates [] c r h = tt
  known_gates (x ∷ gates) c r h =
      (known_variable x.v (inr c.0) ∙ h.0 ∙ sym (ap₂ ◌&&◌ (known_literal x.left r.0) (known_literal x.right r.1.0)), known_gates gates c.1 r.1.1 h.1)

  known_evaluates : IsEvaluation g.gates known
  known_evaluates =
      All-from_recursion (λ x. variable known x.v ≡ (literal known x.left && literal known x.right)) g.gates
      (known_gates g.gates
      (recursion_from_All (Contains (defined g)) (map (λ x. x.v) g.gates)
      (All-weaker (Contains (map (λ x. x.v) g.gates)) (Contains (defined g)) (λ v c. Contains-append_right (map variable_of g.inputs) (map (λ x. x.v) g.gates) v c) (map (λ x. x.v) g.gates) (All-contains_itself (map (λ x. x.v) g.gates))))
      reads.1 (recursion_from_All (λ x. variable ρ x.v ≡ (literal ρ x.left && literal ρ x.right)) g.gates evaluates))

  inputs_are_inputs : AllByRecursion IsInput g.inputs
  inputs_are_inputs = recursion_from_All IsInput g.inputs well.defined_once.inputs

  known_keeps : (v : ℕ) → IsFree g.gates v → known v ≡ of_inputs g.inputs (map (literal ρ) g.inputs) v
  known_keeps v free =
      ap (λ b. cond b (ρ v) false)
      (list_any-append (λ u. u == v) (map variable_of g.inputs) (map (λ x. x.v) g.gates) ∙
      ap (λ b. among (map variable_of g.inputs) v || b) (has_none g.gates v (recursion_from_All (λ x. x.v ≢ v) g.gates free)) ∙ or_false (among (map variable_of g.inputs) v)) ∙
      sym (of_inputs_again ρ g.inputs v inputs_are_inputs)

  known_is : (v : ℕ) → known v ≡ evaluated g (map (literal ρ) g.inputs) v
  known_is = evaluation_is_one g.gates (of_inputs g.inputs (map (literal ρ) g.inputs)) known well.acyclic well.defined_once.gates known_evaluates known_keeps

  known_word : (ls : List Lit) → AllByRecursion IsKnownLit ls → word known ls ≡ word ρ ls
  known_word [] h = refl
  known_word (l ∷ ls) h = ap₂ (λ b n. bit b + 2 * n) (known_literal l h.0) (known_word ls h.1)

  known_values : (ls : List Lit) → AllByRecursion IsKnownLit ls → map (literal known) ls ≡ map (literal ρ) ls
  known_values [] h = refl
  known_values (l ∷ ls) h = ap₂ ◌∷◌ (known_literal l h.0) (known_values ls h.1)

  -- on an evaluation the outputs have the values that the graph gives the values of its inputs
  pub outputs_are : map (literal ρ) g.outputs ≡ map (literal (evaluated g (map (literal ρ) g.inputs))) g.outputs
  outputs_are = sym (known_values g.outputs reads.0) ∙ ap (λ σ. map (literal σ) g.outputs) (fun_ext known_is)

  -- on an evaluation the outputs are the graph's value on the values of its inputs
  pub outputs_are_value : word ρ g.outputs ≡ value_at_inputs g (map (literal ρ) g.inputs)
  outputs_are_value = sym (known_word g.outputs reads.0) ∙ ap (λ σ. word σ g.outputs) (fun_ext known_is)
