-- The evaluation of acyclic gates is one, and the only one that keeps the free variables.
use Rattle.std.specs.Prelude.{◌≡◌, ◌≢◌, ℕ, zero, suc, ◌%◌, ◌<◌, ◌≤◌, Bool, true, false, not, cond, ◌&&◌, List, [], ◌∷◌, length, ◌==◌, ⊤, slice_index_or}
use Rattle.std.specs.declared.option.Option.{Option}
use Rattle.std.specs.declared.option.Option.TheVariants.{None, Some}
use Rattle.std.specs.List.{All, AllByRecursion, find}
use Rattle.std.proofs.Common.{refl, sym, ap, ap₂, subst, ◌∙◌, arith, eq-eqb, ne_eqb, eqb-true}
use Rattle.std.proofs.lemmas.List.Elements.{recursion_from_All, All-from_recursion}
use Rattle.std.proofs.lemmas.Bool.{eqb-false}
use Rattle.graph_core.specs.Graph.{EvaluationIsOne}
use Rattle.graph_core.specs.declared.literal.Lit.{Lit}
use Rattle.graph_core.specs.declared.gate.Gate.{Gate}
use Rattle.graph_core.specs.Graph.Literals.{variable_of}
use Rattle.graph_core.specs.Graph.Assignments.{Assignment, variable, literal}
use Rattle.graph_core.specs.Graph.{IsEvaluation, IsOrder, computed, rounds, evaluation}

pub variable-pos : (σ : Assignment) (v : ℕ) → 0 < v → variable σ v ≡ σ v
variable-pos σ zero h = absurd (omega arith)
variable-pos σ (suc v) h = refl

pub variable_same : (σ τ : Assignment) (v : ℕ) → σ v ≡ τ v → variable σ v ≡ variable τ v
variable_same σ τ zero h = refl
variable_same σ τ (suc v) h = h

-- a literal has one value under assignments that agree on its variable
pub literal_same : (σ τ : Assignment) (l : Lit) → σ (variable_of l) ≡ τ (variable_of l) → literal σ l ≡ literal τ l
literal_same σ τ l h =
    ap (λ b. cond (l.0 % 2 == 0) b (not b)) (variable_same σ τ (variable_of l) h)

-- no two gates have one variable
abbrev pub Distinct : List Gate → Type 0
Distinct [] = ⊤
Distinct (x ∷ xs) = AllByRecursion (λ y. x.v ≢ y.v) xs × Distinct xs

found_from : (P : Gate → Type 0) (y : Gate) (v : ℕ) (x : Gate) (rest : Option Gate) → P y → (rest ≡ Some x → P x × (x.v ≡ v)) → cond (y.v == v) (Some y) rest ≡ Some x → P x × (x.v ≡ v)
found_from P y v x rest h k = go (y.v == v) refl
  where
    go : (b : Bool) → (y.v == v) ≡ b → cond b (Some y) rest ≡ Some x → P x × (x.v ≡ v)
    go true t f = let same : y ≡ x = cc in (subst P same h, ap (λ z. z.v) (sym same) ∙ eqb-true y.v v t)
    go false t f = k f

-- a fact of each gate holds of the one that is found
pub found : (P : Gate → Type 0) (gates : List Gate) (v : ℕ) (x : Gate) → AllByRecursion P gates → find (λ y. y.v == v) gates ≡ Some x → P x × (x.v ≡ v)
found P [] v x h e = absurd (cc)
found P (y ∷ gates) v x h e = found_from P y v x (find (λ z. z.v == v) gates) h.0 (found P gates v x h.1) e

module _ (gates : List Gate) (number : ℕ → ℕ) (order : IsOrder gates number) where
  lows : (v : ℕ) (x : Gate) → find (λ y. y.v == v) gates ≡ Some x → (number (variable_of x.left) < number v) × (number (variable_of x.right) < number v)
  lows v x e =
      let l = found (λ y. number (variable_of y.left) < number y.v) gates v x (recursion_from_All _ gates order.left) e in
      let r = found (λ y. number (variable_of y.right) < number y.v) gates v x (recursion_from_All _ gates order.right) e in
      (subst (λ k. number (variable_of x.left) < number k) l.1 l.0, subst (λ k. number (variable_of x.right) < number k) r.1 r.0)

  -- two assignments that agree on the operands' variables compute one value
  computed_same : (σ τ : Assignment) (v : ℕ) (o : Option Gate) → find (λ y. y.v == v) gates ≡ o → (o ≡ None → σ v ≡ τ v) → ((w : ℕ) → number w < number v → σ w ≡ τ w) → computed σ v o ≡ computed τ v o
  computed_same σ τ v None e h k = h refl
  computed_same σ τ v (Some x) e h k =
      let low = lows v x e in
      ap₂ ◌&&◌ (literal_same σ τ x.left (k (variable_of x.left) low.0)) (literal_same σ τ x.right (k (variable_of x.right) low.1))

  -- a round changes nothing up to the level that it has reached
  stable : (σ : Assignment) (t v : ℕ) → number v ≤ t → rounds (suc t) gates σ v ≡ rounds t gates σ v
  stable σ zero v h = first (find (λ y. y.v == v) gates) refl
    where
      first : (o : Option Gate) → find (λ y. y.v == v) gates ≡ o → computed σ v o ≡ σ v
      first None e = refl
      first (Some x) e = let low = (lows v x e).0 in absurd (omega arith)
  stable σ (suc t) v h =
      computed_same (rounds (suc t) gates σ) (rounds t gates σ) v (find (λ y. y.v == v) gates) refl
      (λ none. ap (computed (rounds t gates σ) v) none)
      (λ w lt. stable σ t w (omega arith))

  stable_after : (σ : Assignment) (v : ℕ) → number v ≤ length gates → evaluation gates σ v ≡ computed (evaluation gates σ) v (find (λ y. y.v == v) gates)
  stable_after σ v h = sym (stable σ (length gates) v h)

  -- any evaluation that keeps the free variables has the values of the rounds
  pub evaluation_only : (σ τ : Assignment) → AllByRecursion (λ x. 0 < x.v) gates → IsEvaluation gates τ →
      ((v : ℕ) → find (λ y. y.v == v) gates ≡ None → τ v ≡ σ v) → (t v : ℕ) → number v ≤ t → τ v ≡ rounds t gates σ v
  evaluation_only σ τ positive evaluates keeps t v h = go t v h (find (λ y. y.v == v) gates) refl
    where
      gate_value : (v : ℕ) (x : Gate) → find (λ y. y.v == v) gates ≡ Some x → τ v ≡ computed τ v (Some x)
      gate_value v x e =
          let is = found (λ y. variable τ y.v ≡ (literal τ y.left && literal τ y.right)) gates v x (recursion_from_All _ gates evaluates) e in
          let above = found (λ y. 0 < y.v) gates v x positive e in
          ap τ (sym is.1) ∙ sym (variable-pos τ x.v above.0) ∙ is.0

      kept : (t v : ℕ) → find (λ y. y.v == v) gates ≡ None → rounds t gates σ v ≡ σ v
      kept zero v e = refl
      kept (suc t) v e = ap (computed (rounds t gates σ) v) e ∙ kept t v e

      go : (t v : ℕ) → number v ≤ t → (o : Option Gate) → find (λ y. y.v == v) gates ≡ o → τ v ≡ rounds t gates σ v
      go t v h None e = keeps v e ∙ sym (kept t v e)
      go zero v h (Some x) e = let low = (lows v x e).0 in absurd (omega arith)
      go (suc t) v h (Some x) e =
          gate_value v x e ∙
          computed_same τ (rounds t gates σ) v (Some x) e (λ none. absurd (cc)) (λ w lt. go t w (omega arith) (find (λ y. y.v == w) gates) refl) ∙
          ap (computed (rounds t gates σ) v) (sym e)

-- each gate is the one that is found by its variable
finds : (gates : List Gate) (k : ℕ) (d : Gate) → k < length gates → Distinct gates → find (λ y. y.v == (slice_index_or gates k d).v) gates ≡ Some (slice_index_or gates k d)
finds [] k d h distinct = absurd (omega arith)
finds (x ∷ gates) zero d h distinct = ap (λ b. cond b (Some x) (find (λ y. y.v == x.v) gates)) (eq-eqb x.v x.v refl)
finds (x ∷ gates) (suc k) d h distinct =
    let other = All-from_recursion _ gates distinct.0 k d (omega arith) in
    ap (λ b. cond b (Some x) (find (λ y. y.v == (slice_index_or gates k d).v) gates)) (ne_eqb x.v (slice_index_or gates k d).v other) ∙
    finds gates k d (omega arith) distinct.1

-- The evaluation is an evaluation.
pub evaluation_is : (gates : List Gate) (number : ℕ → ℕ) → IsOrder gates number → Distinct gates → All (λ x. 0 < x.v) gates → (σ : Assignment) → IsEvaluation gates (evaluation gates σ)
evaluation_is gates number order distinct positive σ k d h =
    let x = slice_index_or gates k d in
    variable-pos (evaluation gates σ) x.v (positive k d h) ∙
    stable_after gates number order σ x.v (order.few k d h) ∙
    ap (computed (evaluation gates σ) x.v) (finds gates k d h distinct)

-- a free variable keeps its value
pub rounds-free : (gates : List Gate) (σ : Assignment) (t v : ℕ) → find (λ y. y.v == v) gates ≡ None → rounds t gates σ v ≡ σ v
rounds-free gates σ zero v e = refl
rounds-free gates σ (suc t) v e = ap (computed (rounds t gates σ) v) e ∙ rounds-free gates σ t v e

pub finds_none : (gates : List Gate) (v : ℕ) → AllByRecursion (λ x. v ≢ x.v) gates → find (λ y. y.v == v) gates ≡ None
finds_none [] v h = refl
finds_none (x ∷ gates) v h = ap (λ b. cond b (Some x) (find (λ y. y.v == v) gates)) (ne_eqb x.v v (λ e. h.0 (sym e))) ∙ finds_none gates v h.1

-- what is not found is free
none_first : (x : Gate) (v : ℕ) (rest : Option Gate) → cond (x.v == v) (Some x) rest ≡ None → (x.v ≢ v) × (rest ≡ None)
none_first x v rest = go (x.v == v) refl
  where
    go : (b : Bool) → (x.v == v) ≡ b → cond b (Some x) rest ≡ None → (x.v ≢ v) × (rest ≡ None)
    go true t f = absurd (cc)
    go false t f = (eqb-false x.v v t, f)

pub free_from_none : (gates : List Gate) (v : ℕ) → find (λ y. y.v == v) gates ≡ None → AllByRecursion (λ x. x.v ≢ v) gates
free_from_none [] v e = tt
free_from_none (x ∷ gates) v e = let parts = none_first x v (find (λ y. y.v == v) gates) e in (parts.0, free_from_none gates v parts.1)

pub evaluation_is_one : EvaluationIsOne
evaluation_is_one gates σ τ acyclic positive evaluates keeps v = go (find (λ y. y.v == v) gates) refl
  where
    kept : (w : ℕ) → find (λ y. y.v == w) gates ≡ None → τ w ≡ σ w
    kept w e = keeps w (All-from_recursion (λ x. x.v ≢ w) gates (free_from_none gates w e))

    go : (o : Option Gate) → find (λ y. y.v == v) gates ≡ o → τ v ≡ evaluation gates σ v
    go None e = kept v e ∙ sym (rounds-free gates σ (length gates) v e)
    go (Some x) e =
        let few = found (λ y. acyclic.0 y.v ≤ length gates) gates v x (recursion_from_All (λ y. acyclic.0 y.v ≤ length gates) gates acyclic.1.few) e in
        let low : acyclic.0 v ≤ length gates = subst (λ k. acyclic.0 k ≤ length gates) few.1 few.0 in
        evaluation_only gates acyclic.0 acyclic.1 σ τ (recursion_from_All (λ y. 0 < y.v) gates positive) evaluates kept (length gates) v low
