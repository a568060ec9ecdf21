-- The steps of a reduction: each leaves a frontier, and what it does to the function.
use Rattle.std.specs.Prelude.{map, ◌^◌, ◌≡◌, ◌≢◌, ℕ, zero, suc, ◌+◌, ◌*◌, ◌%◌, ◌<◌, ◌⊎◌, Bool, true, false, cond, ◌&&◌, ◌||◌, List, [], ◌∷◌, length, slice_get, ◌==◌, slice_index_or}
use Rattle.std.specs.declared.option.Option.TheVariants.{Some}
use Rattle.std.specs.List.{AllByRecursion, AllPairs, Contains}
use Rattle.std.proofs.Common.{refl, sym, ap, ap₂, subst, ◌∙◌, arith, inl, inr, ⊎_elim, eqb-true, eq-eqb, ne_eqb, true≢false}
use Rattle.std.proofs.Math.Path.{fun_ext}
use Rattle.std.proofs.Math.Nat.{zero-mod, mod-add-mod}
use Rattle.std.proofs.lemmas.Bool.{cases_Bool, or_cases, or_left, or_right}
use Rattle.std.proofs.lemmas.List.Elements.{All-from_recursion, recursion_from_All, All-contains, All-cons, All-filter}
use Rattle.graph_core.specs.declared.literal.Lit.{Lit}
use Rattle.graph_core.specs.declared.gate.Gate.{Gate}
use Rattle.graph_core.specs.Graph.Literals.{variable_of}
use Rattle.graph_core.specs.Graph.Assignments.{Assignment, variable, literal, bit}
use Rattle.graph_core.specs.Graph.{IsEvaluation, IsFree, evaluation}
use Rattle.graph_core.specs.Graph.Operands.{Sides}
use Rattle.algebra_core.specs.Polynomials.{difference}
use Rattle.graph_core.specs.Graph.Extended.{Extended, modulus}
use Rattle.ripple_graft.specs.Extension.{new_outputs, IsExtension}
use Rattle.graph_core.proofs.OfGraphs.CallerLemmas.{rounds-free, finds_none, evaluation_is_one, variable-pos, literal_same, all_weaker}
use Rattle.frontier_core.specs.Sets.{has}
use Rattle.frontier_core.specs.Columns.{AgreeOnOperands, column_of, columns_sum}
use Rattle.frontier_core.specs.Frontier.{IsFrontier, gates_among, set_to, FirstFrontier, AddingLeavesFrontier, EliminatingLeavesFrontier, AddingAddsColumn, EliminatingComputesGate}
use Rattle.frontier_core.proofs.Everywhere.{all_zip, filter_all, all_filtered, pairs_cons}
use Rattle.frontier_core.proofs.ColumnClaims.{claims_are_of_operands}
use Rattle.frontier_core.proofs.Computed.{filter_order, same_gate, all_distinct, computed_is, computed_keeps, computed_operands}

pub no_columns : (m : ℕ) (s : Sides) (k : ℕ) (os : List Lit) (σ : Assignment) → columns_sum m s [] k os σ ≡ 0
no_columns m s k [] σ = refl
no_columns m s k (o ∷ os) σ = omega (arith, no_columns m s (suc k) os σ)

none_pairs : AllPairs {X = ℕ} ◌≢◌ []
none_pairs i j d lt within e = absurd (omega arith)

pub first_frontier : FirstFrontier
first_frontier e = (
  record {
    columns = λ k d h. absurd (omega arith);
    gates = λ k d h. absurd (omega arith);
    columns_once = none_pairs;
    gates_once = none_pairs;
    readers = λ k d h. ⊎_elim (λ f. absurd (true≢false (sym f))) (λ f. absurd (true≢false (sym f)));
    outputs = λ k l is f. absurd (true≢false (sym f));
  },
  λ s σ. ap (λ z. z % modulus e) (no_columns (modulus e) s 0 (new_outputs e) (evaluation (gates_among [] e.gates) σ)) ∙ zero-mod (modulus e),
)

pub adding_leaves_frontier : AddingLeavesFrontier
adding_leaves_frontier e added eliminated k f low new = record {
  columns = All-cons (λ j. j < length e.graph.outputs) k added low f.columns;
  gates = f.gates;
  columns_once = pairs_cons k added new f.columns_once;
  gates_once = f.gates_once;
  readers = f.readers;
  outputs = λ j l is h. or_right (k == j) (has added j) (f.outputs j l is h);
}

pub eliminating_leaves_frontier : EliminatingLeavesFrontier
eliminating_leaves_frontier e added eliminated v f gate new readers outputs = record {
  columns = f.columns;
  gates = All-cons (λ w. has (map (λ x. x.v) e.gates) w ≡ true) v eliminated gate f.gates;
  columns_once = f.columns_once;
  gates_once = pairs_cons v eliminated new f.gates_once;
  readers = λ k d h.
      let x = slice_index_or e.gates k d in
      ⊎_elim
      (λ l. or_right (v == x.v) (has eliminated x.v)
      (⊎_elim (λ s. readers k d h (inl (sym (eqb-true v (variable_of x.left) s)))) (λ s. f.readers k d h (inl s)) (or_cases (v == variable_of x.left) (has eliminated (variable_of x.left)) l)))
      (λ r. or_right (v == x.v) (has eliminated x.v)
      (⊎_elim (λ s. readers k d h (inr (sym (eqb-true v (variable_of x.right) s)))) (λ s. f.readers k d h (inr s)) (or_cases (v == variable_of x.right) (has eliminated (variable_of x.right)) r)));
  outputs = λ j l is h.
      ⊎_elim (λ s. outputs j l is (sym (eqb-true v (variable_of l) s))) (λ s. f.outputs j l is s) (or_cases (v == variable_of l) (has eliminated (variable_of l)) h);
}

-- one more column
cond_same : (b c : Bool) (x y : ℕ) → b ≡ c → cond b x y ≡ cond c x y
cond_same b c x y h = ap (λ d. cond d x y) h

later_columns : (m : ℕ) (s : Sides) (added : List ℕ) (k j : ℕ) (os : List Lit) (σ : Assignment) → k < j → columns_sum m s (k ∷ added) j os σ ≡ columns_sum m s added j os σ
later_columns m s added k j [] σ h = refl
later_columns m s added k j (o ∷ os) σ h =
    ap₂ ◌+◌ (ap (λ b. cond (b || has added j) (column_of m s j o σ) 0) (ne_eqb k j (λ e. omega arith))) (later_columns m s added k (suc j) os σ (omega arith))

pub more_columns : (m : ℕ) (s : Sides) (added : List ℕ) (j i : ℕ) (os : List Lit) (o : Lit) (σ : Assignment) → slice_get os i ≡ Some o → has added (j + i) ≡ false →
    columns_sum m s ((j + i) ∷ added) j os σ ≡ columns_sum m s added j os σ + column_of m s (j + i) o σ
more_columns m s added j i [] o σ is h = absurd (cc)
more_columns m s added j zero (p ∷ os) o σ is h =
    let same : p ≡ o = cc in
    let here : (j + 0) ≡ j = omega arith in
    let now : cond (has ((j + 0) ∷ added) j) (column_of m s j p σ) 0 ≡ column_of m s (j + 0) o σ =
    ap (λ b. cond (b || has added j) (column_of m s j p σ) 0) (eq-eqb (j + 0) j here) ∙ ap₂ (λ k l. column_of m s k l σ) (sym here) same in
    let before : cond (has added j) (column_of m s j p σ) 0 ≡ 0 = cond_same (has added j) false (column_of m s j p σ) 0 (ap (has added) (sym here) ∙ h) in
    let rest = later_columns m s added (j + 0) (suc j) os σ (omega arith) in
    omega arith
more_columns m s added j (suc i) (p ∷ os) o σ is h =
    let up : (suc j + i) ≡ j + suc i = omega arith in
    let rest : columns_sum m s ((j + suc i) ∷ added) (suc j) os σ ≡ columns_sum m s added (suc j) os σ + column_of m s (j + suc i) o σ =
    subst (λ k. columns_sum m s (k ∷ added) (suc j) os σ ≡ columns_sum m s added (suc j) os σ + column_of m s k o σ) up
    (more_columns m s added (suc j) i os o σ is (ap (has added) up ∙ h)) in
    let now : cond (has ((j + suc i) ∷ added) j) (column_of m s j p σ) 0 ≡ cond (has added j) (column_of m s j p σ) 0 =
    ap (λ b. cond (b || has added j) (column_of m s j p σ) 0) (ne_eqb (j + suc i) j (λ e. omega arith)) in
    omega arith

-- a column is one at assignments that agree on the operands and on its output
pub column_same : (m : ℕ) (s : Sides) (k : ℕ) (o : Lit) (σ τ : Assignment) → AgreeOnOperands s σ τ → literal τ o ≡ literal σ o → column_of m s k o τ ≡ column_of m s k o σ
column_same m s k o σ τ agree e = ap₂ (λ x y. 2 ^ k * difference m (bit x) y) e ((claims_are_of_operands m s σ τ agree).1 k)

pub adding_adds_column : AddingAddsColumn
adding_adds_column e s added eliminated k o σ made read f is new =
    let τ = evaluation (gates_among eliminated e.gates) σ in
    let m = modulus e in
    let kept : has eliminated (variable_of o) ≡ false = ⊎_elim (λ t. absurd (true≢false (sym (f.outputs k o is t) ∙ new))) (λ t. t) (cases_Bool (has eliminated (variable_of o))) in
    let column : column_of m s k o τ ≡ column_of m s k o σ =
    column_same m s k o σ τ (computed_operands e made s eliminated σ read) (literal_same τ σ o (computed_keeps e made eliminated σ (variable_of o) kept)) in
    let more : columns_sum m s (k ∷ added) 0 (new_outputs e) τ ≡ columns_sum m s added 0 (new_outputs e) τ + column_of m s k o τ =
    subst (λ j. columns_sum m s (j ∷ added) 0 (new_outputs e) τ ≡ columns_sum m s added 0 (new_outputs e) τ + column_of m s j o τ) (omega arith)
    (more_columns m s added 0 k (new_outputs e) o τ is (ap (has added) (omega arith) ∙ new)) in
    ap (λ z. z % m) (more ∙ ap (λ z. columns_sum m s added 0 (new_outputs e) τ + z) column) ∙ sym (mod-add-mod (columns_sum m s added 0 (new_outputs e) τ) m (column_of m s k o σ))

-- elimination
pub set_to-same : (v : ℕ) (b : Bool) (σ : Assignment) → set_to v b σ v ≡ b
set_to-same v b σ = ap (λ t. cond t b (σ v)) (eq-eqb v v refl)

pub set_to-other : (v : ℕ) (b : Bool) (σ : Assignment) (w : ℕ) → w ≢ v → set_to v b σ w ≡ σ w
set_to-other v b σ w h = ap (λ t. cond t b (σ w)) (ne_eqb w v h)

module _ (e : Extended) (made : IsExtension e) (added eliminated : List ℕ) (f : IsFrontier e added eliminated) (x : Gate) (is : Contains e.gates x) (new : has eliminated x.v ≡ false) (σ : Assignment) where
  abbrev answer : Bool
  answer = literal σ x.left && literal σ x.right

  abbrev changed : Assignment
  changed = set_to x.v answer σ

  abbrev τ : Assignment
  τ = evaluation (gates_among eliminated e.gates) changed

  abbrev Holds : Gate → Type 0
  Holds y = variable τ y.v ≡ (literal τ y.left && literal τ y.right)

  abbrev ReadIn : Gate → Type 0
  ReadIn y = (has eliminated (variable_of y.left) ≡ true) ⊎ (has eliminated (variable_of y.right) ≡ true) → has eliminated y.v ≡ true

  left_kept : has eliminated (variable_of x.left) ≡ false
  left_kept = ⊎_elim (λ t. absurd (true≢false (sym (All-contains ReadIn e.gates x f.readers is (inl t)) ∙ new))) (λ t. t) (cases_Bool (has eliminated (variable_of x.left)))

  right_kept : has eliminated (variable_of x.right) ≡ false
  right_kept = ⊎_elim (λ t. absurd (true≢false (sym (All-contains ReadIn e.gates x f.readers is (inr t)) ∙ new))) (λ t. t) (cases_Bool (has eliminated (variable_of x.right)))

  left_low : made.acyclic.0 (variable_of x.left) < made.acyclic.0 x.v
  left_low = All-contains (λ y. made.acyclic.0 (variable_of y.left) < made.acyclic.0 y.v) e.gates x made.acyclic.1.left is

  right_low : made.acyclic.0 (variable_of x.right) < made.acyclic.0 x.v
  right_low = All-contains (λ y. made.acyclic.0 (variable_of y.right) < made.acyclic.0 y.v) e.gates x made.acyclic.1.right is

  lower : (v : ℕ) → made.acyclic.0 v < made.acyclic.0 x.v → v ≢ x.v
  lower v h same = let number = ap made.acyclic.0 same in omega arith

  operand : (l : Lit) → has eliminated (variable_of l) ≡ false → made.acyclic.0 (variable_of l) < made.acyclic.0 x.v → literal τ l ≡ literal σ l
  operand l kept low = literal_same τ σ l (computed_keeps e made eliminated changed (variable_of l) kept ∙ set_to-other x.v answer σ (variable_of l) (lower (variable_of l) low))

  here : variable τ x.v ≡ (literal τ x.left && literal τ x.right)
  here =
      variable-pos τ x.v (All-contains (λ y. 0 < y.v) e.gates x made.defined_once.gates is) ∙ computed_keeps e made eliminated changed x.v new ∙ set_to-same x.v answer σ ∙
      sym (ap₂ ◌&&◌ (operand x.left left_kept left_low) (operand x.right right_kept right_low))

  evaluates : IsEvaluation (gates_among (x.v ∷ eliminated) e.gates) τ
  evaluates =
      All-from_recursion Holds (gates_among (x.v ∷ eliminated) e.gates)
      (filter_all Holds (λ y. has (x.v ∷ eliminated) y.v) e.gates
      (all_zip (λ y. x.v ≡ y.v → x ≡ y) (λ y. has eliminated y.v ≡ true → Holds y) (λ y. has (x.v ∷ eliminated) y.v ≡ true → Holds y) e.gates
      (λ y same there t. ⊎_elim (λ s. subst Holds (same (eqb-true x.v y.v s)) here) there (or_cases (x.v == y.v) (has eliminated y.v) t))
      (same_gate e.gates x (all_distinct e made) is)
      (all_filtered Holds (λ y. has eliminated y.v) e.gates (recursion_from_All Holds (gates_among eliminated e.gates) (computed_is e made eliminated changed)))))

  not_among : (v : ℕ) → IsFree (gates_among (x.v ∷ eliminated) e.gates) v → AllByRecursion (λ y. has (x.v ∷ eliminated) y.v ≡ true → y.v ≢ v) e.gates
  not_among v free = all_filtered (λ y. y.v ≢ v) (λ y. has (x.v ∷ eliminated) y.v) e.gates (recursion_from_All (λ y. y.v ≢ v) (gates_among (x.v ∷ eliminated) e.gates) free)

  keeps : (v : ℕ) → IsFree (gates_among (x.v ∷ eliminated) e.gates) v → τ v ≡ σ v
  keeps v free =
      let other : x.v ≢ v = All-contains (λ y. has (x.v ∷ eliminated) y.v ≡ true → y.v ≢ v) e.gates x (All-from_recursion (λ y. has (x.v ∷ eliminated) y.v ≡ true → y.v ≢ v) e.gates (not_among v free)) is
      (or_left (x.v == x.v) (has eliminated x.v) (eq-eqb x.v x.v refl)) in
      rounds-free (gates_among eliminated e.gates) changed (length (gates_among eliminated e.gates)) v
      (finds_none (gates_among eliminated e.gates) v
      (filter_all (λ y. v ≢ y.v) (λ y. has eliminated y.v) e.gates
      (all_weaker (λ y. has (x.v ∷ eliminated) y.v ≡ true → y.v ≢ v) (λ y. has eliminated y.v ≡ true → v ≢ y.v) e.gates (λ y k t s. k (or_right (x.v == y.v) (has eliminated y.v) t) (sym s)) (not_among v free)))) ∙
      set_to-other x.v answer σ v (λ s. other (sym s))

  pub one_evaluation : τ ≡ evaluation (gates_among (x.v ∷ eliminated) e.gates) σ
  one_evaluation = fun_ext
      (evaluation_is_one (gates_among (x.v ∷ eliminated) e.gates) σ τ (filter_order (λ y. has (x.v ∷ eliminated) y.v) e.gates made.acyclic)
      (All-filter (λ y. has (x.v ∷ eliminated) y.v) (λ y. 0 < y.v) e.gates made.defined_once.gates) evaluates keeps)

pub eliminating_computes_gate : EliminatingComputesGate
eliminating_computes_gate e s added eliminated x σ made f is new =
    ap (λ ρ. columns_sum (modulus e) s added 0 (new_outputs e) ρ % modulus e) (sym (one_evaluation e made added eliminated f x is new σ))
