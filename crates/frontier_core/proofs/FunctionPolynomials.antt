-- A function of finitely many variables has a polynomial, so a frontier has a size.
use Rattle.std.specs.Prelude.{◌≡◌, ℕ, zero, suc, ◌+◌, ◌*◌, ◌%◌, ◌^◌, ◌<◌, ◌≤◌, Bool, true, false, not, cond, ◌&&◌, List, [], ◌∷◌, ◌++◌, map, length, ◌==◌}
use Rattle.std.specs.declared.option.Option.{Option}
use Rattle.std.specs.declared.option.Option.TheVariants.{None, Some}
use Rattle.std.specs.List.{AllByRecursion, find}
use Rattle.std.proofs.Common.{refl, sym, ap, ap₂, ◌∙◌, arith, ⊎_elim}
use Rattle.std.proofs.lemmas.Bool.{cases_eq}
use Rattle.std.proofs.lemmas.List.Elements.{All-from_recursion}
use Rattle.graph_core.specs.declared.literal.Lit.{Lit}
use Rattle.graph_core.specs.declared.gate.Gate.{Gate}
use Rattle.graph_core.specs.Graph.Literals.{variable_of}
use Rattle.graph_core.specs.Graph.Assignments.{Assignment, variable, literal, bit}
use Rattle.graph_core.specs.Graph.{computed, rounds, evaluation}
use Rattle.graph_core.specs.Graph.Operands.{Sides, operand_literals}
use Rattle.algebra_core.specs.Polynomials.{Term, Polynomial, product, term_value, sum_of, difference}
use Rattle.graph_core.specs.Graph.Extended.{modulus}
use Rattle.ripple_graft.specs.Extension.{new_outputs}
use Rattle.algebra_core.proofs.CallerLemmas.{modulus_pos, sum_of-append, normal_form_exists, difference_same}
use Rattle.graph_core.proofs.OfGraphs.CallerLemmas.{sum_same, product_same}
use Rattle.frontier_core.specs.Sets.{has}
use Rattle.frontier_core.specs.Columns.{column_claim, column_of, columns_sum}
use Rattle.frontier_core.specs.Frontier.{gates_among, set_to}
use Rattle.frontier_core.specs.Substitution.{quotient}
use Rattle.frontier_core.specs.Sizes.{AgreeOnVariables, FunctionHasPolynomial, FrontierHasSize}
use Rattle.frontier_core.proofs.ColumnClaims.{claims_are_of_operands}
use Rattle.frontier_core.proofs.FrontierSteps.{set_to-same, set_to-other}
use Rattle.frontier_core.proofs.Substituting.{quotient_splits}

-- ---- a variable times a polynomial

abbrev timed : ℕ → Term → Term
timed v t = record { negative = t.negative; coefficient = t.coefficient; variables = v ∷ t.variables }

timed_term : (m v : ℕ) (t : Term) (σ : Assignment) → 0 < m → term_value m (timed v t) σ ≡ bit (variable σ v) * term_value m t σ
timed_term m v t σ h = go (variable σ v)
  where
    none : (b : Bool) → cond b (difference m 0 0) 0 ≡ 0
    none true = difference_same m 0 h
    none false = refl

    go : (b : Bool) → cond t.negative (difference m 0 (t.coefficient * (bit b * product σ t.variables))) (t.coefficient * (bit b * product σ t.variables)) ≡ bit b * term_value m t σ
    go true =
        let one : t.coefficient * (bit true * product σ t.variables) ≡ t.coefficient * product σ t.variables = omega arith in
        ap (λ n. cond t.negative (difference m 0 n) n) one ∙ omega arith
    go false =
        let zero_there : t.coefficient * (bit false * product σ t.variables) ≡ 0 = omega arith in
        ap (λ n. cond t.negative (difference m 0 n) n) zero_there ∙ none t.negative ∙ omega arith

timed_sum : (m v : ℕ) (p : Polynomial) (σ : Assignment) → 0 < m → sum_of m (map (timed v) p) σ ≡ bit (variable σ v) * sum_of m p σ
timed_sum m v [] σ h = omega arith
timed_sum m v (t ∷ p) σ h = omega (arith, timed_term m v t σ h, timed_sum m v p σ h)

-- ---- functions of finitely many variables

-- with one variable set, the others count
agree_set : (n : ℕ) (b : Bool) (σ τ : Assignment) → AgreeOnVariables n σ τ → AgreeOnVariables (suc n) (set_to (suc n) b σ) (set_to (suc n) b τ)
agree_set n b σ τ agree zero low = refl
agree_set n b σ τ agree (suc v) low =
    ⊎_elim
    (λ same. ap (set_to (suc n) b σ) same ∙ set_to-same (suc n) b σ ∙ sym (set_to-same (suc n) b τ) ∙ ap (set_to (suc n) b τ) (sym same))
    (λ other. set_to-other (suc n) b σ (suc v) other ∙ agree (suc v) (omega (arith, other)) ∙ sym (set_to-other (suc n) b τ (suc v) other))
    (cases_eq (suc v) (suc n))

pub function_has_polynomial : FunctionHasPolynomial
function_has_polynomial m zero f h same =
    let c = f (λ v. false) in
    let constant : Term = record { negative = false; coefficient = c; variables = [] } in
    (constant ∷ [], λ σ. ap (λ z. z % m) (omega arith) ∙ ap (λ z. z % m) (same (λ v. false) σ (λ v low. nothing σ v low)))
  where
    nothing : (σ : Assignment) (v : ℕ) → v ≤ 0 → variable (λ w. false) v ≡ variable σ v
    nothing σ zero low = refl
    nothing σ (suc v) low = absurd (omega arith)
function_has_polynomial m (suc n) f h same =
    let v = suc n in
    let low = function_has_polynomial m n (λ σ. f (set_to v false σ)) h (λ σ τ agree. same (set_to v false σ) (set_to v false τ) (agree_set n false σ τ agree)) in
    let high = function_has_polynomial m n (quotient m v f) h
    (λ σ τ agree. ap₂ (difference m) (same (set_to v true σ) (set_to v true τ) (agree_set n true σ τ agree)) (same (set_to v false σ) (set_to v false τ) (agree_set n false σ τ agree))) in (
      map (timed v) high.0 ++ low.0,
      λ σ.
          let x = bit (variable σ v) in
          ap (λ z. z % m) (sum_of-append m (map (timed v) high.0) low.0 σ ∙ ap (λ z. z + sum_of m low.0 σ) (timed_sum m v high.0 σ h)) ∙
          sum_same m (x * sum_of m high.0 σ) (x * quotient m v f σ) (sum_of m low.0 σ) (f (set_to v false σ)) (product_same m x x (sum_of m high.0 σ) (quotient m v f σ) refl (high.1 σ)) (low.1 σ) ∙
          quotient_splits m v f σ h (omega arith),
    )

-- ---- what depends on finitely many variables

abbrev Depends : {A : Type 0} → (Assignment → A) → Type 0
Depends f = (n : ℕ) × ((σ τ : Assignment) → AgreeOnVariables n σ τ → f σ ≡ f τ)

depends_of : {A B : Type 0} (h : A → B) (f : Assignment → A) → Depends f → Depends (λ σ. h (f σ))
depends_of h f d = (d.0, λ σ τ agree. ap h (d.1 σ τ agree))

depends_two : {A B C : Type 0} (h : A → B → C) (f : Assignment → A) (g : Assignment → B) → Depends f → Depends g → Depends (λ σ. h (f σ) (g σ))
depends_two h f g d c = (d.0 + c.0, λ σ τ agree. ap₂ h (d.1 σ τ (λ v low. agree v (omega arith))) (c.1 σ τ (λ v low. agree v (omega arith))))

-- a literal, where the variables do
literal_depends : (ρ : Assignment → Assignment) (l : Lit) → ((v : ℕ) → Depends (λ σ. variable (ρ σ) v)) → Depends (λ σ. literal (ρ σ) l)
literal_depends ρ l d = depends_of (λ b. cond (l.0 % 2 == 0) b (not b)) (λ σ. variable (ρ σ) (variable_of l)) (d (variable_of l))

rounds_depend : (t : ℕ) (gates : List Gate) (v : ℕ) → Depends (λ σ. variable (rounds t gates σ) v)
rounds_depend zero gates v = (v, λ σ τ agree. agree v (omega arith))
rounds_depend (suc t) gates zero = (0, λ σ τ agree. refl)
rounds_depend (suc t) gates (suc v) = at (find (λ g. g.v == suc v) gates) (λ u. rounds_depend t gates u)
  where
    at : (o : Option Gate) → ((u : ℕ) → Depends (λ σ. variable (rounds t gates σ) u)) → Depends (λ σ. computed (rounds t gates σ) (suc v) o)
    at None d = d (suc v)
    at (Some g) d = depends_two ◌&&◌ (λ σ. literal (rounds t gates σ) g.left) (λ σ. literal (rounds t gates σ) g.right) (literal_depends (rounds t gates) g.left d) (literal_depends (rounds t gates) g.right d)

-- all literals of a list at once
literals_depend : (ρ : Assignment → Assignment) (ls : List Lit) → ((v : ℕ) → Depends (λ σ. variable (ρ σ) v)) →
    (n : ℕ) × ((σ τ : Assignment) → AgreeOnVariables n σ τ → AllByRecursion (λ l. literal (ρ τ) l ≡ literal (ρ σ) l) ls)
literals_depend ρ [] d = (0, λ σ τ agree. tt)
literals_depend ρ (l ∷ ls) d =
    let first = literal_depends ρ l d in
    let rest = literals_depend ρ ls d in
    (first.0 + rest.0, λ σ τ agree. (sym (first.1 σ τ (λ v low. agree v (omega arith))), rest.1 σ τ (λ v low. agree v (omega arith))))

claim_depends : (ρ : Assignment → Assignment) (m : ℕ) (s : Sides) (k : ℕ) → ((v : ℕ) → Depends (λ σ. variable (ρ σ) v)) → Depends (λ σ. column_claim m s k (ρ σ))
claim_depends ρ m s k d =
    let all = literals_depend ρ (operand_literals s) d in
    (all.0, λ σ τ agree. sym ((claims_are_of_operands m s (ρ σ) (ρ τ) (All-from_recursion (λ l. literal (ρ τ) l ≡ literal (ρ σ) l) (operand_literals s) (all.1 σ τ agree))).1 k))

columns_depend : (ρ : Assignment → Assignment) (m : ℕ) (s : Sides) (added : List ℕ) (k : ℕ) (os : List Lit) → ((v : ℕ) → Depends (λ σ. variable (ρ σ) v)) → Depends (λ σ. columns_sum m s added k os (ρ σ))
columns_depend ρ m s added k [] d = (0, λ σ τ agree. refl)
columns_depend ρ m s added k (o ∷ os) d =
    depends_two (λ x y. cond (has added k) x 0 + y) (λ σ. column_of m s k o (ρ σ)) (λ σ. columns_sum m s added (suc k) os (ρ σ))
    (depends_two (λ x y. 2 ^ k * difference m (bit x) y) (λ σ. literal (ρ σ) o) (λ σ. column_claim m s k (ρ σ)) (literal_depends ρ o d) (claim_depends ρ m s k d))
    (columns_depend ρ m s added (suc k) os d)

pub frontier_has_size : FrontierHasSize
frontier_has_size e s added eliminated =
    let m = modulus e in
    let gates = gates_among eliminated e.gates in
    let sum = λ (σ : Assignment). columns_sum m s added 0 (new_outputs e) (evaluation gates σ) in
    let depends = columns_depend (evaluation gates) m s added 0 (new_outputs e) (rounds_depend (length gates) gates) in
    let found = function_has_polynomial m depends.0 sum (modulus_pos e) depends.1 in
    let normal = normal_form_exists m found.0 (modulus_pos e) in
    (length normal.0, (normal.0, normal.1, (λ σ. normal.2 σ ∙ found.1 σ), refl))
