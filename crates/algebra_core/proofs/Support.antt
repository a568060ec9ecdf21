-- Values that depend on finitely many variables: two of them agree everywhere, or some assignment tells them apart.
use Rattle.std.specs.Prelude.{◌≡◌, ◌≢◌, ℕ, zero, suc, ◌+◌, ◌*◌, ◌-◌, ◌%◌, ◌≤◌, ◌⊎◌, Bool, true, false, not, cond, List, [], ◌∷◌, ◌++◌, map, ◌==◌}
use Rattle.std.specs.declared.option.Option.TheVariants.{Some}
use Rattle.std.specs.List.{AllByRecursion, filter}
use Rattle.std.proofs.Common.{refl, sym, ap, ap₂, ◌∙◌, arith, inl, inr, ⊎_elim, eq-eqb, eqb-true}
use Rattle.graph_core.specs.declared.literal.Lit.{Lit}
use Rattle.graph_core.specs.declared.gate.Gate.{Gate}
use Rattle.graph_core.specs.Graph.Literals.{variable_of}
use Rattle.graph_core.specs.Graph.Assignments.{Assignment, AgreeUpTo, HasBound, variable, literal, bit, word}
use Rattle.graph_core.specs.declared.sign.Sign.{Sign}
use Rattle.graph_core.specs.declared.sign.Sign.TheVariants.{Unsigned, Signed}
use Rattle.graph_core.specs.Graph.Operands.{Sides, claimed, signed_word, operand_word, plus_word}
use Rattle.algebra_core.specs.Polynomials.{Term, Polynomial, product, term_value, sum_of, value, difference}
use Rattle.graph_core.specs.Graph.Extended.{Extended, Column, modulus}
use Rattle.algebra_core.specs.AlgebraLines.{LiveLine, Part, Line, Sum, Product, Combination, Import, Delete, Ledger, Premises, value_of, value_or_zero, line_of, combined, named, import_of, import_or_zero, after, beginning, axioms, gate_axiom, column_axiom, specification}
use Rattle.graph_core.proofs.OfGraphs.CallerLemmas.{decided_eq}

-- ---- search

set_at : ℕ → Bool → Assignment → Assignment
set_at j b base v = cond (v == j) b (base v)

set_at_same : (j : ℕ) (b : Bool) (base : Assignment) → set_at j b base j ≡ b
unfolding set_at
set_at_same j b base = ap (λ c. cond c b (base j)) (eq-eqb j j refl)

set_at_other : (j : ℕ) (b : Bool) (base : Assignment) (v : ℕ) → v ≢ j → set_at j b base v ≡ base v
unfolding set_at
set_at_other j b base v h = go (v == j) refl
  where
    go : (c : Bool) → (v == j) ≡ c → cond c b (base v) ≡ base v
    go true e = absurd (h (eqb-true v j e))
    go false e = refl

module _ (n : ℕ) (P N : Assignment → Type 0) (d : (σ : Assignment) → P σ ⊎ N σ) (respects : (σ τ : Assignment) → AgreeUpTo n σ τ → P σ → P τ) where
  -- every assignment that agrees with the base from k on, or some assignment
  abbrev From : ℕ → Assignment → Type 0
  From k base = ((σ : Assignment) → ((v : ℕ) → k ≤ v → v ≤ n → base v ≡ σ v) → P σ) ⊎ ((σ : Assignment) × N σ)

  from : (k : ℕ) (base : Assignment) → From k base
  from zero base = ⊎_elim (λ p. inl (λ σ h. respects base σ (λ v l. h v (omega arith) l) p)) (λ m. inr (base, m)) (d base)
  from (suc j) base = ⊎_elim (λ t. ⊎_elim (λ f. inl (both t f)) inr (from j (set_at j false base))) inr (from j (set_at j true base))
    where
      keeps : (b : Bool) (σ : Assignment) → σ j ≡ b → ((v : ℕ) → suc j ≤ v → v ≤ n → base v ≡ σ v) → (v : ℕ) → j ≤ v → v ≤ n → set_at j b base v ≡ σ v
      keeps b σ e h v low high = ⊎_elim here there (decided_eq v j)
        where
          here : v ≡ j → set_at j b base v ≡ σ v
          here s = ap (set_at j b base) s ∙ set_at_same j b base ∙ sym e ∙ ap σ (sym s)

          there : (v ≡ j → ⊥) → set_at j b base v ≡ σ v
          there s = set_at_other j b base v s ∙ h v (omega (arith, s)) high

      both : ((σ : Assignment) → ((v : ℕ) → j ≤ v → v ≤ n → set_at j true base v ≡ σ v) → P σ) → ((σ : Assignment) → ((v : ℕ) → j ≤ v → v ≤ n → set_at j false base v ≡ σ v) → P σ) →
          (σ : Assignment) → ((v : ℕ) → suc j ≤ v → v ≤ n → base v ≡ σ v) → P σ
      both t f σ h = go (σ j) refl
        where
          go : (b : Bool) → σ j ≡ b → P σ
          go true e = t σ (keeps true σ e h)
          go false e = f σ (keeps false σ e h)

  pub every_or_some : ((σ : Assignment) → P σ) ⊎ ((σ : Assignment) × N σ)
  every_or_some = ⊎_elim (λ all. inl (λ σ. all σ (λ v l h. absurd (omega arith)))) inr (from (suc n) (λ v. false))

-- ---- bounds

wider : {A : Type 0} (f : Assignment → A) (b : HasBound f) (n : ℕ) → b.0 ≤ n → (σ τ : Assignment) → AgreeUpTo n σ τ → f σ ≡ f τ
wider f b n h σ τ agree = b.1 σ τ (λ v l. agree v (omega arith))

pub bound_of : {A B : Type 0} (h : A → B) (f : Assignment → A) → HasBound f → HasBound (λ σ. h (f σ))
bound_of h f b = (b.0, λ σ τ agree. ap h (b.1 σ τ agree))

pub bound_of_two : {A B C : Type 0} (h : A → B → C) (f : Assignment → A) (g : Assignment → B) → HasBound f → HasBound g → HasBound (λ σ. h (f σ) (g σ))
bound_of_two h f g b c = (b.0 + c.0, λ σ τ agree. ap₂ h (wider f b (b.0 + c.0) (omega arith) σ τ agree) (wider g c (b.0 + c.0) (omega arith) σ τ agree))

pub bound_constant : {A : Type 0} (x : A) → HasBound (λ σ. x)
bound_constant x = (0, λ σ τ agree. refl)

pub bound_variable : (v : ℕ) → HasBound (λ σ. variable σ v)
bound_variable zero = bound_constant false
bound_variable (suc v) = (suc v, λ σ τ agree. agree (suc v) (omega arith))

pub bound_literal : (l : Lit) → HasBound (λ σ. literal σ l)
bound_literal l = bound_of (λ b. cond (l.0 % 2 == 0) b (not b)) (λ σ. variable σ (variable_of l)) (bound_variable (variable_of l))

pub bound_word : (ls : List Lit) → HasBound (λ σ. word σ ls)
bound_word [] = bound_constant 0
bound_word (l ∷ ls) = bound_of_two (λ b w. bit b + 2 * w) (λ σ. literal σ l) (λ σ. word σ ls) (bound_literal l) (bound_word ls)

bound_product : (vs : List ℕ) → HasBound (λ σ. product σ vs)
bound_product [] = bound_constant 1
bound_product (v ∷ vs) = bound_of_two (λ b p. bit b * p) (λ σ. variable σ v) (λ σ. product σ vs) (bound_variable v) (bound_product vs)

bound_term : (m : ℕ) (t : Term) → HasBound (term_value m t)
bound_term m t = bound_of (λ p. cond t.negative (difference m 0 (t.coefficient * p)) (t.coefficient * p)) (λ σ. product σ t.variables) (bound_product t.variables)

bound_sum : (m : ℕ) (p : Polynomial) → HasBound (sum_of m p)
bound_sum m [] = bound_constant 0
bound_sum m (t ∷ ts) = bound_of_two (λ a b. a + b) (term_value m t) (sum_of m ts) (bound_term m t) (bound_sum m ts)

pub bound_value : (m : ℕ) (p : Polynomial) → HasBound (value m p)
bound_value m p = bound_of (λ s. s % m) (sum_of m p) (bound_sum m p)

-- ---- live lines

abbrev pub AreBounded : List LiveLine → Type 0
AreBounded live = AllByRecursion (λ l. HasBound l.value) live

pub bound_value_of : (live : List LiveLine) (id : ℕ) → AreBounded live → HasBound (value_of live id)
bound_value_of [] id b = bound_constant 0
bound_value_of (l ∷ live) id b = elim (l.id == id) as (λ c. HasBound (value_or_zero (cond c (Some l) (line_of live id)))) [ true ↦ b.0 | false ↦ bound_value_of live id b.1 ]

bound_combined : (m : ℕ) (live : List LiveLine) (parts : List Part) → AreBounded live → HasBound (combined m live parts)
bound_combined m live [] b = bound_constant 0
bound_combined m live (p ∷ ps) b =
    bound_of_two (λ x y. x + y) (λ σ. value_of live p.id σ * value m p.factor σ) (combined m live ps)
    (bound_of_two (λ x y. x * y) (value_of live p.id) (value m p.factor) (bound_value_of live p.id b) (bound_value m p.factor)) (bound_combined m live ps b)

bound_import : (imports : List (Assignment → ℕ)) (number : ℕ) → AllByRecursion HasBound imports → HasBound (import_or_zero (import_of imports number))
bound_import imports zero b = bound_constant 0
bound_import [] (suc i) b = bound_constant 0
bound_import (f ∷ imports) (suc zero) b = b.0
bound_import (f ∷ imports) (suc (suc i)) b = bound_import imports (suc i) b.1

-- every live line, and every value that may be imported
abbrev pub IsBounded : Ledger → Type 0
IsBounded l = AreBounded l.live × AllByRecursion HasBound l.imports

pub bound_named : (m : ℕ) (l : Ledger) (x : Line) → IsBounded l → HasBound (named m l x)
bound_named m l (Sum id i j p) b = bound_of_two (λ x y. x + y) (value_of l.live i) (value_of l.live j) (bound_value_of l.live i b.0) (bound_value_of l.live j b.0)
bound_named m l (Product id i q p) b = bound_of_two (λ x y. x * y) (value_of l.live i) (value m q) (bound_value_of l.live i b.0) (bound_value m q)
bound_named m l (Combination id parts p) b = bound_combined m l.live parts b.0
bound_named m l (Import id number p) b = bound_import l.imports number b.1
bound_named m l (Delete id) b = bound_constant 0

filter-bounded : (p : LiveLine → Bool) (live : List LiveLine) → AreBounded live → AreBounded (filter p live)
filter-bounded p [] b = b
filter-bounded p (l ∷ live) b = elim (p l) as (λ c. AreBounded (cond c (l ∷ filter p live) (filter p live))) [ true ↦ (b.0, filter-bounded p live b.1) | false ↦ filter-bounded p live b.1 ]

pub after-bounded : (m : ℕ) (l : Ledger) (x : Line) → IsBounded l → IsBounded (after m l x)
after-bounded m l (Sum id i j p) b = ((bound_value m p, b.0), b.1)
after-bounded m l (Product id i q p) b = ((bound_value m p, b.0), b.1)
after-bounded m l (Combination id parts p) b = ((bound_value m p, b.0), b.1)
after-bounded m l (Import id number p) b = ((bound_value m p, b.0), b.1)
after-bounded m l (Delete id) b = (filter-bounded (λ x. not (x.id == id)) l.live b.0, b.1)

append-bounded : (xs ys : List LiveLine) → AreBounded xs → AreBounded ys → AreBounded (xs ++ ys)
append-bounded [] ys b c = c
append-bounded (x ∷ xs) ys b c = (b.0, append-bounded xs ys b.1 c)

gates-bounded : (m : ℕ) (gates : List Gate) → AreBounded (map (gate_axiom m) gates)
gates-bounded m [] = tt
gates-bounded m (g ∷ gates) = (
  bound_of_two (λ x y. difference m x (bit y)) (λ σ. bit (literal σ g.left) * bit (literal σ g.right)) (λ σ. variable σ g.v)
      (bound_of_two (λ x y. bit x * bit y) (λ σ. literal σ g.left) (λ σ. literal σ g.right) (bound_literal g.left) (bound_literal g.right)) (bound_variable g.v),
  gates-bounded m gates,
)

columns-bounded : (e : Extended) (cs : List Column) → AreBounded (map (column_axiom e) cs)
columns-bounded e [] = tt
columns-bounded e (c ∷ cs) = (bound_of_two (λ x y. difference (modulus e) (bit x) (bit y)) (λ σ. literal σ c.old) (λ σ. literal σ c.new) (bound_literal c.old) (bound_literal c.new), columns-bounded e cs)

axioms-bounded : (e : Extended) → AreBounded (axioms e).live
axioms-bounded e = append-bounded (map (gate_axiom (modulus e)) e.gates) (map (column_axiom e) e.replaced) (gates-bounded (modulus e) e.gates) (columns-bounded e e.replaced)

pub beginning-bounded : (p : Premises) → AllByRecursion HasBound p.imports → IsBounded (beginning p)
beginning-bounded p b = (axioms-bounded p.extended, b)

bound_signed : (m : ℕ) (ls : List Lit) → HasBound (λ σ. signed_word m σ ls)
bound_signed m [] = bound_constant 0
bound_signed m (l ∷ []) = bound_of_two (λ x y. x * bit y) (λ σ. m - 1) (λ σ. literal σ l) (bound_constant (m - 1)) (bound_literal l)
bound_signed m (l ∷ k ∷ ls) = bound_of_two (λ x y. bit x + 2 * y) (λ σ. literal σ l) (λ σ. signed_word m σ (k ∷ ls)) (bound_literal l) (bound_signed m (k ∷ ls))

bound_operand : (m : ℕ) (sign : Sign) (ls : List Lit) → HasBound (λ σ. operand_word m sign σ ls)
bound_operand m Unsigned ls = bound_word ls
bound_operand m Signed ls = bound_signed m ls

bound_plus : (f : Assignment → ℕ) (ls : List Lit) → HasBound f → HasBound (λ σ. plus_word (f σ) σ ls)
bound_plus f [] b = b
bound_plus f (l ∷ ls) b = bound_of_two (λ x y. x + y) f (λ σ. word σ (l ∷ ls)) b (bound_word (l ∷ ls))

pub bound_claimed : (m : ℕ) (s : Sides) → HasBound (claimed m s)
bound_claimed m s =
    bound_plus (λ σ. operand_word m s.claim.sign σ s.a * operand_word m s.claim.sign σ s.b) s.c
    (bound_of_two (λ x y. x * y) (λ σ. operand_word m s.claim.sign σ s.a) (λ σ. operand_word m s.claim.sign σ s.b) (bound_operand m s.claim.sign s.a) (bound_operand m s.claim.sign s.b))

pub bound_specification : (e : Extended) (s : Sides) → HasBound (specification e s)
bound_specification e s = bound_of_two (difference (modulus e)) (λ σ. word σ e.graph.outputs) (claimed (modulus e) s) (bound_word e.graph.outputs) (bound_claimed (modulus e) s)

-- Two values that depend on finitely many variables agree everywhere, or somewhere they don't.
pub same_or_apart : (f g : Assignment → ℕ) → HasBound f → HasBound g → ((σ : Assignment) → f σ ≡ g σ) ⊎ ((σ : Assignment) × (f σ ≢ g σ))
same_or_apart f g b c =
    every_or_some (b.0 + c.0) (λ σ. f σ ≡ g σ) (λ σ. f σ ≢ g σ) (λ σ. decided_eq (f σ) (g σ))
    (λ σ τ agree e. sym (wider f b (b.0 + c.0) (omega arith) σ τ agree) ∙ e ∙ wider g c (b.0 + c.0) (omega arith) σ τ agree)
