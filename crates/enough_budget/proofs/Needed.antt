-- Sums of the added columns, in which the adders that are eliminated as a whole are computed: they are sums of literals
-- that are needed and were not eliminated.
use Rattle.std.specs.declared.option.Option.{Option}
use Rattle.std.specs.declared.option.Option.TheVariants.{None, Some}
use Rattle.std.specs.Prelude.{◌≡◌, ℕ, suc, ◌+◌, ◌*◌, ◌/◌, ◌^◌, ◌<◌, ◌≤◌, ◌⊎◌, true, false, cond, ◌&&◌, List, [], ◌∷◌, length, ◌==◌}
use Rattle.std.specs.List.{AllByRecursion}
use Rattle.std.proofs.Common.{refl, sym, ap, ap₂, ◌∙◌, arith, inl, inr, ⊎_elim, eq-eqb, eqb-true, ne_eqb, true≢false, pow-suc}
use Rattle.std.proofs.lemmas.Bool.{cases_lt}
use Rattle.graph_core.specs.declared.literal.Lit.{Lit}
use Rattle.graph_core.specs.declared.gate.Gate.{Gate}
use Rattle.graph_core.specs.Graph.Assignments.{Assignment, variable, literal, bit}
use Rattle.graph_core.specs.Graph.Literals.{variable_of, plain, inverted, constant_false}
use Rattle.graph_core.proofs.OfGraphs.CallerLemmas.{all_split, literal-even, by_cases}
use Rattle.frontier_core.specs.Sets.{has}
use Rattle.graph_maker.proofs.CellFacts.{Computes, half_adds, position_adds}
use Rattle.enough_budget.proofs.Network.{Cell, gates_at, size_of, sum_at, carry_at, adder_gates, Valuation, IsZero, ins, outs, all_ins, all_outs, full, fulls, word_at, rows_at}

-- 1 at one literal
abbrev pub at_literal : Lit → Valuation
at_literal l k m = cond (m.0 == l.0) 1 0

pub at_itself : (l : Lit) (k : ℕ) → at_literal l k l ≡ 1
at_itself l k = ap (λ b. cond b 1 0) (eq-eqb l.0 l.0 refl)

-- what the eliminated adders take and give, and what the others do
module _ (E : List ℕ) where
  abbrev pub ins_in : Valuation → ℕ → List Cell → ℕ
  ins_in φ v [] = 0
  ins_in φ v (a ∷ cells) = cond (has E (v + 1)) (ins φ a.column a.x a.y a.c) 0 + ins_in φ (v + size_of a.c) cells

  abbrev pub ins_out : Valuation → ℕ → List Cell → ℕ
  ins_out φ v [] = 0
  ins_out φ v (a ∷ cells) = cond (has E (v + 1)) 0 (ins φ a.column a.x a.y a.c) + ins_out φ (v + size_of a.c) cells

  abbrev pub outs_in : Valuation → ℕ → List Cell → ℕ
  outs_in φ v [] = 0
  outs_in φ v (a ∷ cells) = cond (has E (v + 1)) (outs φ a.column v a.c) 0 + outs_in φ (v + size_of a.c) cells

  abbrev pub outs_out : Valuation → ℕ → List Cell → ℕ
  outs_out φ v [] = 0
  outs_out φ v (a ∷ cells) = cond (has E (v + 1)) 0 (outs φ a.column v a.c) + outs_out φ (v + size_of a.c) cells

  ins_split : (φ : Valuation) (v : ℕ) (cells : List Cell) → all_ins φ cells ≡ ins_in φ v cells + ins_out φ v cells
  ins_split φ v [] = refl
  ins_split φ v (a ∷ cells) =
      let rest = ins_split φ (v + size_of a.c) cells in
      let here : ins φ a.column a.x a.y a.c ≡ cond (has E (v + 1)) (ins φ a.column a.x a.y a.c) 0 + cond (has E (v + 1)) 0 (ins φ a.column a.x a.y a.c) =
      by_cases (λ t. ins φ a.column a.x a.y a.c ≡ cond t (ins φ a.column a.x a.y a.c) 0 + cond t 0 (ins φ a.column a.x a.y a.c)) (has E (v + 1)) (λ t. omega arith) (λ t. omega arith) in
      omega (arith, rest, here)

  outs_split : (φ : Valuation) (v : ℕ) (cells : List Cell) → all_outs φ v cells ≡ outs_in φ v cells + outs_out φ v cells
  outs_split φ v [] = refl
  outs_split φ v (a ∷ cells) =
      let rest = outs_split φ (v + size_of a.c) cells in
      let here : outs φ a.column v a.c ≡ cond (has E (v + 1)) (outs φ a.column v a.c) 0 + cond (has E (v + 1)) 0 (outs φ a.column v a.c) =
      by_cases (λ t. outs φ a.column v a.c ≡ cond t (outs φ a.column v a.c) 0 + cond t 0 (outs φ a.column v a.c)) (has E (v + 1)) (λ t. omega arith) (λ t. omega arith) in
      omega (arith, rest, here)

-- the literals of the added columns, and of the others
module _ (K : List ℕ) where
  abbrev pub chosen : Valuation → ℕ → List Lit → ℕ
  chosen φ k [] = 0
  chosen φ k (l ∷ ls) = cond (has K k) (φ k l) 0 + chosen φ (suc k) ls

  abbrev pub others : Valuation → ℕ → List Lit → ℕ
  others φ k [] = 0
  others φ k (l ∷ ls) = cond (has K k) 0 (φ k l) + others φ (suc k) ls

  word_split : (φ : Valuation) (k : ℕ) (ls : List Lit) → word_at φ k ls ≡ chosen φ k ls + others φ k ls
  word_split φ k [] = refl
  word_split φ k (l ∷ ls) =
      let rest = word_split φ (suc k) ls in
      let here : φ k l ≡ cond (has K k) (φ k l) 0 + cond (has K k) 0 (φ k l) = by_cases (λ t. φ k l ≡ cond t (φ k l) 0 + cond t 0 (φ k l)) (has K k) (λ t. omega arith) (λ t. omega arith) in
      omega (arith, rest, here)

-- ---- adders as a whole

-- each adder is eliminated with its first gate, or not at all
abbrev pub AreWhole : List ℕ → ℕ → List Cell → Type 0
AreWhole E v [] = Unit {0}
AreWhole E v (a ∷ cells) = AllByRecursion (λ g. has E g.v ≡ has E (v + 1)) (gates_at v a.x a.y a.c) × AreWhole E (v + size_of a.c) cells

abbrev pub IsReader : List ℕ → Gate → Type 0
IsReader E g = (has E (variable_of g.left) ≡ true) ⊎ (has E (variable_of g.right) ≡ true) → has E g.v ≡ true

-- each column whose output was eliminated was added
abbrev pub AreAdded : List ℕ → List ℕ → ℕ → List Lit → Type 0
AreAdded E K k [] = Unit {0}
AreAdded E K k (l ∷ ls) = (has E (variable_of l) ≡ true → has K k ≡ true) × AreAdded E K (suc k) ls

-- what an adder takes has been eliminated only if the adder was
reads_x : (E : List ℕ) (v : ℕ) (x y : Lit) (c : Option Lit) → AllByRecursion (IsReader E) (gates_at v x y c) → has E (variable_of x) ≡ true → has E (v + 1) ≡ true
reads_x E v x y None h t = h.0 (inl t)
reads_x E v x y (Some c) h t = h.0 (inl t)

reads_y : (E : List ℕ) (v : ℕ) (x y : Lit) (c : Option Lit) → AllByRecursion (IsReader E) (gates_at v x y c) → has E (variable_of y) ≡ true → has E (v + 1) ≡ true
reads_y E v x y None h t = h.0 (inr t)
reads_y E v x y (Some c) h t = h.0 (inr t)

reads_c : (E : List ℕ) (v : ℕ) (x y c : Lit) → AllByRecursion (IsReader E) (gates_at v x y (Some c)) → AllByRecursion (λ g. has E g.v ≡ has E (v + 1)) (gates_at v x y (Some c)) →
    has E (variable_of c) ≡ true → has E (v + 1) ≡ true
reads_c E v x y c h w t = sym w.1.1.1.0 ∙ h.1.1.1.0 (inr t)

pub sum_whole : (E : List ℕ) (v : ℕ) (x y : Lit) (c : Option Lit) → AllByRecursion (λ g. has E g.v ≡ has E (v + 1)) (gates_at v x y c) → has E (variable_of (sum_at v c)) ≡ has E (v + 1)
sum_whole E v x y None w = ap (has E) (omega arith) ∙ w.1.1.0
sum_whole E v x y (Some c) w = ap (has E) (omega arith) ∙ w.1.1.1.1.1.0

pub carry_whole : (E : List ℕ) (v : ℕ) (x y : Lit) (c : Option Lit) → AllByRecursion (λ g. has E g.v ≡ has E (v + 1)) (gates_at v x y c) → has E (variable_of (carry_at v c)) ≡ has E (v + 1)
carry_whole E v x y None w = ap (has E) (omega arith) ∙ w.0
carry_whole E v x y (Some c) w = ap (has E) (omega arith) ∙ w.1.1.1.1.1.1.0

sum_positive : (v : ℕ) (c : Option Lit) → 0 < (sum_at v c).0
sum_positive v None = omega arith
sum_positive v (Some c) = omega arith

carry_positive : (v : ℕ) (c : Option Lit) → 0 < (carry_at v c).0
carry_positive v None = omega arith
carry_positive v (Some c) = omega arith

-- the other literal is another one
at_other : (E : List ℕ) (l m : Lit) (k : ℕ) → has E (variable_of l) ≡ true → (has E (variable_of m) ≡ true → ⊥) → at_literal l k m ≡ 0
at_other E l m k t h = by_cases (λ b. ◌≡◌ {A = ℕ} (cond b 1 0) 0) (m.0 == l.0) (λ s. absurd (h (ap (λ n. has E (n / 2)) (eqb-true m.0 l.0 s) ∙ t))) (λ s. refl)

module _ (E K : List ℕ) (base : ℕ) (cells : List Cell) (rows : List (List Lit)) (outputs : List Lit)
    (conserve : (φ : Valuation) → IsZero φ → word_at φ 0 outputs + all_ins φ cells ≡ rows_at φ 0 rows + all_outs φ base cells)
    (once : (l : Lit) → 0 < l.0 → rows_at (at_literal l) 0 rows + all_outs (at_literal l) base cells ≤ 1)
    (whole : AreWhole E base cells) (readers : AllByRecursion (IsReader E) (adder_gates base cells)) (added : AreAdded E K 0 outputs) where
  -- how often a literal is needed: taken by an eliminated adder, or an output of an added column
  abbrev pub needs : Lit → ℕ
  needs l = chosen K (at_literal l) 0 outputs + ins_in E (at_literal l) base cells

  abbrev spares : Lit → ℕ
  spares l = others K (at_literal l) 0 outputs + ins_out E (at_literal l) base cells

  abbrev makes : Lit → ℕ
  makes l = rows_at (at_literal l) 0 rows + all_outs (at_literal l) base cells

  abbrev pub needed : Lit → ℕ
  needed l = cond (l.0 == 0) 0 (needs l)

  balance : (l : Lit) → 0 < l.0 → needs l + spares l ≡ makes l
  balance l p =
      let zero_is : IsZero (at_literal l) = λ k. ap (λ b. cond b 1 0) (ne_eqb 0 l.0 (λ e. omega arith)) in
      omega (arith, conserve (at_literal l) zero_is, word_split K (at_literal l) 0 outputs, ins_split E (at_literal l) base cells)

  needed_is : (l : Lit) → 0 < l.0 → needed l ≡ needs l
  needed_is l p = ap (λ b. cond b 0 (needs l)) (ne_eqb l.0 0 (λ e. omega arith))

  is_needed : (l : Lit) → 0 < l.0 → 1 ≤ needs l → needed l ≡ 1
  is_needed l p h = omega (arith, needed_is l p, balance l p, once l p)

  is_spared : (l : Lit) → 1 ≤ spares l → needed l ≡ 0
  is_spared l h = ⊎_elim (λ low. ap (λ b. cond b 0 (needs l)) (eq-eqb l.0 0 (omega arith))) (λ up. omega (arith, needed_is l (omega arith), balance l (omega arith), once l (omega arith))) (cases_lt l.0 1)

  pub needed_few : (l : Lit) → needed l ≤ 1
  needed_few l =
      ⊎_elim (λ low. let z : needed l ≡ 0 = ap (λ b. cond b 0 (needs l)) (eq-eqb l.0 0 (omega arith)) in omega arith)
      (λ up. omega (arith, needed_is l (omega arith), balance l (omega arith), once l (omega arith))) (cases_lt l.0 1)

  -- where a literal is needed, it counts
  abbrev pub times : Valuation → Valuation
  times w k l = needed l * w k l

  abbrev IsNothing : Valuation → Type 0
  IsNothing w = (k : ℕ) (l : Lit) → l.0 ≡ 0 → w k l ≡ 0

  counts : (w : Valuation) → IsNothing w → (k : ℕ) (l : Lit) → (0 < l.0 → 1 ≤ needs l) → needed l * w k l ≡ w k l
  counts w n k l h =
      ⊎_elim (λ low. let z : w k l ≡ 0 = n k l (omega arith) in ap (λ x. needed l * x) z ∙ omega (arith, z))
      (λ up. ap (λ x. x * w k l) (is_needed l (omega arith) (h (omega arith))) ∙ omega arith) (cases_lt l.0 1)

  counts_not : (w : Valuation) (k : ℕ) (l : Lit) → 1 ≤ spares l → needed l * w k l ≡ 0
  counts_not w k l h = ap (λ x. x * w k l) (is_spared l h) ∙ omega arith

  -- the parts of an adder's sum
  has_x : (k : ℕ) (x y : Lit) (c : Option Lit) → 1 ≤ ins (at_literal x) k x y c
  has_x k x y None = omega (arith, at_itself x k)
  has_x k x y (Some c) = omega (arith, at_itself x k)

  has_y : (k : ℕ) (x y : Lit) (c : Option Lit) → 1 ≤ ins (at_literal y) k x y c
  has_y k x y None = omega (arith, at_itself y k)
  has_y k x y (Some c) = omega (arith, at_itself y k)

  has_c : (k : ℕ) (x y c : Lit) → 1 ≤ ins (at_literal c) k x y (Some c)
  has_c k x y c = omega (arith, at_itself c k)

  ins_same : (φ ψ : Valuation) (k : ℕ) (x y : Lit) (c : Option Lit) → ((l : Lit) → 1 ≤ ins (at_literal l) k x y c → φ k l ≡ ψ k l) → ins φ k x y c ≡ ins ψ k x y c
  ins_same φ ψ k x y None h = omega (arith, h x (has_x k x y None), h y (has_y k x y None))
  ins_same φ ψ k x y (Some c) h = omega (arith, h x (has_x k x y (Some c)), h y (has_y k x y (Some c)), h c (has_c k x y c))

  -- ---- what is taken

  taken_in : (w : Valuation) → IsNothing w → (v : ℕ) (rest : List Cell) → ((l : Lit) → ins_in E (at_literal l) v rest ≤ needs l) → ins_in E (times w) v rest ≡ ins_in E w v rest
  taken_in w n v [] h = refl
  taken_in w n v (a ∷ rest) h =
      ap₂ ◌+◌
      (by_cases (λ t. (((l : Lit) → cond t (ins (at_literal l) a.column a.x a.y a.c) 0 ≤ needs l) → cond t (ins (times w) a.column a.x a.y a.c) 0 ≡ cond t (ins w a.column a.x a.y a.c) 0)) (has E (v + 1))
      (λ t g. ins_same (times w) w a.column a.x a.y a.c (λ l one. counts w n a.column l (λ p. omega (arith, g l)))) (λ t g. refl)
      (λ l. omega (arith, h l)))
      (taken_in w n (v + size_of a.c) rest (λ l. omega (arith, h l)))

  taken_out : (w : Valuation) (v : ℕ) (rest : List Cell) → ((l : Lit) → ins_out E (at_literal l) v rest ≤ spares l) → ins_out E (times w) v rest ≡ 0
  taken_out w v [] h = refl
  taken_out w v (a ∷ rest) h =
      let tail = taken_out w (v + size_of a.c) rest (λ l. omega (arith, h l)) in
      let here = by_cases (λ t. (((l : Lit) → cond t 0 (ins (at_literal l) a.column a.x a.y a.c) ≤ spares l) → cond t 0 (ins (times w) a.column a.x a.y a.c) ≡ 0)) (has E (v + 1))
      (λ t g. refl) (λ t g. ins_same (times w) (λ k l. 0) a.column a.x a.y a.c (λ l one. counts_not w a.column l (omega (arith, g l))) ∙ no_ins a.column a.x a.y a.c)
      (λ l. omega (arith, h l)) in
      omega (arith, tail, here)
    where
      no_ins : (k : ℕ) (x y : Lit) (c : Option Lit) → ins (λ k l. 0) k x y c ≡ 0
      no_ins k x y None = refl
      no_ins k x y (Some c) = refl

  -- ---- what is left at the outputs

  outputs_are : (w : Valuation) → IsNothing w → (k : ℕ) (ls : List Lit) → ((l : Lit) → chosen K (at_literal l) k ls ≤ needs l) → ((l : Lit) → others K (at_literal l) k ls ≤ spares l) →
      word_at (times w) k ls ≡ chosen K w k ls
  outputs_are w n k [] h g = refl
  outputs_are w n k (l ∷ ls) h g =
      ap₂ ◌+◌
      (by_cases (λ t. (cond t (at_literal l k l) 0 ≤ needs l) → (cond t 0 (at_literal l k l) ≤ spares l) → times w k l ≡ cond t (w k l) 0) (has K k)
      (λ t p q. counts w n k l (λ z. omega (arith, at_itself l k))) (λ t p q. counts_not w k l (omega (arith, at_itself l k)))
      (omega (arith, h l)) (omega (arith, g l)))
      (outputs_are w n (suc k) ls (λ m. omega (arith, h m)) (λ m. omega (arith, g m)))

  -- ---- what is given

  -- an eliminated literal is never spared
  unread : (l : Lit) → has E (variable_of l) ≡ true → (v : ℕ) (rest : List Cell) → AreWhole E v rest → AllByRecursion (IsReader E) (adder_gates v rest) → ins_out E (at_literal l) v rest ≡ 0
  unread l t v [] w r = refl
  unread l t v (a ∷ rest) w r =
      let parts = all_split (IsReader E) (gates_at v a.x a.y a.c) (adder_gates (v + size_of a.c) rest) r in
      let tail = unread l t (v + size_of a.c) rest w.1 parts.1 in
      let here = by_cases (λ b. has E (v + 1) ≡ b → cond b 0 (ins (at_literal l) a.column a.x a.y a.c) ≡ 0) (has E (v + 1)) (λ s q. refl)
      (λ s q. none_here a.column a.x a.y a.c parts.0 w.0 q) refl in
      omega (arith, tail, here)
    where
      none_here : (k : ℕ) (x y : Lit) (c : Option Lit) → AllByRecursion (IsReader E) (gates_at v x y c) → AllByRecursion (λ g. has E g.v ≡ has E (v + 1)) (gates_at v x y c) → has E (v + 1) ≡ false →
          ins (at_literal l) k x y c ≡ 0
      none_here k x y None h u f =
          omega (arith, at_other E l x k t (λ s. true≢false (sym (reads_x E v x y None h s) ∙ f)), at_other E l y k t (λ s. true≢false (sym (reads_y E v x y None h s) ∙ f)))
      none_here k x y (Some c) h u f =
          omega (
            arith,
            at_other E l x k t (λ s. true≢false (sym (reads_x E v x y (Some c) h s) ∙ f)),
            at_other E l y k t (λ s. true≢false (sym (reads_y E v x y (Some c) h s) ∙ f)),
            at_other E l c k t (λ s. true≢false (sym (reads_c E v x y c h u s) ∙ f)),
          )

  no_outputs : (l : Lit) → has E (variable_of l) ≡ true → (k : ℕ) (ls : List Lit) → AreAdded E K k ls → others K (at_literal l) k ls ≡ 0
  no_outputs l t k [] h = refl
  no_outputs l t k (m ∷ ls) h =
      let tail = no_outputs l t (suc k) ls h.1 in
      let here = by_cases (λ b. has K k ≡ b → cond b 0 (at_literal l k m) ≡ 0) (has K k) (λ s q. refl) (λ s q. at_other E l m k t (λ u. true≢false (sym (h.0 u) ∙ q))) refl in
      omega (arith, tail, here)

  given_counts : (l : Lit) → 0 < l.0 → has E (variable_of l) ≡ true → 1 ≤ makes l → needed l ≡ 1
  given_counts l p t h = is_needed l p (omega (arith, balance l p, no_outputs l t 0 outputs added, unread l t base cells whole readers))

  given_in : (w : Valuation) (v : ℕ) (rest : List Cell) → AreWhole E v rest → ((l : Lit) → all_outs (at_literal l) v rest ≤ makes l) → outs_in E (times w) v rest ≡ outs_in E w v rest
  given_in w v [] u h = refl
  given_in w v (a ∷ rest) u h =
      let s = sum_at v a.c in
      let r = carry_at v a.c in
      let k = a.column in
      let sum_in = sum_whole E v a.x a.y a.c u.0 in
      let carry_in = carry_whole E v a.x a.y a.c u.0 in
      ap₂ ◌+◌
      (by_cases (λ b. has E (v + 1) ≡ b → cond b (outs (times w) k v a.c) 0 ≡ cond b (outs w k v a.c) 0) (has E (v + 1))
      (λ z q.
      let one : needed s ≡ 1 = given_counts s (sum_positive v a.c) (sum_in ∙ q) (omega (arith, h s, at_itself s k)) in
      let two : needed r ≡ 1 = given_counts r (carry_positive v a.c) (carry_in ∙ q) (omega (arith, h r, at_itself r (suc k))) in
      ap₂ ◌+◌ (ap (λ x. x * w k s) one ∙ omega arith) (ap (λ x. x * w (suc k) r) two ∙ omega arith))
      (λ z q. refl) refl)
      (given_in w (v + size_of a.c) rest u.1 (λ l. omega (arith, h l)))

  -- ---- the sum

  module _ (τ : Assignment) (computed : AllByRecursion (λ g. has E g.v ≡ true → variable τ g.v ≡ (literal τ g.left && literal τ g.right)) (adder_gates base cells)) where
    abbrev pub weight : Valuation
    weight k l = 2 ^ k * bit (literal τ l)

    nothing : IsNothing weight
    nothing k l e = ap (λ b. 2 ^ k * bit b) (false_at l e) ∙ omega arith
      where
        false_at : (l : Lit) → l.0 ≡ 0 → literal τ l ≡ false
        false_at l e = literal-even τ l 0 (omega arith)

    adds : (k v : ℕ) (x y : Lit) (c : Option Lit) → AllByRecursion (λ g. has E g.v ≡ true → variable τ g.v ≡ (literal τ g.left && literal τ g.right)) (gates_at v x y c) →
        AllByRecursion (λ g. has E g.v ≡ has E (v + 1)) (gates_at v x y c) → has E (v + 1) ≡ true → ins weight k x y c ≡ outs weight k v c
    adds k v x y None h u t =
        let is = half_adds τ v x y (all_here (gates_at v x y None) h u) in
        let e = ap (λ z. 2 ^ k * z) is in
        let p = ap (λ z. z * bit (literal τ (plain (v + 1)))) (pow-suc 2 k) in
        omega (arith, e, p)
      where
        all_here : (gs : List Gate) → AllByRecursion (λ g. has E g.v ≡ true → variable τ g.v ≡ (literal τ g.left && literal τ g.right)) gs → AllByRecursion (λ g. has E g.v ≡ has E (v + 1)) gs → Computes τ gs
        all_here [] h u = tt
        all_here (g ∷ gs) h u = (h.0 (u.0 ∙ t), all_here gs h.1 u.1)
    adds k v x y (Some c) h u t =
        let is = position_adds τ v x y c (all_here (gates_at v x y (Some c)) h u) in
        let e = ap (λ z. 2 ^ k * z) is in
        let p = ap (λ z. z * bit (literal τ (inverted (v + 7)))) (pow-suc 2 k) in
        omega (arith, e, p)
      where
        all_here : (gs : List Gate) → AllByRecursion (λ g. has E g.v ≡ true → variable τ g.v ≡ (literal τ g.left && literal τ g.right)) gs → AllByRecursion (λ g. has E g.v ≡ has E (v + 1)) gs → Computes τ gs
        all_here [] h u = tt
        all_here (g ∷ gs) h u = (h.0 (u.0 ∙ t), all_here gs h.1 u.1)

    all_add : (v : ℕ) (rest : List Cell) → AllByRecursion (λ g. has E g.v ≡ true → variable τ g.v ≡ (literal τ g.left && literal τ g.right)) (adder_gates v rest) → AreWhole E v rest →
        ins_in E weight v rest ≡ outs_in E weight v rest
    all_add v [] h u = refl
    all_add v (a ∷ rest) h u =
        let parts = all_split (λ g. has E g.v ≡ true → variable τ g.v ≡ (literal τ g.left && literal τ g.right)) (gates_at v a.x a.y a.c) (adder_gates (v + size_of a.c) rest) h in
        ap₂ ◌+◌
        (by_cases (λ b. has E (v + 1) ≡ b → cond b (ins weight a.column a.x a.y a.c) 0 ≡ cond b (outs weight a.column v a.c) 0) (has E (v + 1)) (λ z q. adds a.column v a.x a.y a.c parts.0 u.0 q) (λ z q. refl) refl)
        (all_add (v + size_of a.c) rest parts.1 u.1)

    -- the added columns' outputs are the sum of what is needed of the products and of the other adders' literals
    pub columns_are : chosen K weight 0 outputs ≡ rows_at (times weight) 0 rows + outs_out E (times weight) base cells
    columns_are =
        let z : IsZero (times weight) = λ k. ap (λ x. needed constant_false * x) (nothing k constant_false refl) ∙ omega arith in
        let out = outputs_are weight nothing 0 outputs (λ l. omega arith) (λ l. omega arith) in
        let one = taken_in weight nothing base cells (λ l. omega arith) in
        let two = taken_out weight base cells (λ l. omega arith) in
        let three = given_in weight base cells whole (λ l. omega arith) in
        omega (arith, conserve (times weight) z, ins_split E (times weight) base cells, outs_split E (times weight) base cells, out, one, two, three, all_add base cells computed whole)

  -- ---- the count

  abbrev pub one_each : Valuation
  one_each k l = 1

  few_taken : (v : ℕ) (rest : List Cell) → ins_in E (times one_each) v rest ≤ outs_in E one_each v rest + fulls rest
  few_taken v [] = omega arith
  few_taken v (a ∷ rest) =
      let tail = few_taken (v + size_of a.c) rest in
      let here = by_cases (λ t. cond t (ins (times one_each) a.column a.x a.y a.c) 0 ≤ cond t (outs one_each a.column v a.c) 0 + full a.c) (has E (v + 1)) (λ t. at_most a.column a.x a.y a.c) (λ t. omega arith) in
      omega (arith, tail, here)
    where
      at_most : (k : ℕ) (x y : Lit) (c : Option Lit) → ins (times one_each) k x y c ≤ outs one_each k v c + full c
      at_most k x y None = omega (arith, needed_few x, needed_few y)
      at_most k x y (Some c) = omega (arith, needed_few x, needed_few y, needed_few c)

  few_outputs : (k : ℕ) (ls : List Lit) → word_at (times one_each) k ls ≤ length ls
  few_outputs k [] = omega arith
  few_outputs k (l ∷ ls) = omega (arith, few_outputs (suc k) ls, needed_few l)

  pub few_needed : rows_at (times one_each) 0 rows + outs_out E (times one_each) base cells ≤ length outputs + fulls cells
  few_needed =
      let z : IsZero (times one_each) = λ k. refl in
      let two = taken_out one_each base cells (λ l. omega arith) in
      let three = given_in one_each base cells whole (λ l. omega arith) in
      omega (arith, conserve (times one_each) z, ins_split E (times one_each) base cells, outs_split E (times one_each) base cells, few_taken base cells, few_outputs 0 outputs, two, three)
