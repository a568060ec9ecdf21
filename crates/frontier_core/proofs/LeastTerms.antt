-- The least term of a polynomial over inputs: the polynomial isn't 0 at its variables, and is 0 before.
use Rattle.std.specs.Prelude.{◌≡◌, ◌≢◌, ℕ, zero, suc, ◌%◌, ◌⊎◌, true, false, ◌&&◌, ◌||◌, List, [], ◌∷◌, ◌++◌, map, length, ◌==◌}
use Rattle.std.specs.List.{All, AllByRecursion, Contains, list_all}
use Rattle.std.proofs.Common.{refl, sym, ap, ap₂, subst, ◌∙◌, arith, inl, inr, ⊎_elim, eqb-true, eq-eqb, true≢false, mod-eq_of_lt}
use Rattle.std.proofs.Math.Nat.{zero-mod}
use Rattle.std.proofs.lemmas.Bool.{cases_Bool, cases_lt, or_cases, or_right, and_parts}
use Rattle.std.proofs.lemmas.List.Elements.{recursion_from_All, All-contains}
use Rattle.graph_core.specs.declared.literal.Lit.{Lit}
use Rattle.graph_core.specs.Graph.Literals.{variable_of}
use Rattle.graph_core.specs.Graph.Assignments.{Assignment, literal}
use Rattle.algebra_core.specs.Polynomials.{Term, Polynomial, term_value, sum_of, value}
use Rattle.algebra_core.specs.NormalForm.{IsNormalTerm, IsNormalForm}
use Rattle.graph_core.proofs.OfGraphs.CallerLemmas.{all_split, IsInput, literal-input}
use Rattle.algebra_core.proofs.CallerLemmas.{part_length, part_whole, all_mem, sum_of-append, Once, once_from_pairs, once_around, term_none, term_full, true_term}
use Rattle.frontier_core.specs.Sets.{has}
use Rattle.frontier_core.specs.LastFrontier.{IsOverInputs}
use Rattle.frontier_core.specs.LeastDifference.{ones_from, IsLexicographicallyBelow, Precedes, ones_of, IsLeastTerm, LeastTermIsLeast}
use Rattle.frontier_core.proofs.Positions.{Implies, implies_fewer, implies_same, lexicographic_irreflexive, precedes_fewer, same_length}

-- inputs at two assignments
implies_inputs : (σ τ : Assignment) (ls : List Lit) → AllByRecursion IsInput ls → ((v : ℕ) → σ v ≡ true → τ v ≡ true) → Implies (map (literal σ) ls) (map (literal τ) ls)
implies_inputs σ τ [] i h = tt
implies_inputs σ τ (l ∷ ls) i h = ((λ e. literal-input τ l i.0 ∙ h (variable_of l) (sym (literal-input σ l i.0) ∙ e)), implies_inputs σ τ ls i.1 h)

same_inputs : (σ τ : Assignment) (ls : List Lit) (v : ℕ) → AllByRecursion IsInput ls → map (literal σ) ls ≡ map (literal τ) ls → has (map variable_of ls) v ≡ true → σ v ≡ τ v
same_inputs σ τ [] v i e h = absurd (true≢false (sym h))
same_inputs σ τ (l ∷ ls) v i e h =
    let first : literal σ l ≡ literal τ l = cc in
    let rest : map (literal σ) ls ≡ map (literal τ) ls = cc in
    ⊎_elim (λ s. subst (λ w. σ w ≡ τ w) (eqb-true (variable_of l) v s) (sym (literal-input σ l i.0) ∙ first ∙ literal-input τ l i.0)) (λ s. same_inputs σ τ ls v i.1 rest s)
    (or_cases (variable_of l == v) (has (map variable_of ls) v) h)

list_all_at : (σ : Assignment) (vs : List ℕ) (v : ℕ) → list_all σ vs ≡ true → has vs v ≡ true → σ v ≡ true
list_all_at σ [] v h e = absurd (true≢false (sym e))
list_all_at σ (w ∷ vs) v h e =
    let parts = and_parts (σ w) (list_all σ vs) h in
    ⊎_elim (λ s. ap σ (sym (eqb-true w v s)) ∙ parts.0) (λ s. list_all_at σ vs v parts.1 s) (or_cases (w == v) (has vs v) e)

pub list_all_from : (σ : Assignment) (vs : List ℕ) → AllByRecursion (λ v. σ v ≡ true) vs → list_all σ vs ≡ true
list_all_from σ [] h = refl
list_all_from σ (v ∷ vs) h = ap₂ ◌&&◌ h.0 (list_all_from σ vs h.1)

-- a list around an element
pub around : (t : Term) (ts : List Term) → Contains ts t → (before after : List Term) × (ts ≡ before ++ t ∷ after)
around t [] c = let low = c.1 in absurd (omega arith)
around t (s ∷ ts) (zero, low, is) = ([], ts, ap (λ x. x ∷ ts) is)
around t (s ∷ ts) (suc k, low, is) = let rest = around t ts (k, omega arith, is) in (s ∷ rest.0, rest.1, ap (λ xs. s ∷ xs) rest.2)

none_sum : (m : ℕ) (σ : Assignment) (ts : List Term) → AllByRecursion (λ s. term_value m s σ ≡ 0) ts → sum_of m ts σ ≡ 0
none_sum m σ [] h = refl
none_sum m σ (t ∷ ts) h = let here = h.0 in omega (arith, none_sum m σ ts h.1)

module _ (m : ℕ) (ls : List Lit) (p : Polynomial) (t : Term) (normal : IsNormalForm m p) (over : IsOverInputs ls p) (inputs : All IsInput ls) (least : IsLeastTerm ls p t) where
  abbrev ones : Term → List ℕ
  ones s = ones_of (has s.variables) ls

  abbrev IsOver : Term → Type 0
  IsOver s = All (λ v. has (map variable_of ls) v ≡ true) s.variables

  abbrev IsAfter : Term → Type 0
  IsAfter s = (ones t ≡ ones s) ⊎ Precedes (ones t) (ones s)

  each_input : AllByRecursion IsInput ls
  each_input = recursion_from_All IsInput ls inputs

  t_normal : IsNormalTerm m t
  t_normal = All-contains (IsNormalTerm m) p t normal.terms least.member

  t_over : IsOver t
  t_over = All-contains IsOver p t over least.member

  -- another term's variables aren't all among the least one's
  other_false : (s : Term) → IsNormalTerm m s → t.variables ≢ s.variables → IsAfter s → list_all (has t.variables) s.variables ≡ false
  other_false s s_normal other after =
      ⊎_elim
      (λ h. absurd
      (let implied = implies_inputs (has s.variables) (has t.variables) ls each_input (λ v e. list_all_at (has t.variables) s.variables v h e) in
      let fewer = implies_fewer 0 (map (literal (has s.variables)) ls) (map (literal (has t.variables)) ls) implied in
      ⊎_elim
      (λ same.
      let bits = implies_same 0 (map (literal (has s.variables)) ls) (map (literal (has t.variables)) ls) implied (same_length (ones t) (ones s) same) in
      let back : list_all (has s.variables) t.variables ≡ true =
      list_all_from (has s.variables) t.variables
      (all_into t.variables (recursion_from_All (λ v. has (map variable_of ls) v ≡ true) t.variables t_over) (λ v k e. same_inputs (has s.variables) (has t.variables) ls v each_input bits k ∙ e) (λ v e. e)) in
      other (part_whole t.variables s.variables 0 t_normal.3 s_normal.3 h (part_length s.variables t.variables 0 s_normal.3 t_normal.3 back)))
      (λ precedes.
      ⊎_elim (λ lt. absurd (omega arith))
      (λ lex.
      let long = lex.0 in
      let bits = implies_same 0 (map (literal (has s.variables)) ls) (map (literal (has t.variables)) ls) implied (omega arith) in
      lexicographic_irreflexive (ones t) (subst (λ xs. IsLexicographicallyBelow (ones t) xs) (ap (ones_from 0) bits) lex.1))
      precedes)
      after))
      (λ f. f) (cases_Bool (list_all (has t.variables) s.variables))
    where
      all_into : (vs : List ℕ) → AllByRecursion (λ v. has (map variable_of ls) v ≡ true) vs →
          ((v : ℕ) → has (map variable_of ls) v ≡ true → has t.variables v ≡ true → has s.variables v ≡ true) → ((v : ℕ) → has vs v ≡ true → has t.variables v ≡ true) →
          AllByRecursion (λ v. has s.variables v ≡ true) vs
      all_into [] k f g = tt
      all_into (v ∷ vs) k f g = (f v k.0 (g v (ap (λ b. b || has vs v) (eq-eqb v v refl))), all_into vs k.1 f (λ w e. g w (or_right (v == w) (has vs w) e)))

  others_none : (ts : List Term) → AllByRecursion (IsNormalTerm m) ts → AllByRecursion (λ s. t.variables ≢ s.variables) ts → AllByRecursion IsAfter ts →
      AllByRecursion (λ s. term_value m s (has t.variables) ≡ 0) ts
  others_none [] n o a = tt
  others_none (s ∷ ts) n o a = (term_none m (has t.variables) s n.0 (other_false s n.0 o.0 a.0), others_none ts n.1 o.1 a.1)

  value_there : value m p (has t.variables) ≡ t.coefficient
  value_there =
      let parts = around t p least.member in
      let σ = has t.variables in
      let terms = all_split (IsNormalTerm m) parts.0 (t ∷ parts.1) (subst (AllByRecursion (IsNormalTerm m)) parts.2 (recursion_from_All (IsNormalTerm m) p normal.terms)) in
      let afters = all_split IsAfter parts.0 (t ∷ parts.1) (subst (AllByRecursion IsAfter) parts.2 (recursion_from_All IsAfter p least.least)) in
      let apart = once_around parts.0 t parts.1 (subst Once parts.2 (once_from_pairs p normal.once)) in
      let front : sum_of m parts.0 σ ≡ 0 = none_sum m σ parts.0 (others_none parts.0 terms.0 apart.0 afters.0) in
      let back : sum_of m parts.1 σ ≡ 0 = none_sum m σ parts.1 (others_none parts.1 terms.1.1 apart.1 afters.1.1) in
      let here : term_value m t σ ≡ t.coefficient = term_full m σ t t_normal (all_mem t.variables t.variables (λ v e. e)) in
      let total : sum_of m p σ ≡ t.coefficient = ap (λ q. sum_of m q σ) parts.2 ∙ sum_of-append m parts.0 (t ∷ parts.1) σ ∙ omega arith in
      ap (λ n. n % m) total ∙ mod-eq_of_lt t_normal.2

  after_it : (σ : Assignment) → value m p σ ≢ 0 → (ones t ≡ ones_of σ ls) ⊎ Precedes (ones t) (ones_of σ ls)
  after_it σ nonzero =
      ⊎_elim
      (λ z. absurd (nonzero (ap (λ n. n % m) z ∙ zero-mod m)))
      (λ found.
      let s = found.0 in
      let implied = implies_inputs (has s.variables) σ ls each_input (λ v e. list_all_at σ s.variables v found.2 e) in
      let fewer = implies_fewer 0 (map (literal (has s.variables)) ls) (map (literal σ) ls) implied in
      let first = precedes_fewer (ones t) (ones s) found.1 in
      ⊎_elim
      (λ lt. inr (inl (omega arith)))
      (λ ge.
      let bits = implies_same 0 (map (literal (has s.variables)) ls) (map (literal σ) ls) implied (omega arith) in
      subst (λ xs. (ones t ≡ xs) ⊎ Precedes (ones t) xs) (ap (ones_from 0) bits) found.1)
      (cases_lt (length (ones s)) (length (ones_of σ ls))))
      (true_term m σ IsAfter p (recursion_from_All (IsNormalTerm m) p normal.terms) (recursion_from_All IsAfter p least.least))

pub least_term_is_least : LeastTermIsLeast
least_term_is_least m ls p t normal over inputs least = (value_there m ls p t normal over inputs least, after_it m ls p t normal over inputs least)
