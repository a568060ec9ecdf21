-- A normal form has just the variables with which its value changes.
use Rattle.std.specs.Prelude.{◌≡◌, ◌≢◌, ℕ, ◌+◌, ◌*◌, ◌%◌, ◌<◌, Bool, true, false, cond, ◌||◌, List, [], ◌∷◌, length, ◌==◌}
use Rattle.std.specs.List.{AllByRecursion, list_all}
use Rattle.std.proofs.Common.{refl, sym, ap, subst, ◌∙◌, arith, ⊎_elim, ne_eqb}
use Rattle.std.proofs.Math.Nat.{mod-mod}
use Rattle.std.proofs.lemmas.Bool.{cases_eq}
use Rattle.std.proofs.lemmas.List.Elements.{All-from_recursion, recursion_from_All}
use Rattle.graph_core.specs.Graph.Assignments.{Assignment, variable, bit}
use Rattle.algebra_core.specs.Polynomials.{Term, product, term_value, sum_of, value, difference}
use Rattle.algebra_core.specs.NormalForm.{AreRising, IsNormalTerm, IsNormalForm}
use Rattle.graph_core.proofs.OfGraphs.CallerLemmas.{sum_same, product_same}
use Rattle.algebra_core.proofs.CallerLemmas.{difference_same, rising_from, part_length, part_whole, all_mem, Once, once_from_pairs, normal_forms_differ, normal_form, plain_value}
use Rattle.frontier_core.specs.Sets.{has, without}
use Rattle.frontier_core.specs.Frontier.{set_to}
use Rattle.frontier_core.specs.Substitution.{UnusedVariableIsAbsent}
use Rattle.frontier_core.proofs.Splitting.{splitting_substitutes, variable_is_taken_out, kept_or_not}

-- the terms with a variable, without it, and the terms in which it doesn't occur
abbrev taken : ℕ → Term → Term
taken v t = record { negative = t.negative; coefficient = t.coefficient; variables = without v t.variables }

abbrev with_variable : ℕ → List Term → List Term
with_variable v [] = []
with_variable v (t ∷ p) = cond (has t.variables v) (taken v t ∷ with_variable v p) (with_variable v p)

abbrev without_variable : ℕ → List Term → List Term
without_variable v [] = []
without_variable v (t ∷ p) = cond (has t.variables v) (without_variable v p) (t ∷ without_variable v p)

rising_without : (v b : ℕ) (us : List ℕ) → AreRising b us → AreRising b (without v us)
rising_without v b [] r = tt
rising_without v b (u ∷ us) r =
    let low = r.0 in
    kept_or_not v u us (AreRising b) (λ e. rising_without v b us (rising_from u b us (omega arith) r.1)) (λ n. (r.0, rising_without v u us r.1))

has_without : (v w : ℕ) (us : List ℕ) → w ≢ v → has (without v us) w ≡ has us w
has_without v w [] n = refl
has_without v w (u ∷ us) n =
    kept_or_not v u us (λ xs. has xs w ≡ has (u ∷ us) w)
    (λ e. has_without v w us n ∙ sym (ap (λ b. b || has us w) (ne_eqb u w (λ s. n (sym s ∙ e)))))
    (λ k. ap (λ b. (u == w) || b) (has_without v w us n))

-- rising lists with the variable are one where they are without it
taken_injective : (v : ℕ) (us ws : List ℕ) → AreRising 0 us → AreRising 0 ws → has us v ≡ true → has ws v ≡ true → without v us ≡ without v ws → us ≡ ws
taken_injective v us ws r s h k e =
    let there : list_all (has us) ws ≡ true = all_mem us ws (into ws us h (sym e)) in
    let back : list_all (has ws) us ≡ true = all_mem ws us (into us ws k e) in
    part_whole us ws 0 r s there (part_length ws us 0 s r back)
  where
    into : (xs ys : List ℕ) → has ys v ≡ true → without v xs ≡ without v ys → (w : ℕ) → has xs w ≡ true → has ys w ≡ true
    into xs ys here same w t =
        ⊎_elim (λ q. ap (has ys) q ∙ here) (λ n. sym (has_without v w ys n) ∙ ap (λ zs. has zs w) (sym same) ∙ has_without v w xs n ∙ t) (cases_eq w v)

split_term : (m v : ℕ) (σ : Assignment) (t : Term) (c d : List Term) (b : Bool) → has t.variables v ≡ b → IsNormalTerm m t → (s : ℕ) → s ≡ bit (variable σ v) * sum_of m c σ + sum_of m d σ →
    term_value m t σ + s ≡ bit (variable σ v) * sum_of m (cond b (taken v t ∷ c) c) σ + sum_of m (cond b d (t ∷ d)) σ
split_term m v σ t c d true h n s e =
    let plain = plain_value m t σ n in
    let out = (variable_is_taken_out v t.variables).1 h σ in
    let there : term_value m (taken v t) σ ≡ t.coefficient * product σ (without v t.variables) =
    ap (λ b. cond b (difference m 0 (t.coefficient * product σ (without v t.variables))) (t.coefficient * product σ (without v t.variables))) n.0 in
    let whole : t.coefficient * product σ t.variables ≡ t.coefficient * (bit (variable σ v) * product σ (without v t.variables)) = ap (λ z. t.coefficient * z) out in
    let times : bit (variable σ v) * term_value m (taken v t) σ ≡ bit (variable σ v) * (t.coefficient * product σ (without v t.variables)) = ap (λ z. bit (variable σ v) * z) there in
    omega arith
split_term m v σ t c d false h n s e = omega arith

sum_splits : (m v : ℕ) (σ : Assignment) (p : List Term) → AllByRecursion (IsNormalTerm m) p → sum_of m p σ ≡ bit (variable σ v) * sum_of m (with_variable v p) σ + sum_of m (without_variable v p) σ
sum_splits m v σ [] n = omega arith
sum_splits m v σ (t ∷ p) n = split_term m v σ t (with_variable v p) (without_variable v p) (has t.variables v) refl n.0 (sum_of m p σ) (sum_splits m v σ p n.1)

-- a fact of the terms that are kept
cond_all : {X : Type 0} (P : X → Type 0) (b : Bool) (x : X) (rest : List X) → (b ≡ true → P x) → AllByRecursion P rest → AllByRecursion P (cond b (x ∷ rest) rest)
cond_all P true x rest h k = (h refl, k)
cond_all P false x rest h k = k

cond_all_not : {X : Type 0} (P : X → Type 0) (b : Bool) (x : X) (rest : List X) → (b ≡ false → P x) → AllByRecursion P rest → AllByRecursion P (cond b rest (x ∷ rest))
cond_all_not P true x rest h k = k
cond_all_not P false x rest h k = (h refl, k)

with_free : (v : ℕ) (p : List Term) → AllByRecursion (λ t. has t.variables v ≡ false) (with_variable v p)
with_free v [] = tt
with_free v (t ∷ p) = cond_all (λ s. has s.variables v ≡ false) (has t.variables v) (taken v t) (with_variable v p) (λ e. (variable_is_taken_out v t.variables).0) (with_free v p)

without_free : (v : ℕ) (p : List Term) → AllByRecursion (λ t. has t.variables v ≡ false) (without_variable v p)
without_free v [] = tt
without_free v (t ∷ p) = cond_all_not (λ s. has s.variables v ≡ false) (has t.variables v) t (without_variable v p) (λ e. e) (without_free v p)

with_normal : (m v : ℕ) (p : List Term) → AllByRecursion (IsNormalTerm m) p → AllByRecursion (IsNormalTerm m) (with_variable v p)
with_normal m v [] n = tt
with_normal m v (t ∷ p) n =
    cond_all (IsNormalTerm m) (has t.variables v) (taken v t) (with_variable v p) (λ e. (n.0.0, n.0.1, n.0.2, rising_without v 0 t.variables n.0.3)) (with_normal m v p n.1)

with_apart : (m v : ℕ) (t : Term) (p : List Term) → IsNormalTerm m t → has t.variables v ≡ true → AllByRecursion (IsNormalTerm m) p → AllByRecursion (λ s. t.variables ≢ s.variables) p →
    AllByRecursion (λ s. without v t.variables ≢ s.variables) (with_variable v p)
with_apart m v t [] n h k a = tt
with_apart m v t (s ∷ p) n h k a =
    cond_all (λ u. without v t.variables ≢ u.variables) (has s.variables v) (taken v s) (with_variable v p) (λ e same. a.0 (taken_injective v t.variables s.variables n.3 k.0.3 h e same))
    (with_apart m v t p n h k.1 a.1)

cond_once : (b : Bool) (t : Term) (rest : List Term) → (b ≡ true → AllByRecursion (λ s. t.variables ≢ s.variables) rest) → Once rest → Once (cond b (t ∷ rest) rest)
cond_once true t rest h k = (h refl, k)
cond_once false t rest h k = k

with_once : (m v : ℕ) (p : List Term) → AllByRecursion (IsNormalTerm m) p → Once p → Once (with_variable v p)
with_once m v [] n o = tt
with_once m v (t ∷ p) n o =
    cond_once (has t.variables v) (taken v t) (with_variable v p) (λ e. with_apart m v t p n.0 e n.1 o.0) (with_once m v p n.1 o.1)

none_with : (v : ℕ) (p : List Term) → with_variable v p ≡ [] → AllByRecursion (λ t. has t.variables v ≡ false) p
none_with v [] e = tt
none_with v (t ∷ p) e = go (has t.variables v) refl e (none_with v p)
  where
    go : (b : Bool) → has t.variables v ≡ b → cond b (taken v t ∷ with_variable v p) (with_variable v p) ≡ [] → (with_variable v p ≡ [] → AllByRecursion (λ s. has s.variables v ≡ false) p) → (has t.variables v ≡ false) × AllByRecursion (λ s. has s.variables v ≡ false) p
    go true h f next = absurd (cc)
    go false h f next = (h, next f)

pub unused_variable_is_absent : UnusedVariableIsAbsent
unused_variable_is_absent m v p above normal same =
    All-from_recursion (λ t. has t.variables v ≡ false) p (none_with v p (empty (with_variable v p) refl))
  where
    terms : AllByRecursion (IsNormalTerm m) p
    terms = recursion_from_All (IsNormalTerm m) p normal.terms

    quotient_none : 0 < m → (σ : Assignment) → value m (with_variable v p) σ ≡ 0
    quotient_none h σ =
        sym ((splitting_substitutes m v p (with_variable v p) (without_variable v p) h above
        (All-from_recursion (λ t. has t.variables v ≡ false) (with_variable v p) (with_free v p)) (All-from_recursion (λ t. has t.variables v ≡ false) (without_variable v p) (without_free v p))
        (λ τ. ap (λ z. z % m) (sum_splits m v τ p terms) ∙
        sym (sum_same m (bit (variable τ v) * value m (with_variable v p) τ) (bit (variable τ v) * sum_of m (with_variable v p) τ) (value m (without_variable v p) τ) (sum_of m (without_variable v p) τ)
        (product_same m (bit (variable τ v)) (bit (variable τ v)) (value m (with_variable v p) τ) (sum_of m (with_variable v p) τ) refl (mod-mod (sum_of m (with_variable v p) τ) m)) (mod-mod (sum_of m (without_variable v p) τ) m)))).0 σ) ∙
        ap (λ z. difference m z (value m p (set_to v false σ))) (same σ) ∙ difference_same m (value m p (set_to v false σ)) h

    form : IsNormalForm m (with_variable v p)
    form = normal_form m (with_variable v p) (with_normal m v p terms, with_once m v p terms (once_from_pairs p normal.once))

    empty : (c : List Term) → with_variable v p ≡ c → with_variable v p ≡ []
    empty [] e = e
    empty (t ∷ c) e =
        let first : IsNormalTerm m t = (subst (AllByRecursion (IsNormalTerm m)) e (with_normal m v p terms)).0 in
        let a = first.1 in
        let b = first.2 in
        let some = normal_forms_differ m (with_variable v p) form (subst (λ q. 0 < length q) (sym e) (omega arith)) in
        absurd (some.1 (quotient_none (omega arith) some.0))
