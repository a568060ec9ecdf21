-- What stands beside a variable in a polynomial, and polynomials that don't have a variable.
use Rattle.std.proofs.Common.{◌≡◌, ℕ, ◌+◌, ◌*◌, ◌%◌, ◌^◌, ◌<◌, ◌==◌, Bool, true, false, not, cond, List, [], ◌∷◌, get_or, map, refl, sym, ap, ap₂, ◌∙◌, arith}
use Rattle.std.proofs.Math.Nat.{add-mod-mod, mod-mod}
use Rattle.std.proofs.lemmas.Nat.{pow_pos}
use Rattle.std.specs.List.{filter}
use Rattle.graph_core.specs.Graph.Assignments.{Assignment}
use Rattle.algebra_core.specs.Polynomials.{difference, product}
use Rattle.algebra_core.proofs.CallerLemmas.{difference_is}
use Rattle.poly_terms.specs.Entries.{Sum, Entry}
use Rattle.poly_terms.specs.Monomials.{Adds, free_of, has_in, places_of, replaced, total_in}
use Rattle.poly_terms.specs.Tables.{ArePlacesOf, Extends, IsOf, Table, assigned, modulus_in, quotient_value, value_in, table_of}
use Rattle.poly_terms.specs.Laws.{value_stays}
use Rattle.poly_terms.proofs.Assigned.{product-other}
use Rattle.poly_terms.proofs.Made.{adds-value}
use Rattle.poly_terms.proofs.Replacing.{free_of-IsOf, total-replaced}
use Rattle.poly_terms.proofs.Values.{value-total}

replaced-none : (ms : List (List ℕ)) (v : ℕ) (σ : Assignment) (es : Sum) → replaced ms v σ 0 es ≡ 0
replaced-none ms v σ [] = refl
replaced-none ms v σ (e ∷ es) = ap₂ ◌+◌ (nothing (has_in ms v e)) (replaced-none ms v σ es)
  where
    nothing : (b : Bool) → cond b (e.1 * product σ (filter (λ u. not (u == v)) (get_or ms e.0 [])) * 0) 0 ≡ 0
    nothing true = omega arith
    nothing false = refl

-- what stands beside the variable is what it adds
total-quotient : (ms : List (List ℕ)) (v : ℕ) (σ : Assignment) (es : Sum) → 0 < v → replaced ms v σ 1 es + total_in ms (assigned σ v false) es ≡ total_in ms (assigned σ v true) es
total-quotient ms v σ es some = omega (arith, total-replaced ms v σ 1 es some, total-replaced ms v σ 0 es some, replaced-none ms v σ es)

-- what was divided has the quotient's value
pub quotient-total : (w v : ℕ) (old new : List (List ℕ)) (t : Table) (p p' raw : Sum) (σ : Assignment) → table_of w old ≡ t → p' ≡ p → 0 < v →
    Adds (2 ^ w) old new [] raw (λ σ. replaced old v σ 1 p') → total_in new σ raw % 2 ^ w ≡ quotient_value t p v σ
quotient-total w v old new t p p' raw σ e f some adds =
    let m = 2 ^ w in
    let p0 = total_in old (assigned σ v false) p' in
    let p1 = total_in old (assigned σ v true) p' in
    let made = replaced old v σ 1 p' in
    let plus : (made + p0 % m) % m ≡ p1 % m % m = add-mod-mod made p0 m ∙ ap (λ n. n % m) (total-quotient old v σ p' some) ∙ sym (mod-mod p1 m) in
    let values : difference m (p1 % m) (p0 % m) ≡ quotient_value (table_of w old) p' v σ =
    sym (ap₂ (difference m) (value-total (table_of w old) p' (assigned σ v true)) (value-total (table_of w old) p' (assigned σ v false))) in
    adds-value m old new (λ σ. replaced old v σ 1 p') raw σ adds ∙ sym (difference_is m (p1 % m) (p0 % m) made (pow_pos w) plus) ∙ values ∙
    ap₂ (λ u x. quotient_value u x v σ) e f

-- what is left has the value where the variable is false
free-total : (ms : List (List ℕ)) (v : ℕ) (σ : Assignment) (es : Sum) → 0 < v → total_in ms σ (free_of ms v es) ≡ total_in ms (assigned σ v false) es
free-total ms v σ es some = omega (arith, total-replaced ms v σ 0 es some, replaced-none ms v σ es)

pub rest-value : (w v : ℕ) (ms : List (List ℕ)) (t new : Table) (p p' kept r : Sum) (σ : Assignment) → table_of w ms ≡ t → p' ≡ p → IsOf t p → kept ≡ free_of ms v p' → r ≡ kept → Extends t new → 0 < v →
    value_in new r σ ≡ value_in t p (assigned σ v false)
rest-value w v ms t new p p' kept r σ e f h is same grown some =
    let free = free_of t.monomials v p in
    let all : r ≡ free = same ∙ is ∙ ap₂ (λ (u : Table) x. free_of u.monomials v x) e f in
    ap (λ x. value_in new x σ) all ∙ value_stays t new free σ grown (free_of-IsOf t v p h) ∙ value-total t free σ ∙
    ap (λ n. n % modulus_in t) (free-total t.monomials v σ p some) ∙ sym (value-total t p (assigned σ v false))

-- ---- a polynomial without a variable

total-free : (ms : List (List ℕ)) (v : ℕ) (σ : Assignment) (b : Bool) (es : Sum) → places_of ms v es ≡ [] → total_in ms (assigned σ v b) es ≡ total_in ms σ es
total-free ms v σ b [] none = refl
total-free ms v σ b (e ∷ es) none = go (total-free ms v σ b es) (has_in ms v e) refl
  where
    go : (places_of ms v es ≡ [] → total_in ms (assigned σ v b) es ≡ total_in ms σ es) → (t : Bool) → has_in ms v e ≡ t → total_in ms (assigned σ v b) (e ∷ es) ≡ total_in ms σ (e ∷ es)
    go rest true is =
        let some : map (λ (x : Entry). x.0) (cond true (e ∷ filter (has_in ms v) es) (filter (has_in ms v) es)) ≡ [] =
        ap (λ t. map (λ (x : Entry). x.0) (cond t (e ∷ filter (has_in ms v) es) (filter (has_in ms v) es))) (sym is) ∙ none in
        absurd (cc)
    go rest false is =
        let left : places_of ms v es ≡ [] = ap (λ t. map (λ (x : Entry). x.0) (cond t (e ∷ filter (has_in ms v) es) (filter (has_in ms v) es))) (sym is) ∙ none in
        ap₂ (λ n k. e.1 * n + k) (product-other σ v b (get_or ms e.0 []) is) (rest left)

-- its value doesn't hang on the variable
pub free-value : (t : Table) (p : Sum) (v : ℕ) (σ : Assignment) (b : Bool) → ArePlacesOf t p v [] → value_in t p (assigned σ v b) ≡ value_in t p σ
unfolding ArePlacesOf
free-value t p v σ b none =
    value-total t p (assigned σ v b) ∙ ap (λ n. n % modulus_in t) (total-free t.monomials v σ b p (sym none)) ∙ sym (value-total t p σ)
