-- What the calls of a table make, in values.
use Rattle.std.proofs.Common.{◌≡◌, ℕ, ◌+◌, ◌*◌, ◌%◌, ◌^◌, ◌<◌, List, Some, [], get_or, length, map, slice_get, refl, sym, ap, ap₂, subst, ◌∙◌, arith}
use Rattle.std.proofs.Math.Nat.{mod-mod}
use Rattle.std.proofs.lemmas.List.{length-map}
use Rattle.std.proofs.lemmas.Option.{slice_get-map, slice_get_read}
use Rattle.std.specs.Prelude.{option_map}
use Rattle.graph_core.specs.Graph.Assignments.{Assignment}
use Rattle.algebra_core.specs.Polynomials.{Polynomial, product, sum_of, value}
use Rattle.poly_terms.specs.Entries.{IsSortedSum, Sum, Entry}
use Rattle.poly_terms.specs.Monomials.{Adds, AreIn, AreMonomials, Grows, total_in}
use Rattle.poly_terms.specs.Tables.{Table, Extends, IsOf, modulus_in, monomial_in, monomials_in, table_of, value_in}
use Rattle.poly_terms.proofs.Adding.{all_at}
use Rattle.poly_terms.proofs.Residues.{product_of_reduced}
use Rattle.poly_terms.proofs.Values.{value-total}

-- the table extends the one before
pub extends_grown : (w : ℕ) (old new : List (List ℕ)) (t : Table) → table_of w old ≡ t → Grows old new → Extends t (table_of w new)
unfolding Extends
extends_grown w old new t e g = subst (λ (u : Table). (w ≡ u.exponent) × Grows u.monomials new) e (refl, g)

-- a polynomial's numbers are in the table
pub numbers_of : (w : ℕ) (ms : List (List ℕ)) (t : Table) (p p' : Sum) → table_of w ms ≡ t → p' ≡ p → IsOf t p → AreIn ms p'
unfolding IsOf
numbers_of w ms t p p' e f h = subst (λ (u : Table). AreIn u.monomials p') (sym e) (subst (AreIn t.monomials) (sym f) h.numbers)

-- what was gathered is a polynomial
pub made-IsOf : (w : ℕ) (ms : List (List ℕ)) (raw out r : Sum) → r ≡ out → AreMonomials ms → AreIn ms raw → IsSortedSum (2 ^ w) raw out → IsOf (table_of w ms) r
unfolding IsOf
made-IsOf w ms raw out r is o h g =
    subst (IsOf (table_of w ms)) (sym is) (record { coefficients = g.coefficients; numbers = g.numbers (length ms) h; order = g.order; table = o })

-- what is added to nothing has the number's value
pub adds-value : (m : ℕ) (old new : List (List ℕ)) (n : Assignment → ℕ) (raw : Sum) (σ : Assignment) → Adds m old new [] raw n → total_in new σ raw % m ≡ n σ % m
adds-value m old new n raw σ adds = adds.sums tt σ ∙ ap (λ k. k % m) (let e : 0 + n σ ≡ n σ = omega arith in e)

-- and its value
pub made-value : (w : ℕ) (old new : List (List ℕ)) (n : Assignment → ℕ) (raw out r : Sum) (σ : Assignment) → r ≡ out → Adds (2 ^ w) old new [] raw n → IsSortedSum (2 ^ w) raw out →
    value_in (table_of w new) r σ ≡ n σ % 2 ^ w
made-value w old new n raw out r σ is adds g =
    value-total (table_of w new) r σ ∙ ap (λ es. total_in new σ es % 2 ^ w) is ∙ g.sums (λ k. product σ (get_or new k [])) ∙ adds-value (2 ^ w) old new n raw σ adds

-- the same of what was gathered in a table as it stands
pub gathered-IsOf : (w : ℕ) (ms : List (List ℕ)) (t : Table) (raw out r : Sum) → table_of w ms ≡ t → r ≡ out → AreMonomials ms → AreIn t.monomials raw → IsSortedSum (2 ^ w) raw out → IsOf t r
gathered-IsOf w ms t raw out r e is o h g =
    subst (λ u. IsOf u r) e (made-IsOf w ms raw out r is o (subst (λ (u : Table). AreIn u.monomials raw) (sym e) h) g)

pub gathered-value : (w : ℕ) (ms : List (List ℕ)) (t : Table) (raw out r : Sum) (σ : Assignment) → table_of w ms ≡ t → r ≡ out → IsSortedSum (2 ^ w) raw out →
    value_in t r σ ≡ total_in t.monomials σ raw % modulus_in t
gathered-value w ms t raw out r σ e is g =
    let h : IsSortedSum (modulus_in t) raw out = subst (λ (u : Table). IsSortedSum (modulus_in u) raw out) e g in
    value-total t r σ ∙ ap (λ es. total_in t.monomials σ es % modulus_in t) is ∙ h.sums (λ k. product σ (get_or t.monomials k []))

-- the product of totals is that of values
pub product-values : (w : ℕ) (ms : List (List ℕ)) (t : Table) (p q p' q' : Sum) (σ : Assignment) → table_of w ms ≡ t → p' ≡ p → q' ≡ q →
    (total_in ms σ p' * total_in ms σ q') % 2 ^ w ≡ (value_in t p σ * value_in t q σ) % modulus_in t
product-values w ms t p q p' q' σ e f g =
    let one : (total_in ms σ p' * total_in ms σ q') % 2 ^ w ≡ (total_in t.monomials σ p * total_in t.monomials σ q) % modulus_in t =
    ap₂ (λ a b. (total_in ms σ a * total_in ms σ b) % 2 ^ w) f g ∙ ap (λ (u : Table). (total_in u.monomials σ p * total_in u.monomials σ q) % modulus_in u) e in
    one ∙ sym (product_of_reduced (modulus_in t) (total_in t.monomials σ p) (total_in t.monomials σ q)) ∙
    sym (ap₂ (λ a b. (a * b) % modulus_in t) (value-total t p σ) (value-total t q σ))

-- a total times what parts say is the product of the values
pub multiple-values : (w : ℕ) (ms : List (List ℕ)) (t : Table) (p p' : Sum) (parts : Polynomial) (σ : Assignment) → table_of w ms ≡ t → p' ≡ p →
    (total_in ms σ p' * sum_of (2 ^ w) parts σ) % 2 ^ w ≡ (value_in t p σ * value (modulus_in t) parts σ) % modulus_in t
multiple-values w ms t p p' parts σ e f =
    let one : (total_in ms σ p' * sum_of (2 ^ w) parts σ) % 2 ^ w ≡ (total_in t.monomials σ p * sum_of (modulus_in t) parts σ) % modulus_in t =
    ap (λ a. (total_in ms σ a * sum_of (2 ^ w) parts σ) % 2 ^ w) f ∙ ap (λ (u : Table). (total_in u.monomials σ p * sum_of (modulus_in u) parts σ) % modulus_in u) e in
    one ∙ sym (product_of_reduced (modulus_in t) (total_in t.monomials σ p) (sum_of (modulus_in t) parts σ)) ∙
    sym (ap (λ a. (a * value (modulus_in t) parts σ) % modulus_in t) (value-total t p σ))

pub value_below : (t : Table) (p : Sum) (σ : Assignment) → value_in t p σ % modulus_in t ≡ value_in t p σ
value_below t p σ = mod-mod (sum_of (modulus_in t) (monomials_in t p) σ) (modulus_in t)

-- the i-th entry's number is in the table
pub number_in : (w : ℕ) (ms : List (List ℕ)) (t : Table) (p p' : Sum) (i n : ℕ) (e : Entry) → table_of w ms ≡ t → p' ≡ p → IsOf t p → i < length (monomials_in t p) → e ≡ get_or p' i e → n ≡ e.0 →
    n < length ms
unfolding monomials_in
number_in w ms t p p' i n e v f h low at is =
    let within : i < length p' = let len = length-map p (monomial_in t) in let same = ap length f in omega arith in
    subst (λ k. k < length ms) (sym is) (all_at (λ x. x.0 < length ms) p' i e within at (numbers_of w ms t p p' v f h))

-- and its variables
pub vars_at : (w : ℕ) (ms : List (List ℕ)) (t : Table) (p p' : Sum) (i n : ℕ) (e : Entry) (vs : List ℕ) → table_of w ms ≡ t → p' ≡ p → i < length (monomials_in t p) → e ≡ get_or p' i e → n ≡ e.0 →
    get_or ms n [] ≡ vs → option_map (λ m. m.variables) (slice_get (monomials_in t p) i) ≡ Some vs
unfolding monomials_in
vars_at w ms t p p' i n e vs v f low at is there =
    let within : i < length p' = let len = length-map p (monomial_in t) in let same = ap length f in omega arith in
    let found : slice_get p i ≡ Some e = ap (λ xs. slice_get xs i) (sym f) ∙ slice_get_read p' (length p') i e refl within at in
    let term : slice_get (map (monomial_in t) p) i ≡ Some (monomial_in t e) = slice_get-map (monomial_in t) p i ∙ ap (option_map (monomial_in t)) found in
    ap (option_map (λ m. m.variables)) term ∙ ap Some (ap (λ (u : Table). get_or u.monomials e.0 []) (sym v) ∙ ap (λ k. get_or ms k []) (sym is) ∙ there)

-- a polynomial's numbers are among the table's monomials
pub numbers_in : (t : Table) (ms : List (List ℕ)) (p p' : Sum) → ms ≡ t.monomials → p' ≡ p → IsOf t p → AreIn ms p'
unfolding IsOf
numbers_in t ms p p' e f h = subst (λ k. AreIn k p') (sym e) (subst (AreIn t.monomials) (sym f) h.numbers)
