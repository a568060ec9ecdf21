-- What was read may be written again: the numbers of a line that a text says are in range also as the table has its polynomials.
use Rattle.std.specs.Prelude.{◌≡◌, ◌≢◌, ℕ, zero, suc, ◌+◌, ◌*◌, ◌%◌, ◌^◌, ◌<◌, ◌≤◌, ◌||◌, Bool, true, false, cond, nat_lt, List, [], ◌∷◌, length, map}
use Rattle.std.specs.declared.option.Option.TheVariants.{Some}
use Rattle.std.specs.List.{All, AllByRecursion, list_any}
use Rattle.std.proofs.Common.{refl, sym, ap, ap₂, subst, ◌∙◌, arith, ⊎_elim, mul-zero}
use Rattle.std.proofs.Math.Nat.{pow-le-pow_right, zero-mul}
use Rattle.std.proofs.lemmas.Bool.{cases_Bool, le-ltb, ltb-false, or_parts}
use Rattle.std.proofs.lemmas.List.Elements.{All-nil, All-cons, All-head, All-tail, All-from_recursion, recursion_from_All}
use Rattle.std.proofs.lemmas.Option.{same_Some}
use Rattle.mv_nums.specs.Residue.{IsWidth}
use Rattle.graph_core.specs.Graph.Assignments.{Assignment, bit, variable}
use Rattle.graph_core.specs.Graph.Extended.{Extended}
use Rattle.algebra_core.specs.AlgebraLines.{Line, Part, Sum, Product, Combination, Import, Delete}
use Rattle.graph_core.specs.Graph.Extended as graphs
use Rattle.algebra_core.specs.Likeness.{AreAlike, ArePartsAlike, HaveSameValue}
use Rattle.algebra_core.specs.NormalForm.{AreRising, IsNormalForm, IsNormalTerm}
use Rattle.algebra_core.specs.Polynomials.{Polynomial, Term, difference, product, sum_of, term_value, value}
use Rattle.algebra_core.specs.Text.{IsId, IsInRange, IsLineInRange}
use Rattle.algebra_core.proofs.CallerLemmas.{Once, normal_form, once_from_pairs, plain_value, size_is_one}
use Rattle.poly_terms.specs.Tables.{Table, IsOf, modulus_in}
use Rattle.poly_terms.specs.Tables as table
use Rattle.poly_terms.proofs.Values.{normal}
use Rattle.poly_text.specs.declared.line.PacLine.{PacLine}
use Rattle.poly_text.specs.declared.line.PacLine.TheVariants as line
use Rattle.poly_text.specs.Lines.{line_in, part_in}
use Rattle.poly_text.specs.LineTexts.{IsTextOf}
use Rattle.poly_text.specs.Values.{IsPartInRange, IsTermInRange}
use Rattle.poly_text.specs.WrittenLines.{IsWritable}
use Rattle.poly_text.proofs.WritableLines.{read_is_writable}

-- ---- the assignment with each variable above max false

module _ (max : ℕ) where
  abbrev lowered : Assignment → Assignment
  lowered σ v = cond (nat_lt max v) false (σ v)

  abbrev is_high : List ℕ → Bool
  is_high vs = list_any (λ v. nat_lt max v) vs

  low_variable : (σ : Assignment) (v : ℕ) → nat_lt max v ≡ false → variable (lowered σ) v ≡ variable σ v
  low_variable σ zero h = refl
  low_variable σ (suc v) h = ap (λ b. cond b false (σ (suc v))) h

  high_variable : (σ : Assignment) (v : ℕ) → nat_lt max v ≡ true → variable (lowered σ) v ≡ false
  high_variable σ zero h = refl
  high_variable σ (suc v) h = ap (λ b. cond b false (σ (suc v))) h

  low_product : (σ : Assignment) (vs : List ℕ) → is_high vs ≡ false → product (lowered σ) vs ≡ product σ vs
  low_product σ [] h = refl
  low_product σ (v ∷ vs) h =
      let parts = or_parts (nat_lt max v) (is_high vs) h in
      ap₂ (λ b n. bit b * n) (low_variable σ v parts.0) (low_product σ vs parts.1)

  high_product : (σ : Assignment) (vs : List ℕ) → is_high vs ≡ true → product (lowered σ) vs ≡ 0
  high_product σ [] h = absurd (cc)
  high_product σ (v ∷ vs) h =
      ⊎_elim
      (λ t. ap (λ b. bit b * product (lowered σ) vs) (high_variable σ v t) ∙ zero-mul (product (lowered σ) vs))
      (λ f. ap (λ n. bit (variable (lowered σ) v) * n) (high_product σ vs (ap (λ b. b || is_high vs) (sym f) ∙ h)) ∙ mul-zero (bit (variable (lowered σ) v)))
      (cases_Bool (nat_lt max v))

  range_is_low : (vs : List ℕ) → AllByRecursion (λ v. (0 < v) × (v ≤ max)) vs → is_high vs ≡ false
  range_is_low [] h = refl
  range_is_low (v ∷ vs) h = ap₂ ◌||◌ (le-ltb max v h.0.1) (range_is_low vs h.1)

  low_is_range : (b : ℕ) (vs : List ℕ) → AreRising b vs → is_high vs ≡ false → AllByRecursion (λ v. (0 < v) × (v ≤ max)) vs
  low_is_range b [] rising h = tt
  low_is_range b (v ∷ vs) rising h =
      let parts = or_parts (nat_lt max v) (is_high vs) h in
      let above = rising.0 in
      ((omega arith, ltb-false max v parts.0), low_is_range v vs rising.1 parts.1)

  -- a polynomial in range has the same value there
  range_sum : (m : ℕ) (ts : List Term) (σ : Assignment) → AllByRecursion (IsTermInRange max) ts → sum_of m ts (lowered σ) ≡ sum_of m ts σ
  range_sum m [] σ h = refl
  range_sum m (t ∷ ts) σ h =
      ap₂ ◌+◌
      (ap (λ n. cond t.negative (difference m 0 (t.coefficient * n)) (t.coefficient * n))
      (low_product σ t.variables (range_is_low t.variables (recursion_from_All (λ v. (0 < v) × (v ≤ max)) t.variables h.0.1))))
      (range_sum m ts σ h.1)

  -- ---- the terms without a variable above max

  abbrev low : List Term → List Term
  low [] = []
  low (t ∷ ts) = cond (is_high t.variables) (low ts) (t ∷ low ts)

  all_low : (P : Term → Type 0) (ts : List Term) → AllByRecursion P ts → AllByRecursion P (low ts)
  all_low P [] h = tt
  all_low P (t ∷ ts) h = go (all_low P ts h.1) (is_high t.variables)
    where
      go : AllByRecursion P (low ts) → (b : Bool) → AllByRecursion P (cond b (low ts) (t ∷ low ts))
      go rest true = rest
      go rest false = (h.0, rest)

  once_low : (ts : List Term) → Once ts → Once (low ts)
  once_low [] h = tt
  once_low (t ∷ ts) h = go (once_low ts h.1) (is_high t.variables)
    where
      go : Once (low ts) → (b : Bool) → Once (cond b (low ts) (t ∷ low ts))
      go rest true = rest
      go rest false = (all_low (λ s. t.variables ≢ s.variables) ts h.0, rest)

  length-low : (ts : List Term) → length (low ts) ≤ length ts
  length-low [] = omega arith
  length-low (t ∷ ts) = go (length-low ts) (is_high t.variables)
    where
      go : length (low ts) ≤ length ts → (b : Bool) → length (cond b (low ts) (t ∷ low ts)) ≤ suc (length ts)
      go rest true = omega arith
      go rest false = omega arith

  -- where none is left out, each is low
  whole_low : (ts : List Term) → length (low ts) ≡ length ts → AllByRecursion (λ t. is_high t.variables ≡ false) ts
  whole_low [] h = tt
  whole_low (t ∷ ts) h = go (λ k. whole_low ts k) (is_high t.variables) refl h
    where
      go : (length (low ts) ≡ length ts → AllByRecursion (λ s. is_high s.variables ≡ false) ts) → (b : Bool) → is_high t.variables ≡ b →
          length (cond b (low ts) (t ∷ low ts)) ≡ suc (length ts) → (is_high t.variables ≡ false) × AllByRecursion (λ s. is_high s.variables ≡ false) ts
      go rest true e k = let few = length-low ts in absurd (omega arith)
      go rest false e k = (e, rest (omega (arith, k)))

  -- their value is the whole one's with the variables above max false
  low_sum : (m : ℕ) (ts : List Term) (σ : Assignment) → AllByRecursion (IsNormalTerm m) ts → sum_of m (low ts) σ ≡ sum_of m ts (lowered σ)
  low_sum m [] σ h = refl
  low_sum m (t ∷ ts) σ h = go (low_sum m ts σ h.1) (is_high t.variables) refl
    where
      go : sum_of m (low ts) σ ≡ sum_of m ts (lowered σ) → (b : Bool) → is_high t.variables ≡ b → sum_of m (cond b (low ts) (t ∷ low ts)) σ ≡ term_value m t (lowered σ) + sum_of m ts (lowered σ)
      go rest true e =
          let here : term_value m t (lowered σ) ≡ 0 = plain_value m t (lowered σ) h.0 ∙ ap (λ n. t.coefficient * n) (high_product σ t.variables e) ∙ mul-zero t.coefficient in
          omega arith
      go rest false e =
          let here : term_value m t σ ≡ term_value m t (lowered σ) = plain_value m t σ h.0 ∙ ap (λ n. t.coefficient * n) (sym (low_product σ t.variables e)) ∙ sym (plain_value m t (lowered σ) h.0) in
          ap₂ ◌+◌ here rest

  -- ---- a normal form with the values of a polynomial in range

  normal_low : (m : ℕ) (q : Polynomial) → IsNormalForm m q → IsNormalForm m (low q)
  normal_low m q n = normal_form m (low q) (all_low (IsNormalTerm m) q (recursion_from_All (IsNormalTerm m) q n.terms), once_low q (once_from_pairs q n.once))

  low_value : (m : ℕ) (p q : Polynomial) → IsNormalForm m q → HaveSameValue m p q → IsInRange max p → (σ : Assignment) → value m (low q) σ ≡ value m q σ
  low_value m p q n same range σ =
      ap (λ s. s % m) (low_sum m q σ (recursion_from_All (IsNormalTerm m) q n.terms)) ∙ sym (same (lowered σ)) ∙
      ap (λ s. s % m) (range_sum m p σ (recursion_from_All (IsTermInRange max) p range)) ∙ same σ

  is_low : (m : ℕ) (p q : Polynomial) → IsNormalForm m q → HaveSameValue m p q → IsInRange max p → AllByRecursion (λ t. is_high t.variables ≡ false) q
  is_low m p q n same range =
      whole_low q (size_is_one m (value m q) (length (low q)) (length q) (low q, normal_low m q n, low_value m p q n same range, refl) (q, n, (λ σ. refl), refl))

  module _ (m : ℕ) (fits : m ≤ 2 ^ 128) where
    terms_in_range : (ts : List Term) → AllByRecursion (IsNormalTerm m) ts → AllByRecursion (λ t. is_high t.variables ≡ false) ts → AllByRecursion (IsTermInRange max) ts
    terms_in_range [] n l = tt
    terms_in_range (t ∷ ts) n l =
        let below = n.0.2 in
        ((omega arith, All-from_recursion (λ v. (0 < v) × (v ≤ max)) t.variables (low_is_range 0 t.variables n.0.3 l.0)), terms_in_range ts n.1 l.1)

    normal_in_range : (p q : Polynomial) → IsNormalForm m q → HaveSameValue m p q → IsInRange max p → IsInRange max q
    normal_in_range p q n same range =
        All-from_recursion (IsTermInRange max) q (terms_in_range q (recursion_from_All (IsNormalTerm m) q n.terms) (is_low m p q n same range))

    -- ---- lines

    -- a line's polynomials are normal forms
    abbrev AreNormal : Line → Type 0
    AreNormal (Sum id i j p) = IsNormalForm m p
    AreNormal (Product id i f p) = IsNormalForm m f × IsNormalForm m p
    AreNormal (Combination id parts p) = All (λ part. IsNormalForm m part.factor) parts × IsNormalForm m p
    AreNormal (Import id number p) = IsNormalForm m p
    AreNormal (Delete id) = Unit {0}

    parts_in_range : (xs ys : List Part) → ArePartsAlike m xs ys → All (λ part. IsNormalForm m part.factor) ys → All (IsPartInRange max) xs → All (IsPartInRange max) ys
    parts_in_range [] ys h n range = subst (All (IsPartInRange max)) (sym h) range
    parts_in_range (x ∷ xs) [] h n range = absurd h
    parts_in_range (x ∷ xs) (y ∷ ys) h n range =
        let here = All-head (IsPartInRange max) x xs range in
        All-cons (IsPartInRange max) y ys
        (subst IsId h.0 here.0, normal_in_range x.factor y.factor (All-head (λ part. IsNormalForm m part.factor) y ys n) h.1 here.1)
        (parts_in_range xs ys h.2 (All-tail (λ part. IsNormalForm m part.factor) y ys n) (All-tail (IsPartInRange max) x xs range))

    alike_in_range : (x y : Line) → AreAlike m x y → AreNormal y → IsLineInRange max x → IsLineInRange max y
    alike_in_range (Sum id i j p) y h n range =
        subst (IsLineInRange max) (sym h.1) (range.0, range.1, range.2, normal_in_range p h.0 (subst AreNormal h.1 n) h.2 range.3)
    alike_in_range (Product id i f p) y h n range =
        let forms = subst AreNormal h.2 n in
        subst (IsLineInRange max) (sym h.2) (range.0, range.1, normal_in_range f h.0 forms.0 h.3 range.2, normal_in_range p h.1 forms.1 h.4 range.3)
    alike_in_range (Combination id parts p) y h n range =
        let forms = subst AreNormal h.2 n in
        subst (IsLineInRange max) (sym h.2) (range.0, parts_in_range parts h.0 h.3 forms.0 range.1, normal_in_range p h.1 forms.1 h.4 range.2)
    alike_in_range (Import id number p) y h n range =
        subst (IsLineInRange max) (sym h.1) (range.0, range.1, normal_in_range p h.0 (subst AreNormal h.1 n) h.2 range.2)
    alike_in_range (Delete id) y h n range = subst (IsLineInRange max) (sym h) range

-- ---- lines of a table

parts_normal : (t : Table) (parts : List (ℕ × table.Sum)) → All (λ part. IsOf t part.1) parts → All (λ part. IsNormalForm (modulus_in t) part.factor) (map (part_in t) parts)
parts_normal t [] h = All-nil (λ part. IsNormalForm (modulus_in t) part.factor)
parts_normal t (part ∷ parts) h =
    All-cons (λ part. IsNormalForm (modulus_in t) part.factor) (part_in t part) (map (part_in t) parts) (normal t part.1 (All-head (λ part. IsOf t part.1) part parts h))
    (parts_normal t parts (All-tail (λ part. IsOf t part.1) part parts h))

pub read_in_range : (t : Table) (version max : ℕ) (bytes : List ℕ) (given : PacLine) (y : Line) → modulus_in t ≤ 2 ^ 128 → IsTextOf t version max bytes given → line_in t given ≡ Some y → IsLineInRange max y
read_in_range t version max bytes (line.Sum id i j poly) y fits h e =
    subst (IsLineInRange max) (same_Some _ _ e) (alike_in_range max (modulus_in t) fits h.0 _ h.3.alike (normal t poly h.3.of) h.2)
read_in_range t version max bytes (line.Product id i factor poly) y fits h e =
    subst (IsLineInRange max) (same_Some _ _ e) (alike_in_range max (modulus_in t) fits h.0 _ h.3.alike (normal t factor h.3.of.0, normal t poly h.3.of.1) h.2)
read_in_range t version max bytes (line.Combination id parts poly) y fits h e =
    subst (IsLineInRange max) (same_Some _ _ e) (alike_in_range max (modulus_in t) fits h.0 _ h.3.alike (parts_normal t parts h.3.of.0, normal t poly h.3.of.1) h.2)
read_in_range t version max bytes (line.Import id number poly) y fits h e =
    subst (IsLineInRange max) (same_Some _ _ e) (alike_in_range max (modulus_in t) fits h.0 _ h.3.alike (normal t poly h.3.of) h.2)
read_in_range t version max bytes (line.Drop id) y fits h e =
    subst (IsLineInRange max) (same_Some _ _ e) (alike_in_range max (modulus_in t) fits h.0 _ h.3.alike tt h.2)
read_in_range t version max bytes (line.Close id) y fits h e = absurd (cc)

-- A line that a text says may be written again.
pub read_again : (t : Table) (version max : ℕ) (bytes : List ℕ) (given : PacLine) (y : Line) → modulus_in t ≤ 2 ^ 128 → IsTextOf t version max bytes given → line_in t given ≡ Some y →
    IsLineInRange max y × IsWritable given
read_again t version max bytes given y fits h e = (read_in_range t version max bytes given y fits h e, read_is_writable t version max bytes given h)

-- So may a closing line.
pub close_read_again : (t : Table) (version max : ℕ) (bytes : List ℕ) (id : ℕ) → IsTextOf t version max bytes (line.Close id) → IsWritable (line.Close id)
close_read_again t version max bytes id h = h.1

-- ---- where the modulus is at most 2 ^ 128

pub width_fits : (t : Table) → IsWidth t.exponent → modulus_in t ≤ 2 ^ 128
width_fits t width = pow-le-pow_right (omega arith) width.1

pub outputs_fit : (t : Table) (e : Extended) → modulus_in t ≡ graphs.modulus e → length e.graph.outputs ≤ 128 → modulus_in t ≤ 2 ^ 128
outputs_fit t e is few = subst (λ m. m ≤ 2 ^ 128) (sym is) (pow-le-pow_right (omega arith) few)
