-- How long the texts of terms, polynomials and lines are at most.
use Rattle.std.specs.Prelude.{◌≡◌, ◌<◌, ◌≤◌, ◌+◌, ◌-◌, ◌*◌, ◌^◌, ◌==◌, ℕ, suc, get_or, Bool, true, false, cond, nat_lt, List, [], ◌∷◌, ◌++◌, map, length, codes, decimal}
use Rattle.std.proofs.Common.{refl, arith, length-append, ltb-true}
use Rattle.std.proofs.lemmas.Fmt.{length-decimal-le_wide}
use Rattle.algebra_core.specs.AlgebraLines.{Part}
use Rattle.algebra_core.specs.AlgebraLines as algebra
use Rattle.algebra_core.specs.Polynomials.{Polynomial, Term}
use Rattle.algebra_core.specs.Text.{first_line}
use Rattle.graph_core.specs.Text.{newline}
use Rattle.poly_text.specs.WrittenLines.{closing_text, factors_text, is_bare, joint_text, lesser_of, line_text, mark_text, part_text, parts_text, poly_text, product_text, sign_text, signed_term, term_text, terms_text}

abbrev AreWords : List ℕ → Type 0
AreWords vs = (i : ℕ) → get_or vs i 0 < 2 ^ 32

joined : (xs ys : List ℕ) (a b : ℕ) → length xs ≤ a → length ys ≤ b → length (xs ++ ys) ≤ a + b
joined xs ys a b h k = omega (arith, length-append xs ys, h, k)

exactly : (xs : List ℕ) → length xs ≤ length xs
exactly xs = omega arith

mark_short : (bare : Bool) → length (mark_text bare) ≤ 2
mark_short true = omega arith
mark_short false = omega arith

sign_short : (first negative : Bool) → length (sign_text first negative) ≤ 1
sign_short true true = omega arith
sign_short false true = omega arith
sign_short true false = omega arith
sign_short false false = omega arith

factors_short : (bare : Bool) (vs : List ℕ) → AreWords vs → length (factors_text bare vs) ≤ 12 * length vs
factors_short bare [] h = omega arith
factors_short bare (v ∷ vs) h =
    let here : v < 2 ^ 32 = h 0 in
    let digits = length-decimal-le_wide 10 v (omega arith) (omega arith) (omega arith) in
    let later = factors_short false vs (λ i. h (suc i)) in
    let whole : length (factors_text bare (v ∷ vs)) ≤ 2 + 10 + 12 * length vs = joined _ _ _ _ (joined _ _ _ _ (mark_short bare) digits) later in
    omega (arith, whole)

numeral_short : (bare : Bool) (c : ℕ) → c < 2 ^ 128 → length (cond bare [] (decimal c)) ≤ 39
numeral_short true c small = omega arith
numeral_short false c small = length-decimal-le_wide 39 c (omega arith) (omega arith) (omega arith)

pub term_short : (first : Bool) (t : Term) → t.coefficient < 2 ^ 128 → AreWords t.variables → length (term_text first t) ≤ 40 + 12 * length t.variables
term_short first t small words =
    let bare = is_bare t.coefficient t.variables in
    let number = cond bare [] (decimal t.coefficient) in
    omega (arith, length-append (sign_text first t.negative) (product_text t.coefficient t.variables), length-append number (factors_text bare t.variables), sign_short first t.negative, numeral_short bare t.coefficient small, factors_short bare t.variables words)

-- ---- polynomials

lesser_below : (m c : ℕ) → c < 2 ^ 128 → lesser_of m c < 2 ^ 128
lesser_below m c small = go (nat_lt m (2 * c)) refl
  where
    go : (b : Bool) → nat_lt m (2 * c) ≡ b → cond b (m - c) c < 2 ^ 128
    go true e = let more : m < 2 * c = ltb-true m (2 * c) e in omega (arith, more, small)
    go false e = small

-- of a normal term as it is written
pub written_small : (m : ℕ) (t : Term) → m ≤ 2 ^ 128 → t.coefficient < m → (signed_term m t).coefficient < 2 ^ 128
written_small m t width below = lesser_below m t.coefficient (omega (arith, width, below))

pub poly_begins : (m : ℕ) (ts : List Term) → length (poly_text m ts) ≤ 1 + length (terms_text true (map (signed_term m) ts))
unfolding poly_text
poly_begins m [] = omega arith
poly_begins m (t ∷ ts) = omega arith

-- ---- ids

pub id_short : (id : ℕ) → id < 2 ^ 64 → length (decimal id) ≤ 20
id_short id small = length-decimal-le_wide 20 id (omega arith) (omega arith) (omega arith)

pub header_short : (version : ℕ) → length (first_line version) ≤ 5
header_short version = go (version == 1) (version == 2)
  where
    go : (one two : Bool) → length (cond one (codes "pac 1") (cond two (codes "pac 2") (codes "pac 3"))) ≤ 5
    go true two = omega arith
    go false true = omega arith
    go false false = omega arith

pub joint_short : (first : Bool) → length (joint_text first) ≤ 3
joint_short true = omega arith
joint_short false = omega arith

pub part_short : (m : ℕ) (first : Bool) (part : Part) → length (decimal part.id) ≤ 20 → length (joint_text first ++ part_text m part) ≤ 32 + length (poly_text m part.factor)
part_short m first part small =
    let poly = poly_text m part.factor in
    let whole : length (joint_text first ++ part_text m part) ≤ 3 + (20 + 4 + length poly + 1) =
    joined _ _ _ _ (joint_short first) (joined _ _ _ _ (joined _ _ _ _ (joined _ _ _ _ small (exactly (codes " * ("))) (exactly poly)) (exactly (codes ")"))) in
    omega (arith, whole)

-- ---- lines, between their ids and their polynomials

pub closing_short : (id : ℕ) → length (decimal id) ≤ 20 → length (closing_text id) ≤ 23
closing_short id small = omega (arith, length-append (decimal id) (codes ";"), small)

pub sum_short : (m id i j : ℕ) (p : Polynomial) → length (decimal id) ≤ 20 → length (decimal i) ≤ 20 → length (decimal j) ≤ 20 → length (line_text m (algebra.Sum id i j p)) ≤ length (poly_text m p) + 96
sum_short m id i j p a b c =
    let poly = poly_text m p in
    let ids = joined _ _ _ _ (joined _ _ _ _ (joined _ _ _ _ (joined _ _ _ _ (joined _ _ _ _ a (exactly (codes " + "))) b) (exactly (codes ", "))) c) (exactly (codes ", ")) in
    let whole : length (line_text m (algebra.Sum id i j p)) ≤ 20 + 3 + 20 + 2 + 20 + 2 + length poly + 1 = joined _ _ _ _ (joined _ _ _ _ ids (exactly poly)) (exactly (codes ";")) in
    omega (arith, whole)

pub product_short : (m id i : ℕ) (q p : Polynomial) → length (decimal id) ≤ 20 → length (decimal i) ≤ 20 → length (line_text m (algebra.Product id i q p)) ≤ length (poly_text m q) + 64 + length (poly_text m p)
product_short m id i q p a b =
    let factor = poly_text m q in
    let poly = poly_text m p in
    let ids = joined _ _ _ _ (joined _ _ _ _ (joined _ _ _ _ a (exactly (codes " * "))) b) (exactly (codes ", ")) in
    let whole : length (line_text m (algebra.Product id i q p)) ≤ 20 + 3 + 20 + 2 + length factor + 2 + length poly + 1 =
    joined _ _ _ _ (joined _ _ _ _ (joined _ _ _ _ (joined _ _ _ _ ids (exactly factor)) (exactly (codes ", "))) (exactly poly)) (exactly (codes ";")) in
    omega (arith, whole)

pub combination_short : (m id : ℕ) (parts : List Part) (p : Polynomial) → length (decimal id) ≤ 20 → length (line_text m (algebra.Combination id parts p)) ≤ length (parts_text m true parts) + 32 + length (poly_text m p)
combination_short m id parts p a =
    let poly = poly_text m p in
    let front = parts_text m true parts in
    let whole : length (line_text m (algebra.Combination id parts p)) ≤ 20 + 3 + length front + 2 + length poly + 1 =
    joined _ _ _ _ (joined _ _ _ _ (joined _ _ _ _ (joined _ _ _ _ (joined _ _ _ _ a (exactly (codes " % "))) (exactly front)) (exactly (codes ", "))) (exactly poly)) (exactly (codes ";")) in
    omega (arith, whole)

pub import_short : (m id number : ℕ) (p : Polynomial) → length (decimal id) ≤ 20 → length (decimal number) ≤ 20 → length (line_text m (algebra.Import id number p)) ≤ length (poly_text m p) + 64
import_short m id number p a b =
    let poly = poly_text m p in
    let ids = joined _ _ _ _ (joined _ _ _ _ (joined _ _ _ _ a (exactly (codes " c "))) b) (exactly (codes ", ")) in
    let whole : length (line_text m (algebra.Import id number p)) ≤ 20 + 3 + 20 + 2 + length poly + 1 = joined _ _ _ _ (joined _ _ _ _ ids (exactly poly)) (exactly (codes ";")) in
    omega (arith, whole)

pub deletion_short : (m id : ℕ) → length (decimal id) ≤ 20 → length (line_text m (algebra.Delete id)) ≤ 32
deletion_short m id a =
    let whole : length (line_text m (algebra.Delete id)) ≤ 20 + 3 = joined _ _ _ _ a (exactly (codes " d;")) in
    omega (arith, whole)

-- the closing line with its line feed
abbrev pub ended : ℕ → List ℕ
ended closing = closing_text closing ++ newline ∷ []
