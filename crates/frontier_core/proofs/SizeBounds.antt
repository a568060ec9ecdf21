-- Bounds on the sizes of functions.
use Rattle.std.specs.Prelude.{◌≡◌, ℕ, ◌+◌, ◌*◌, ◌%◌, ◌≤◌, false, List, [], ◌∷◌, ◌++◌, map, length}
use Rattle.std.proofs.Common.{refl, sym, ap, ◌∙◌, arith, length-append}
use Rattle.std.proofs.Math.Nat.{mod-mod}
use Rattle.std.proofs.lemmas.List.{length-map}
use Rattle.graph_core.specs.Graph.Assignments.{Assignment, variable, bit}
use Rattle.algebra_core.specs.Polynomials.{Term, sum_of, value}
use Rattle.graph_core.proofs.OfGraphs.CallerLemmas.{sum_same}
use Rattle.algebra_core.proofs.CallerLemmas.{sum_of-append, normal_form_exists, size_is_one}
use Rattle.frontier_core.specs.Sizes.{SizeIsAtMost, LinearIsSmall, linear_sum, bilinear_sum}

pub size_is_at_most : SizeIsAtMost
size_is_at_most m f p n h same size =
    let is = normal_form_exists m p h in
    let one = size_is_one m f n (length is.0) size (is.0, is.1, (λ σ. is.2 σ ∙ same σ), refl) in
    let short = is.3 in
    omega arith

abbrev single : ℕ × ℕ → Term
single x = record { negative = false; coefficient = x.0; variables = x.1 ∷ [] }

abbrev double : ℕ × ℕ × ℕ → Term
double x = record { negative = false; coefficient = x.0; variables = x.1 ∷ x.2 ∷ [] }

singles_sum : (m : ℕ) (xs : List (ℕ × ℕ)) (σ : Assignment) → sum_of m (map single xs) σ ≡ linear_sum xs σ
singles_sum m [] σ = refl
singles_sum m (x ∷ xs) σ = let rest = singles_sum m xs σ in let one : x.0 * (bit (variable σ x.1) * 1) ≡ x.0 * bit (variable σ x.1) = ap (λ z. x.0 * z) (omega arith) in omega arith

doubles_sum : (m : ℕ) (xs : List (ℕ × ℕ × ℕ)) (σ : Assignment) → sum_of m (map double xs) σ ≡ bilinear_sum xs σ
doubles_sum m [] σ = refl
doubles_sum m (x ∷ xs) σ =
    let rest = doubles_sum m xs σ in
    let one : x.0 * (bit (variable σ x.1) * (bit (variable σ x.2) * 1)) ≡ x.0 * (bit (variable σ x.1) * bit (variable σ x.2)) = ap (λ z. x.0 * (bit (variable σ x.1) * z)) (omega arith) in
    omega arith

pub linear_is_small : LinearIsSmall
linear_is_small m c singles products more f n h is size =
    let first : Term = record { negative = false; coefficient = c; variables = [] } in
    let p = first ∷ (map single singles ++ (map double products ++ more)) in
    let long : length p ≡ 1 + length singles + length products + length more =
    omega (arith, length-append (map single singles) (map double products ++ more), length-append (map double products) more, length-map singles single, length-map products double) in
    let most : n ≤ length p = size_is_at_most m f p n h
    (λ σ.
    let total : sum_of m p σ ≡ (c + linear_sum singles σ + bilinear_sum products σ) + sum_of m more σ =
    omega (arith, sum_of-append m (map single singles) (map double products ++ more) σ, sum_of-append m (map double products) more σ, singles_sum m singles σ, doubles_sum m products σ) in
    ap (λ z. z % m) total ∙ sym (sum_same m (c + linear_sum singles σ + bilinear_sum products σ) (c + linear_sum singles σ + bilinear_sum products σ) (value m more σ) (sum_of m more σ) refl (mod-mod (sum_of m more σ) m)) ∙ sym (is σ)) size in
    omega arith
