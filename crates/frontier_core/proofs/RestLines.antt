-- The line by which a rest differs from the specification's part, as columns are added and gates eliminated.
use Rattle.std.specs.Prelude.{◌≡◌, ℕ, ◌+◌, ◌*◌, ◌-◌, ◌%◌, ◌^◌, ◌<◌, false, List, ◌∷◌, slice_get}
use Rattle.std.specs.declared.option.Option.TheVariants.{Some}
use Rattle.std.proofs.Common.{refl, sym, ap, ap₂, subst, ◌∙◌, arith}
use Rattle.std.proofs.Math.Nat.{zero-mod, mod-mod, mod-add-mod, add-mod-mod}
use Rattle.graph_core.specs.declared.literal.Lit.{Lit}
use Rattle.graph_core.specs.Graph.Assignments.{Assignment, variable, literal, bit, word}
use Rattle.graph_core.specs.Graph.Operands.{Sides, claimed}
use Rattle.algebra_core.specs.Polynomials.{difference}
use Rattle.graph_core.specs.Graph.Extended.{Extended, modulus}
use Rattle.algebra_core.specs.AlgebraLines.{gate_axiom, specification}
use Rattle.algebra_core.proofs.CallerLemmas.{modulus_pos, difference_plus, difference_is, difference_same}
use Rattle.graph_core.proofs.OfGraphs.CallerLemmas.{sum_same, product_same}
use Rattle.frontier_core.specs.Sets.{has}
use Rattle.frontier_core.specs.Columns.{column_claim, column_of, columns_sum}
use Rattle.frontier_core.specs.Frontier.{set_to}
use Rattle.frontier_core.specs.Substitution.{gate_value, quotient, substituted}
use Rattle.frontier_core.specs.RestLine.{partial_specification, IsRestLine, RestLineStarts, AddingKeepsRestLine, EliminatingKeepsRestLine, RestLineEnds, ZeroRestCloses}
use Rattle.frontier_core.proofs.ColumnClaims.{columns_make_claim}
use Rattle.frontier_core.proofs.FrontierSteps.{no_columns, more_columns}
use Rattle.frontier_core.proofs.Substituting.{quotient_splits}

pub difference_small : (m x y : ℕ) → 0 < m → difference m x y % m ≡ difference m x y
difference_small m x y h = mod-mod (x + (m - y % m)) m

pub rest_line_starts : RestLineStarts
rest_line_starts e s line rest none zero_there σ =
    none σ ∙ sym (difference_same (modulus e) 0 (modulus_pos e)) ∙
    sym (ap₂ (difference (modulus e)) (ap (λ z. z % modulus e) (no_columns (modulus e) s 0 e.graph.outputs σ) ∙ zero-mod (modulus e)) (zero_there σ))

-- the part with one more column
part_more : (e : Extended) (s : Sides) (added : List ℕ) (k : ℕ) (o : Lit) (σ : Assignment) → slice_get e.graph.outputs k ≡ Some o → has added k ≡ false →
    partial_specification e s (k ∷ added) σ ≡ (partial_specification e s added σ + column_of (modulus e) s k o σ) % modulus e
part_more e s added k o σ is new =
    let m = modulus e in
    let os = e.graph.outputs in
    let more : columns_sum m s (k ∷ added) 0 os σ ≡ columns_sum m s added 0 os σ + column_of m s k o σ =
    subst (λ j. columns_sum m s (j ∷ added) 0 os σ ≡ columns_sum m s added 0 os σ + column_of m s j o σ) (omega arith)
    (more_columns m s added 0 k os o σ is (ap (has added) (omega arith) ∙ new)) in
    ap (λ z. z % m) more ∙ sym (mod-add-mod (columns_sum m s added 0 os σ) m (column_of m s k o σ))

-- old minus new and new minus products make old minus products
two_differences : (m x y z : ℕ) → 0 < m → (difference m x y + difference m y z) % m ≡ difference m x z % m
two_differences m x y z h =
    let sum : ((difference m x y + difference m y z) + z) % m ≡ x % m =
    ap (λ w. w % m) (omega arith) ∙ sum_same m (difference m x y) (difference m x y) (difference m y z + z) y refl (difference_plus m y z h) ∙ difference_plus m x y h in
    sym (difference_is m x z (difference m x y + difference m y z) h sum) ∙ sym (difference_small m x z h)

adding_identity : (m w s p d o r x : ℕ) → 0 < m → d ≡ difference m s p →
    difference m ((s + w * difference m o x) % m) ((p + w * difference m r x) % m) ≡ (d + w * difference m o r) % m
adding_identity m w s p d o r x h is =
    let a = difference m o r in
    let b = difference m r x in
    let dp : (d + p) % m ≡ s % m = ap (λ z. (z + p) % m) is ∙ difference_plus m s p h in
    let two : (w * (a + b)) % m ≡ (w * difference m o x) % m = product_same m w w (a + b) (difference m o x) refl (two_differences m o r x h) in
    let all : ((d + w * a) + (p + w * b)) % m ≡ (s + w * difference m o x) % m =
    ap (λ z. z % m) (omega arith) ∙ sum_same m (d + p) s (w * (a + b)) (w * difference m o x) dp two in
    difference_is m ((s + w * difference m o x) % m) ((p + w * b) % m) (d + w * a) h
    (add-mod-mod (d + w * a) (p + w * b) m ∙ all ∙ sym (mod-mod (s + w * difference m o x) m))

-- a line that is a difference stays so under what adds 0
line_stays : (m d n : ℕ) (x y : ℕ) → 0 < m → d ≡ difference m x y → n ≡ 0 → d ≡ (d + n) % m
line_stays m d n x y h is none =
    is ∙ sym (difference_small m x y h) ∙ ap (λ z. z % m) (sym is ∙ (omega arith))

pub adding_keeps_rest_line : AddingKeepsRestLine
adding_keeps_rest_line e s added k o r line rest next is_line is_old is_new new sum = ((λ more more_is σ. more_is σ ∙ sym (equation σ)), keeps)
  where
    equation : (σ : Assignment) → difference (modulus e) (partial_specification e s (k ∷ added) σ) (next σ) ≡
        (line σ + 2 ^ k * difference (modulus e) (bit (literal σ o)) (bit (literal σ r))) % modulus e
    equation σ =
        ap₂ (difference (modulus e)) (part_more e s added k o σ is_old new) (sum σ) ∙
        adding_identity (modulus e) (2 ^ k) (partial_specification e s added σ) (rest σ) (line σ) (bit (literal σ o)) (bit (literal σ r))
        (column_claim (modulus e) s k σ) (modulus_pos e) (is_line σ)

    keeps : o ≡ r → IsRestLine e s (k ∷ added) line next
    keeps same σ =
        let none : difference (modulus e) (bit (literal σ o)) (bit (literal σ r)) ≡ 0 =
        ap (λ l. difference (modulus e) (bit (literal σ o)) (bit (literal σ l))) (sym same) ∙ difference_same (modulus e) (bit (literal σ o)) (modulus_pos e) in
        line_stays (modulus e) (line σ) (2 ^ k * difference (modulus e) (bit (literal σ o)) (bit (literal σ r))) (partial_specification e s added σ) (rest σ) (modulus_pos e) (is_line σ) (ap (λ z. 2 ^ k * z) none ∙ omega arith) ∙
        sym (equation σ)

-- s: the part; p = v * t + f; d = s - p; g: the gate's product
eliminating_identity : (m s p d v g t f : ℕ) → 0 < m → d ≡ difference m s p → p % m ≡ (v * t + f) % m →
    difference m s ((g * t + f) % m) ≡ (d + difference m g v * difference m 0 t) % m
eliminating_identity m s p d v g t f h is splits =
    let a = difference m g v in
    let c = difference m 0 t in
    let dp : (d + p) % m ≡ s % m = ap (λ z. (z + p) % m) is ∙ difference_plus m s p h in
    let gate : (g * t) % m ≡ ((a + v) * t) % m = product_same m g (a + v) t t (sym (difference_plus m g v h)) refl in
    let none : (a * (c + t)) % m ≡ (a * 0) % m = product_same m a a (c + t) 0 refl (difference_plus m 0 t h) in
    let with_gate : ((d + a * c) + (g * t + f)) % m ≡ ((d + a * c + f) + (a + v) * t) % m =
    ap (λ z. z % m) (omega arith) ∙ sum_same m (d + a * c + f) (d + a * c + f) (g * t) ((a + v) * t) refl gate in
    let together : ((d + a * c + f) + (a + v) * t) ≡ a * (c + t) + (d + (v * t + f)) = omega arith in
    let to_p : (d + (v * t + f)) % m ≡ (d + p) % m = sum_same m d d (v * t + f) p refl (sym splits) in
    let nothing : (a * 0 + s) ≡ s = omega arith in
    let all : ((d + a * c) + (g * t + f)) % m ≡ s % m =
    with_gate ∙ ap (λ z. z % m) together ∙ sum_same m (a * (c + t)) (a * 0) (d + (v * t + f)) s none (to_p ∙ dp) ∙ ap (λ z. z % m) nothing in
    difference_is m s ((g * t + f) % m) (d + a * c) h (add-mod-mod (d + a * c) (g * t + f) m ∙ all)

pub eliminating_keeps_rest_line : EliminatingKeepsRestLine
eliminating_keeps_rest_line e s added x line rest next is_line above replaced = ((λ more more_is σ. more_is σ ∙ sym (equation σ)), keeps)
  where
    equation : (σ : Assignment) → difference (modulus e) (partial_specification e s added σ) (next σ) ≡
        (line σ + (gate_axiom (modulus e) x).value σ * difference (modulus e) 0 (quotient (modulus e) x.v rest σ)) % modulus e
    equation σ =
        let m = modulus e in
        let turned : substituted m x.v (gate_value x) rest σ ≡ (gate_value x σ * quotient m x.v rest σ + rest (set_to x.v false σ)) % m = ap (λ z. z % m) (omega arith) in
        ap (difference m (partial_specification e s added σ)) (replaced σ ∙ turned) ∙
        eliminating_identity m (partial_specification e s added σ) (rest σ) (line σ) (bit (variable σ x.v)) (gate_value x σ)
        (quotient m x.v rest σ) (rest (set_to x.v false σ)) (modulus_pos e) (is_line σ)
        (sym (quotient_splits m x.v rest σ (modulus_pos e) above))

    keeps : ((σ : Assignment) → quotient (modulus e) x.v rest σ ≡ 0) → IsRestLine e s added line next
    keeps none σ =
        let m = modulus e in
        let c : difference m 0 (quotient m x.v rest σ) ≡ 0 = ap (difference m 0) (none σ) ∙ difference_same m 0 (modulus_pos e) in
        line_stays m (line σ) ((gate_axiom m x).value σ * difference m 0 (quotient m x.v rest σ)) (partial_specification e s added σ) (rest σ) (modulus_pos e) (is_line σ)
        (ap (λ z. (gate_axiom m x).value σ * z) c ∙ omega arith) ∙ sym (equation σ)

pub rest_line_ends : RestLineEnds
rest_line_ends e s added line rest all is_line σ = is_line σ ∙ ap (λ x. difference (modulus e) x (rest σ)) (columns_make_claim s e.graph.outputs added σ all)

pub zero_rest_closes : ZeroRestCloses
zero_rest_closes e s added line rest all is_line none σ =
    rest_line_ends e s added line rest all is_line σ ∙ ap (difference (modulus e) (specification e s σ)) (none σ) ∙
    difference_is (modulus e) (specification e s σ) 0 (specification e s σ) (modulus_pos e) (ap (λ z. z % modulus e) (omega arith)) ∙
    difference_small (modulus e) (word σ e.graph.outputs) (claimed (modulus e) s σ) (modulus_pos e)
