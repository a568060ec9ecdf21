-- What crates above may cite: laws, and of a graph's inputs and operands.
pub use Rattle.frontier_core.proofs.LastFrontiers.{last_frontier_decides, last_frontier_is_over_inputs}
pub use Rattle.frontier_core.proofs.LeastValues.{difference_is_of_numbers, last_frontier_gives_least, least_difference_is_one, least_term_gives_inputs}
pub use Rattle.frontier_core.proofs.NotZero.{specification_is_not_zero}
pub use Rattle.frontier_core.proofs.PlainOrders.{plain_order_is_one}
pub use Rattle.frontier_core.proofs.Plans.{plain_plan_is_plan}
pub use Rattle.frontier_core.proofs.Positions.{first_difference_precedes, ones_above, ones_injective, precedes_total, precedes_transitive}
pub use Rattle.frontier_core.proofs.RestLines.{difference_small}
use Rattle.std.specs.Prelude.{◌≡◌, ◌≢◌, ℕ, zero, suc, ◌+◌, ◌-◌, ◌<◌, ◌%◌, List, [], ◌∷◌, length, map, get_or, slice_get}
use Rattle.std.specs.declared.option.Option.TheVariants.{Some}
use Rattle.std.specs.List.{All}
use Rattle.std.proofs.Common.{refl, sym, ap, subst, ◌∙◌, arith}
use Rattle.std.proofs.lemmas.List.Elements.{All-from_recursion}
use Rattle.std.proofs.lemmas.Option.{none-some, slice_get-get_or}
use Rattle.graph_core.specs.declared.literal.Lit.{Lit}
use Rattle.graph_core.specs.declared.order.Order.{Order}
use Rattle.graph_core.specs.declared.order.Order.TheVariants.{Separate, Interleaved}
use Rattle.graph_core.specs.Graph.Literals.{variable_of}
use Rattle.graph_core.specs.Graph.{Aig, IsDefinedOnce, defined}
use Rattle.graph_core.specs.Graph.Operands.{Sides, AreOperandsOf, HasShapeFor, a_width, b_width, inputs_in, order_of}
use Rattle.graph_core.proofs.OfGraphs.CallerLemmas.{DistinctLits, IsInput, addend_at, apart_from_pairs, even_sides, interleaved_a, interleaved_b, length-operands, lits_apart, separate_a, separate_b, sides_are_inputs}
use Rattle.frontier_core.specs.LeastDifference.{AreInputs}
use Rattle.frontier_core.specs.RestLine.{HaveLowestBits}
use Rattle.frontier_core.proofs.OrderMade.{pairs_front}
use Rattle.frontier_core.proofs.PlainOrders.{pairs_from, pairs_recursion}

-- The inputs of a graph are inputs, for the search of a least term.
pub graph_inputs : (g : Aig) → IsDefinedOnce g → AreInputs g.inputs
graph_inputs g once = record {
  even = once.inputs;
  once = pairs_from ◌≢◌ (map variable_of g.inputs) (pairs_front ◌≢◌ (map variable_of g.inputs) (map (λ x. x.v) g.gates) (pairs_recursion ◌≢◌ (defined g) once.once));
}

-- The operands' literals, in their order, are the inputs.
pub operands_in_order : (g : Aig) (s : Sides) → AreOperandsOf g s → HasShapeFor s.claim.widths g → inputs_in s ≡ g.inputs
operands_in_order g s h shape = ap inputs_in h ∙ sides_are_inputs g s.claim shape

-- ---- the lowest bits

apart_places : (xs : List Lit) (i j : ℕ) (d e : Lit) → DistinctLits xs → i < j → j < length xs → variable_of (get_or xs i d) ≢ variable_of (get_or xs j e)
apart_places [] i j d e h lt low = absurd (omega arith)
apart_places (x ∷ xs) i zero d e h lt low = absurd (omega arith)
apart_places (x ∷ xs) zero (suc j) d e h lt low = All-from_recursion (λ k. variable_of x ≢ variable_of k) xs h.0 j e (omega arith)
apart_places (x ∷ xs) (suc i) (suc j) d e h lt low = apart_places xs i j d e h.1 (omega arith) (omega arith)

-- what stands at a place
some_injective : (k l : Lit) → Some k ≡ Some l → k ≡ l
some_injective k l e = cc

get_is : (xs : List Lit) (i : ℕ) (d l : Lit) → slice_get xs i ≡ Some l → get_or xs i d ≡ l
get_is [] i d l h = absurd (none-some l h)
get_is (x ∷ xs) zero d l h = some_injective x l h
get_is (x ∷ xs) (suc i) d l h = get_is xs i d l h

place_low : (xs : List Lit) (i : ℕ) (l : Lit) → slice_get xs i ≡ Some l → i < length xs
place_low [] i l h = absurd (none-some l h)
place_low (x ∷ xs) zero l h = omega arith
place_low (x ∷ xs) (suc i) l h = omega (arith, place_low xs i l h)

module _ (g : Aig) (s : Sides) (whole : inputs_in s ≡ g.inputs) (once : IsDefinedOnce g) where
  -- an input at a place among the operands and the addend
  is_input : (i : ℕ) (l : Lit) → slice_get (inputs_in s) i ≡ Some l → IsInput l
  is_input i l at =
      let there : slice_get g.inputs i ≡ Some l = subst (λ xs. slice_get xs i ≡ Some l) whole at in
      subst IsInput (get_is g.inputs i l l there) (once.inputs i l (place_low g.inputs i l there))

  -- at two places stand two variables
  apart_at : (i j : ℕ) (k l : Lit) → i < j → slice_get (inputs_in s) i ≡ Some k → slice_get (inputs_in s) j ≡ Some l → variable_of k ≢ variable_of l
  apart_at i j k l lt at_i at_j =
      let first : slice_get g.inputs i ≡ Some k = subst (λ xs. slice_get xs i ≡ Some k) whole at_i in
      let second : slice_get g.inputs j ≡ Some l = subst (λ xs. slice_get xs j ≡ Some l) whole at_j in
      let distinct = lits_apart g.inputs (map (λ x. x.v) g.gates) (apart_from_pairs (defined g) once.once) in
      subst (λ x. variable_of x ≢ variable_of l) (get_is g.inputs i k k first)
      (subst (λ y. variable_of (get_or g.inputs i k) ≢ variable_of y) (get_is g.inputs j l l second) (apart_places g.inputs i j k l distinct lt (place_low g.inputs j l second)))

  -- the lowest bits of both operands, by their places
  lowest_at : (i j : ℕ) (a b : Lit) → slice_get s.a 0 ≡ Some a → slice_get s.b 0 ≡ Some b → i < j → j < length s.a + length s.b →
      slice_get (inputs_in s) i ≡ Some a → slice_get (inputs_in s) j ≡ Some b → HaveLowestBits s a b
  lowest_at i j a b is_a is_b lt low at_a at_b =
      let input_a = is_input i a at_a in
      let input_b = is_input j b at_b in
      record {
        a_is = is_a;
        b_is = is_b;
        a_even = input_a.0;
        b_even = input_b.0;
        a_variable = input_a.1;
        b_variable = input_b.1;
        apart = apart_at i j a b lt at_a at_b;
        addend = λ k d below.
            let place = (length s.a + length s.b) + k in
            let at = addend_at s place (get_or s.c k d) k refl (slice_get-get_or s.c k d below) in
            ((is_input place (get_or s.c k d) at).0, (λ same. apart_at i place a (get_or s.c k d) (omega arith) at_a at (sym same)), (λ same. apart_at j place b (get_or s.c k d) (omega arith) at_b at (sym same)));
      }

  lowest_in : (order : Order) → order_of s.claim ≡ order → (order_of s.claim ≡ Interleaved → length s.a ≡ length s.b) → 0 < length s.a → 0 < length s.b →
      (a : Lit) × (b : Lit) × HaveLowestBits s a b
  lowest_in Separate e even some_a some_b =
      let d : Lit = record { 0 = 0 } in
      let is_a = slice_get-get_or s.a 0 d some_a in
      let is_b = slice_get-get_or s.b 0 d some_b in
      let here : length s.a - length s.a ≡ 0 = omega arith in (
        get_or s.a 0 d,
        get_or s.b 0 d,
        lowest_at 0 (length s.a) (get_or s.a 0 d) (get_or s.b 0 d) is_a is_b some_a (omega arith) (separate_a s 0 (get_or s.a 0 d) e is_a)
            (separate_b s (length s.a) (get_or s.b 0 d) e (omega arith) (subst (λ k. slice_get s.b k ≡ Some (get_or s.b 0 d)) (sym here) is_b)),
      )
  lowest_in Interleaved e even some_a some_b =
      let d : Lit = record { 0 = 0 } in
      let is_a = slice_get-get_or s.a 0 d some_a in
      let is_b = slice_get-get_or s.b 0 d some_b in (
        get_or s.a 0 d,
        get_or s.b 0 d,
        lowest_at 0 1 (get_or s.a 0 d) (get_or s.b 0 d) is_a is_b (omega arith) (omega arith) (interleaved_a s 0 (get_or s.a 0 d) e (even e) (omega arith) is_a)
            (interleaved_b s 1 (get_or s.b 0 d) e (even e) (omega arith) is_b),
      )

-- Operands of widths other than 0 have lowest bits.
pub lowest_bits : (g : Aig) (s : Sides) → AreOperandsOf g s → HasShapeFor s.claim.widths g → IsDefinedOnce g → 0 < a_width s.claim.widths g → 0 < b_width s.claim.widths g →
    (a : Lit) × (b : Lit) × HaveLowestBits s a b
lowest_bits g s h shape once some_a some_b =
    let wide = length-operands g s shape h in
    lowest_in g s (operands_in_order g s h shape) once (order_of s.claim) refl (subst (λ z. order_of z.claim ≡ Interleaved → length z.a ≡ length z.b) (sym h) (even_sides g s.claim shape))
    (omega (arith, wide.0)) (omega (arith, wide.1))
