-- A graph meets any claim exactly where it does what is claimed on all numbers.
use Rattle.std.specs.Prelude.{◌≡◌, ℕ, ◌+◌, ◌*◌, ◌%◌, ◌^◌, ◌<◌, false, true, List, [], ◌++◌, map, length}
use Rattle.std.proofs.Common.{refl, sym, ap, ap₂, subst, ◌∙◌, arith, append-nil}
use Rattle.std.proofs.lemmas.Nat.{pow_pos}
use Rattle.graph_core.specs.declared.literal.Lit.{Lit}
use Rattle.graph_core.specs.declared.numbers.Numbers.{Numbers}
use Rattle.graph_core.specs.declared.order.Order.{Order}
use Rattle.graph_core.specs.declared.order.Order.TheVariants.{Interleaved}
use Rattle.graph_core.specs.declared.sign.Sign.{Sign}
use Rattle.graph_core.specs.declared.widths.Widths.TheVariants.{Equal}
use Rattle.graph_core.specs.Graph.Assignments.{Assignment, literal, word}
use Rattle.graph_core.specs.Graph.{Aig, IsDefinedOnce, evaluated}
use Rattle.graph_core.specs.Graph.Operands.{Sides, AreInRange, AreNarrow, ClaimIsDone, Does, DoesWith, DoingIsAdding, DoingIsMultiplying, HasMultiplierShape, HasShapeFor, HasSumShape, MeetsClaim, MultipliesAndAdds, MultipliesAs, adding, bits_of, claimed, claimed_at, in_order, inputs_at, inputs_in, inputs_of, multiplying, number_as, operand_word, order_of, output_modulus, product_as, sides_for, sum_width, value_at, value_at_inputs, width}
use Rattle.graph_core.proofs.OfGraphs.Congruence.{product_same, sum_same}
use Rattle.graph_core.proofs.OfGraphs.Multiplies.{inputs_have, sides_are_inputs}
use Rattle.graph_core.proofs.OfGraphs.NumbersOfInputs.{length-inputs_at, map-three, numbers_there, three_apart}
use Rattle.graph_core.proofs.OfGraphs.OperandBits.{length-bits_of, number_of, number_of-bits_of, word_is}
use Rattle.graph_core.proofs.OfGraphs.OperandWidths.{even_sides, length-a_literals, length-b_literals, length-c_literals}
use Rattle.graph_core.proofs.OfGraphs.SignedWords.{operand_number, plus_word_is}
use Rattle.std.proofs.lemmas.List.{length-map}

-- ---- what is claimed at numbers

-- an operand's literals have the number whose bits they are
word_there : (σ : Assignment) (ls : List Lit) (a : ℕ) → a < 2 ^ length ls → map (literal σ) ls ≡ bits_of (length ls) a → word σ ls ≡ a
word_there σ ls a low is = word_is σ ls ∙ ap number_of is ∙ number_of-bits_of (length ls) a low

module _ (g : Aig) (s : Sides) (whole : inputs_in s ≡ g.inputs) (even : order_of s.claim ≡ Interleaved → length s.a ≡ length s.b) (once : IsDefinedOnce g) (x : Numbers) where
  -- the inputs have the bits of the numbers
  pub have_inputs : map (literal (evaluated g (inputs_at s x))) (inputs_in s) ≡ inputs_at s x
  have_inputs =
      ap (map (literal (evaluated g (inputs_at s x)))) whole ∙
      inputs_have g (inputs_at s x) once (sym (ap length whole) ∙ sym (length-inputs_at s x))

  pub claimed_there : AreInRange s x → claimed (output_modulus g) s (evaluated g (inputs_at s x)) % output_modulus g ≡ claimed_at (output_modulus g) s x % output_modulus g
  claimed_there range =
      let τ = evaluated g (inputs_at s x) in
      let m = output_modulus g in
      let sign = s.claim.sign in
      let parts =
      three_apart (order_of s.claim) (map (literal τ) s.a) (map (literal τ) s.b) (map (literal τ) s.c) (bits_of (length s.a) x.a) (bits_of (length s.b) x.b) (bits_of (length s.c) x.c)
      (length-map s.a (literal τ) ∙ sym (length-bits_of (length s.a) x.a)) (length-map s.b (literal τ) ∙ sym (length-bits_of (length s.b) x.b))
      (λ e. length-map s.a (literal τ) ∙ even e ∙ sym (length-map s.b (literal τ))) (sym (map-three (literal τ) (order_of s.claim) s.a s.b s.c) ∙ have_inputs) in
      ap (λ z. z % m) (plus_word_is (operand_word m sign τ s.a * operand_word m sign τ s.b) τ s.c) ∙
      sum_same m (operand_word m sign τ s.a * operand_word m sign τ s.b) (number_as sign m (length s.a) x.a * number_as sign m (length s.b) x.b) (word τ s.c) x.c
      (product_same m (operand_word m sign τ s.a) (number_as sign m (length s.a) x.a) (operand_word m sign τ s.b) (number_as sign m (length s.b) x.b)
      (operand_number m sign τ s.a (length s.a) x.a (pow_pos (length g.outputs)) (word_there τ s.a x.a range.a parts.0) refl)
      (operand_number m sign τ s.b (length s.b) x.b (pow_pos (length g.outputs)) (word_there τ s.b x.b range.b parts.1) refl))
      (ap (λ z. z % m) (word_there τ s.c x.c range.c parts.2))

pub claim_is_done : ClaimIsDone
claim_is_done g k shape once = (
  λ meets x range. meets (inputs_at s x) (length-inputs_at s x ∙ ap length whole) ∙ claimed_there g s whole even once x range,
  λ does bits size.
      let found = numbers_there s bits even (size ∙ sym (ap length whole)) in
      let x = found.0 in
      subst (λ xs. value_at_inputs g xs ≡ claimed (output_modulus g) s (evaluated g xs) % output_modulus g) (sym found.2)
      (does x found.1 ∙ sym (claimed_there g s whole even once x found.1)),
)
  where
    s : Sides
    s = sides_for k g

    whole : inputs_in s ≡ g.inputs
    whole = sides_are_inputs g k shape

    even : order_of k ≡ Interleaved → length s.a ≡ length s.b
    even = even_sides g k shape

-- ---- operands of equal widths

-- the product of two operands, and an addend, by the widths of both
claimed_by : (m : ℕ) (s : Sides) (x : Numbers) (n : ℕ) → length s.a ≡ n → length s.b ≡ n → claimed_at m s x ≡ product_as s.claim.sign m n x.a x.b + x.c
claimed_by m s x n size_a size_b = ap₂ (λ i j. number_as s.claim.sign m i x.a * number_as s.claim.sign m j x.b + x.c) size_a size_b

module _ (g : Aig) (order : Order) (sign : Sign) (shape : HasMultiplierShape g) where
  abbrev pair : Sides
  pair = sides_for (multiplying order sign) g

  wide_a : length pair.a ≡ width g
  wide_a = length-a_literals (Equal false) order g shape

  wide_b : length pair.b ≡ width g
  wide_b = length-b_literals (Equal false) order g shape

  pair_inputs : (x : Numbers) → inputs_at pair x ≡ inputs_of order (width g) x.a x.b
  pair_inputs x = ap₂ (λ i j. in_order order (bits_of i x.a) (bits_of j x.b) ++ []) wide_a wide_b ∙ append-nil (inputs_of order (width g) x.a x.b)

  pair_claimed : (x : Numbers) → x.c ≡ 0 → claimed_at (output_modulus g) pair x ≡ product_as sign (output_modulus g) (width g) x.a x.b
  pair_claimed x none = claimed_by (output_modulus g) pair x (width g) wide_a wide_b ∙ omega (arith, none)

  pub doing_product : Does (multiplying order sign) g → MultipliesAs sign g order
  doing_product does a b low_a low_b =
      let x : Numbers = record { a = a; b = b; c = 0 } in
      ap (value_at_inputs g) (sym (pair_inputs x)) ∙
      does x (record { a = subst (λ n. a < 2 ^ n) (sym wide_a) low_a; b = subst (λ n. b < 2 ^ n) (sym wide_b) low_b; c = omega arith }) ∙
      ap (λ z. z % output_modulus g) (pair_claimed x refl)

  pub product_doing : MultipliesAs sign g order → Does (multiplying order sign) g
  product_doing multiplies x range =
      ap (value_at_inputs g) (pair_inputs x) ∙
      multiplies x.a x.b (subst (λ n. x.a < 2 ^ n) wide_a range.a) (subst (λ n. x.b < 2 ^ n) wide_b range.b) ∙
      ap (λ z. z % output_modulus g) (sym (pair_claimed x (omega (arith, range.c))))

pub doing_is_multiplying : DoingIsMultiplying
doing_is_multiplying g order sign shape = (doing_product g order sign shape, product_doing g order sign shape)

module _ (g : Aig) (order : Order) (sign : Sign) (shape : HasSumShape g) where
  abbrev three : Sides
  three = sides_for (adding order sign) g

  sum_a : length three.a ≡ sum_width g
  sum_a = length-a_literals (Equal true) order g shape

  sum_b : length three.b ≡ sum_width g
  sum_b = length-b_literals (Equal true) order g shape

  sum_c : length three.c ≡ 2 * sum_width g
  sum_c = omega (arith, length-c_literals (Equal true) g shape)

  three_inputs : (x : Numbers) → inputs_at three x ≡ inputs_of order (sum_width g) x.a x.b ++ bits_of (2 * sum_width g) x.c
  three_inputs x = ap₂ ◌++◌ (ap₂ (λ i j. in_order order (bits_of i x.a) (bits_of j x.b)) sum_a sum_b) (ap (λ k. bits_of k x.c) sum_c)

  pub doing_sum : Does (adding order sign) g → MultipliesAndAdds sign g order
  doing_sum does a b c low_a low_b low_c =
      let x : Numbers = record { a = a; b = b; c = c } in
      ap (value_at_inputs g) (sym (three_inputs x)) ∙
      does x (record { a = subst (λ n. a < 2 ^ n) (sym sum_a) low_a; b = subst (λ n. b < 2 ^ n) (sym sum_b) low_b; c = subst (λ n. c < 2 ^ n) (sym sum_c) low_c }) ∙
      ap (λ z. z % output_modulus g) (claimed_by (output_modulus g) three x (sum_width g) sum_a sum_b)

  pub sum_doing : MultipliesAndAdds sign g order → Does (adding order sign) g
  sum_doing adds x range =
      ap (value_at_inputs g) (three_inputs x) ∙
      adds x.a x.b x.c (subst (λ n. x.a < 2 ^ n) sum_a range.a) (subst (λ n. x.b < 2 ^ n) sum_b range.b) (subst (λ n. x.c < 2 ^ n) sum_c range.c) ∙
      ap (λ z. z % output_modulus g) (sym (claimed_by (output_modulus g) three x (sum_width g) sum_a sum_b))

pub doing_is_adding : DoingIsAdding
doing_is_adding g order sign shape = (doing_sum g order sign shape, sum_doing g order sign shape)
