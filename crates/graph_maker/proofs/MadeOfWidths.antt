-- Each made graph of two widths multiplies, and that of one width is the one of two equal ones.
use Rattle.std.specs.Prelude.{◌≡◌, ℕ, ◌+◌, ◌*◌, ◌^◌, ◌<◌, Bool, true, ◌&&◌, List, [], ◌∷◌, ◌++◌, map, length, drop, get_or, ◌%◌, false}
use Rattle.std.proofs.Common.{refl, sym, ap, ap₂, subst, ◌∙◌, arith, append-nil, length-append, mod-eq_of_lt}
use Rattle.std.proofs.lemmas.Nat.{mul-lt, pow-add}
use Rattle.std.proofs.lemmas.List.Elements.{recursion_from_All}
use Rattle.graph_core.specs.declared.literal.Lit.{Lit}
use Rattle.graph_core.specs.declared.order.Order.TheVariants.{Separate}
use Rattle.graph_core.specs.declared.widths.Widths.TheVariants.{Given}
use Rattle.graph_core.specs.Graph.Assignments.{Assignment, variable, literal, word}
use Rattle.graph_core.specs.Graph.Literals.{variable_of}
use Rattle.graph_core.specs.Graph.{Aig, IsAcyclic, IsDefinedOnce, IsEvaluation, IsWellFormed, defined, evaluated, of_inputs}
use Rattle.graph_core.specs.Graph.Operands.{Sides, HasGivenShape, Does, bits_of, inputs_at, output_modulus, sides_for, value_at_inputs}
use Rattle.graph_core.proofs.OfGraphs.CallerLemmas.{apart_from_pairs, evaluation_is, gates_distinct, inputs_have, length-a_literals, length-b_literals, length-bits_of, length-c_literals, number_of, number_of-bits_of, rest_apart, word_is}
use Rattle.graph_maker.specs.declared.kind.Kind.{Kind}
use Rattle.graph_maker.specs.declared.adder.Adder.{Adder}
use Rattle.graph_maker.specs.Builder.{literals_from}
use Rattle.graph_maker.specs.Made.{product_behind, whole_graph}
use Rattle.graph_maker.specs.MadeOfWidths.{claim_of_widths, made_of, IsMultiplierOf, MadeOfMultiplies, OneWidthIsTwo}
use Rattle.graph_maker.proofs.ArrayAdds.{length-literals_from}
use Rattle.graph_maker.proofs.Numbered.{IsNumbered, join-literals, numbered_well_formed}
use Rattle.graph_maker.proofs.ProductOfWidths.{product_is, product_long, product_numbered}

-- ---- the inputs that stand for an operand

-- literals one after the other have values one after the other
both_have : (σ : Assignment) (xs ys : List Lit) (as' bs : List Bool) → length xs ≡ length as' → map (literal σ) (xs ++ ys) ≡ as' ++ bs →
    (map (literal σ) xs ≡ as') × (map (literal σ) ys ≡ bs)
both_have σ [] ys [] bs e h = (refl, h)
both_have σ [] ys (b ∷ as') bs e h = absurd (omega arith)
both_have σ (x ∷ xs) ys [] bs e h = absurd (omega arith)
both_have σ (x ∷ xs) ys (b ∷ as') bs e h =
    let rest = both_have σ xs ys as' bs (omega arith) (ap (drop 1) h) in
    (ap₂ ◌∷◌ (ap (λ ls. get_or ls 0 true) h) rest.0, rest.1)

-- literals that have a number's bits have its word
word_of_bits : (σ : Assignment) (xs : List Lit) (n a : ℕ) → a < 2 ^ n → map (literal σ) xs ≡ bits_of n a → word σ xs ≡ a
word_of_bits σ xs n a low have = word_is σ xs ∙ ap number_of have ∙ number_of-bits_of n a low

evaluated_is : (g : Aig) (bits : List Bool) → IsDefinedOnce g → IsAcyclic g.gates → IsEvaluation g.gates (evaluated g bits)
evaluated_is g bits once acyclic =
    evaluation_is g.gates acyclic.0 acyclic.1
    (gates_distinct g.gates (rest_apart (map variable_of g.inputs) (map (λ x. x.v) g.gates) (apart_from_pairs (defined g) once.once))) once.gates (of_inputs g.inputs bits)

-- ---- the graph

module _ (kind : Kind) (m n : ℕ) (adder : Adder) (pos : 0 < m) (some : 0 < n) where
  abbrev g : Aig
  g = made_of kind m n adder

  pub numbered : IsNumbered (m + n) g
  numbered = product_numbered (m + n) kind m n adder pos some (omega arith)

  well_formed : IsWellFormed g
  well_formed = numbered_well_formed (m + n) g numbered

  on_evaluations : (σ : Assignment) → IsEvaluation g.gates σ → word σ g.outputs ≡ word σ (literals_from 1 m) * word σ (literals_from (m + 1) n)
  on_evaluations σ evaluates =
      product_is (m + n) kind m n adder pos some σ (recursion_from_All (λ x. variable σ x.v ≡ (literal σ x.left && literal σ x.right)) g.gates evaluates)

  module _ (a b : ℕ) (low_a : a < 2 ^ m) (low_b : b < 2 ^ n) where
    abbrev bits : List Bool
    bits = bits_of m a ++ bits_of n b

    size : length g.inputs ≡ length bits
    size = omega (arith, length-literals_from 1 (m + n), length-append (bits_of m a) (bits_of n b), length-bits_of m a, length-bits_of n b)

    have : map (literal (evaluated g bits)) (literals_from 1 m ++ literals_from (m + 1) n) ≡ bits
    have =
        ap (λ v. map (literal (evaluated g bits)) (literals_from 1 m ++ literals_from v n)) (omega arith) ∙
        ap (map (literal (evaluated g bits))) (sym (join-literals 1 m n)) ∙ inputs_have g bits well_formed.defined_once size

    product : value_at_inputs g bits ≡ a * b
    product =
        let σ = evaluated g bits in
        let parts = both_have σ (literals_from 1 m) (literals_from (m + 1) n) (bits_of m a) (bits_of n b) (length-literals_from 1 m ∙ sym (length-bits_of m a)) have in
        on_evaluations σ (evaluated_is g bits well_formed.defined_once well_formed.acyclic) ∙
        ap₂ ◌*◌ (word_of_bits σ (literals_from 1 m) m a low_a parts.0) (word_of_bits σ (literals_from (m + 1) n) n b low_b parts.1)

  whole : length g.outputs ≡ m + n
  whole = product_long (m + n) kind m n adder pos some

  -- ---- what is claimed

  pub shape : HasGivenShape m n false g
  shape = record {
    inputs = omega (arith, length-literals_from 1 (m + n));
    some_outputs = omega (arith, whole, pos);
    outputs = omega (arith, whole);
  }

  abbrev pair : Sides
  pair = sides_for (claim_of_widths m n) g

  wide_a : length pair.a ≡ m
  wide_a = length-a_literals (Given m n false) Separate g shape

  wide_b : length pair.b ≡ n
  wide_b = length-b_literals (Given m n false) Separate g shape

  wide_c : length pair.c ≡ 0
  wide_c = length-c_literals (Given m n false) g shape

  fits : (a b : ℕ) → a < 2 ^ m → b < 2 ^ n → a * b % output_modulus g ≡ a * b
  fits a b low_a low_b =
      let below : a * b < 2 ^ m * 2 ^ n = mul-lt _ _ _ _ low_a low_b in
      mod-eq_of_lt (subst (λ z. a * b < z) (sym (pow-add 2 m n) ∙ ap (λ k. 2 ^ k) (sym whole)) below)

  does : Does (claim_of_widths m n) g
  does x range =
      let low_a : x.a < 2 ^ m = subst (λ k. x.a < 2 ^ k) wide_a range.a in
      let low_b : x.b < 2 ^ n = subst (λ k. x.b < 2 ^ k) wide_b range.b in
      let none : x.c < 2 ^ 0 = subst (λ k. x.c < 2 ^ k) wide_c range.c in
      let values : inputs_at pair x ≡ bits_of m x.a ++ bits_of n x.b =
      ap₂ ◌++◌ (ap₂ (λ i j. bits_of i x.a ++ bits_of j x.b) wide_a wide_b) (ap (λ k. bits_of k x.c) wide_c) ∙ append-nil (bits_of m x.a ++ bits_of n x.b) in
      let sum : x.a * x.b ≡ x.a * x.b + x.c = omega arith in
      ap (value_at_inputs g) values ∙ product x.a x.b low_a low_b ∙ sym (fits x.a x.b low_a low_b) ∙ ap (λ z. z % output_modulus g) sum

  is_multiplier : IsMultiplierOf m n g
  is_multiplier = record {
    shape = shape;
    whole = whole;
    well_formed = well_formed;
    multiplies = λ a b low_a low_b. product a b low_a low_b;
    does = does;
  }

pub made_of_multiplies : MadeOfMultiplies
made_of_multiplies kind m n adder pos some = is_multiplier kind m n adder pos some

pub one_width_is_two : OneWidthIsTwo
one_width_is_two kind n adder =
    let twice : 2 * n ≡ n + n = omega arith in
    ap (λ k. whole_graph k (product_behind k kind n n adder)) twice
