-- What crates above may cite of graphs that are built, of their values and of their operands.
pub use Rattle.graph_core.proofs.OfGraphs.BuiltFacts.{few_distinct, few_numbers}
pub use Rattle.graph_core.proofs.OfGraphs.Claims.{claim_is_done, claimed_there, doing_is_adding, doing_is_multiplying, doing_product, doing_sum, have_inputs, product_doing, sum_doing}
pub use Rattle.graph_core.proofs.OfGraphs.InputPlaces.{addend_at, interleaved_a, interleaved_b, length-inputs_in, separate_a, separate_b}
pub use Rattle.graph_core.proofs.OfGraphs.NumbersOfInputs.{length-inputs_at, numbers_there, same_numbers}
pub use Rattle.graph_core.proofs.OfGraphs.OperandWidths.{even_sides, length-a_literals, length-b_literals, length-c_literals, sides_are_narrow}
pub use Rattle.graph_core.proofs.OfGraphs.Congruence.{product_same, sum_same}
pub use Rattle.graph_core.proofs.OfGraphs.Decided.{Decided, by_cases, decided_all, decided_and, decided_as, decided_eq, decided_le, decided_lt, decided_or}
pub use Rattle.graph_core.proofs.OfGraphs.Evaluation.{Distinct, evaluation_is, evaluation_is_one, finds_none, literal_same, rounds-free, variable-pos, variable_same}
pub use Rattle.graph_core.proofs.OfGraphs.Faults.{apart_pairs, no_fault_is_found}
pub use Rattle.graph_core.proofs.OfGraphs.FullAdders.{full_adder}
pub use Rattle.graph_core.proofs.OfGraphs.Gates.{never_wrong}
pub use Rattle.graph_core.proofs.OfGraphs.Levels.{acyclic_levels, level_inverted, one_level}
pub use Rattle.graph_core.proofs.OfGraphs.Lists.{all_join, all_split, all_weaker, any_back, any_cases, any_front, any_here, any_nil, any_there}
pub use Rattle.graph_core.proofs.OfGraphs.LiteralValues.{literal-even, literal-inverted, literal-negated, literal-odd, literal-plain, variable_of-negated}
pub use Rattle.graph_core.proofs.OfGraphs.Multiplies.{Apart, a_is, apart_from_pairs, b_is, claim_is, claim_is_product, evaluations_suffice, gates_distinct, inputs_have, length-inputs_of, lits_apart, rest_apart, sides_are_inputs, sides_read_inputs, take-length-append, whole_products}
pub use Rattle.graph_core.proofs.OfGraphs.OperandBits.{DistinctLits, IsInput, evens-alternate, inputs_are, length-alternate, length-bits_of, literal-input, number_of, number_of-bits_of, odds-alternate, word_is}
pub use Rattle.graph_core.proofs.OfGraphs.OperandLiterals.{are_inputs, length-in_order, length-literals, length-literals_in}
pub use Rattle.graph_core.proofs.OfGraphs.OutputValues.{has_at, has_contained, has_none, of_inputs_again, outputs_are, outputs_are_value}
pub use Rattle.graph_core.proofs.OfGraphs.OperandPlaces.{a_bits_are, a_part_at, a_place_low, b_bits_are, b_part_at, b_place_low, bit_low, bits_of-number_of, byte_is_bit, length-a_part, length-b_part, number_of-low, parts_are}
pub use Rattle.graph_core.proofs.OfGraphs.SignedWords.{claim_same, operand_number, plus_word_is, signed_is, top, top_low, word_top}
pub use Rattle.graph_core.proofs.OfGraphs.TableSteps.{gates_read_more}
pub use Rattle.graph_core.proofs.OfGraphs.WellFormedGates.{distinct_gates, gate_in_range, gates_apart, input_in_range, output_in_range}
pub use Rattle.graph_core.proofs.OfGraphs.ValueSteps.{outputs_below, word_fits, word_step}
pub use Rattle.graph_core.proofs.OfGraphs.Words.{word_below}
pub use Rattle.graph_core.proofs.OfGraphs.WrittenValues.{all_gates_written, all_inputs_written, constant_written, input_written, inputs_apart, inputs_written, next_written}
use Rattle.std.specs.Prelude.{◌≡◌, ℕ, ◌+◌, ◌*◌, Bool, List, [], ◌∷◌, length}
use Rattle.std.proofs.Common.{refl, sym, ap, ap₂, ◌∙◌}
use Rattle.graph_core.specs.declared.literal.Lit.{Lit}
use Rattle.graph_core.specs.declared.gate.Gate.{Gate}
use Rattle.graph_core.specs.declared.order.Order.{Order}
use Rattle.graph_core.specs.Graph.Literals.{variable_of}
use Rattle.graph_core.specs.Graph.Assignments.{literal, bit, word, listed, Assignment}
use Rattle.graph_core.specs.Graph.{Aig, IsWellFormed, IsEvaluation, IsLevel, IsGateOf, AreValues, evaluated, IsDefinedOnce, IsAcyclic}
use Rattle.graph_core.specs.Graph.Operands.{Sides, AreOperandsOf, HasMultiplierShape, HasShapeFor, width, inputs_of, a_bits, b_bits, a_width, b_width, MultipliesWhole}
use Rattle.graph_core.proofs.OfGraphs.Evaluation.{literal_same}
use Rattle.graph_core.proofs.OfGraphs.Levels.{contains_in, distinct_from, distinct_same, one_level}
use Rattle.graph_core.proofs.OfGraphs.Multiplies.{evaluated_is, claim_is}
use Rattle.graph_core.proofs.OfGraphs.OperandWidths.{even_sides, length-a_literals, length-b_literals}

-- ---- values

pub literal_is : (g : Aig) (bits values : List Bool) → AreValues g bits values → (l : Lit) → literal (listed values) l ≡ literal (evaluated g bits) l
literal_is g bits values h l = literal_same (listed values) (evaluated g bits) l (h (variable_of l))

pub word_is_evaluated : (g : Aig) (bits values : List Bool) → AreValues g bits values → (ls : List Lit) → word (listed values) ls ≡ word (evaluated g bits) ls
word_is_evaluated g bits values h [] = refl
word_is_evaluated g bits values h (l ∷ ls) = ap₂ (λ b n. bit b + 2 * n) (literal_is g bits values h l) (word_is_evaluated g bits values h ls)

-- ---- gates and levels

-- A variable has one gate.
pub one_gate : (g : Aig) (v : ℕ) (x y : Gate) → IsWellFormed g → IsGateOf g.gates v x → IsGateOf g.gates v y → y ≡ x
one_gate g v x y well p q =
    distinct_same g.gates (distinct_from g.gates (gates_apart g well)) x y (contains_in x g.gates p.0) (contains_in y g.gates q.0) (p.1 ∙ sym q.1)

-- A variable has one level.
pub level_is_one : (g : Aig) (v i j : ℕ) → IsWellFormed g → IsLevel g.gates v i → IsLevel g.gates v j → j ≡ i
level_is_one g v i j well p q = (one_level g.gates (gates_apart g well) v i p).1 j q

-- ---- operands

pub length-operands : (g : Aig) (s : Sides) → HasShapeFor s.claim.widths g → AreOperandsOf g s →
    (length s.a ≡ a_width s.claim.widths g) × (length s.b ≡ b_width s.claim.widths g)
length-operands g s shape h = (ap (λ z. length z.a) h ∙ length-a_literals s.claim.widths s.claim.order g shape, ap (λ z. length z.b) h ∙ length-b_literals s.claim.widths s.claim.order g shape)

-- A product on each evaluation is the product of all operands, as whole numbers.
pub whole_from_evaluations : (g : Aig) (order : Order) → HasMultiplierShape g → IsDefinedOnce g → IsAcyclic g.gates →
    ((σ : Assignment) → IsEvaluation g.gates σ → word σ g.outputs ≡ word σ (a_bits order g) * word σ (b_bits order g)) → MultipliesWhole g order
whole_from_evaluations g order shape once acyclic h a b below_a below_b =
    let bits = inputs_of order (width g) a b in
    h (evaluated g bits) (evaluated_is g bits once acyclic) ∙ claim_is g order a b shape once below_a below_b
