-- Small certificates of the one-bit multiplier: which are lawful, and which are not.
use Rattle.std.specs.Prelude.{◌≡◌, ℕ, ◌%◌, ◌<◌, Bool, true, false, List, [], ◌∷◌, if◌then◌else◌, ◌==◌}
use Rattle.std.specs.List.{All}
use Rattle.std.proofs.Common.{refl, ◌∙◌, arith}
use Rattle.std.proofs.lemmas.List.Elements.{All-from_recursion}
use Rattle.graph_core.specs.declared.order.Order.TheVariants.{Separate}
use Rattle.graph_core.specs.Graph.Assignments.{Assignment}
use Rattle.graph_core.specs.Graph.Operands.{Sides, sides_of}
use Rattle.algebra_core.specs.Polynomials.{Term, Polynomial, value}
use Rattle.graph_core.specs.Graph.Extended.{Extended, without_cut}
use Rattle.algebra_core.specs.AlgebraLines.{Part, Line, Combination, Premises, axioms, combined, AreLawful, IsLive, specification}
use Rattle.graph_core.proofs.OfAiger.CallerLemmas.{one_bit}

abbrev pub plus : ℕ → List ℕ → Term
plus c vs = record { negative = false; coefficient = c; variables = vs }

abbrev pub minus : ℕ → List ℕ → Term
minus c vs = record { negative = true; coefficient = c; variables = vs }

-- an assignment of three variables
abbrev pub three : Bool → Bool → Bool → Assignment
three x y z v = if v == 1 then x else (if v == 2 then y else z)

abbrev pub single : Extended
single = without_cut one_bit

-- of version 1, with nothing to import
abbrev pub premises : Premises
premises = record { version = 1; extended = single; imports = [] }

abbrev pub sides : Sides
sides = sides_of Separate one_bit

-- x3-x1*x2
abbrev pub spec_text : Polynomial
spec_text = plus 1 (3 ∷ []) ∷ minus 1 (1 ∷ 2 ∷ []) ∷ []

-- 6 % 3 * (-1), x3-x1*x2;
abbrev pub negated_gate : List Line
negated_gate = Combination 6 (record { id = 3; factor = minus 1 [] ∷ [] } ∷ []) spec_text ∷ []

abbrev parts_of : Polynomial → List Part
parts_of q = record { id = 3; factor = q } ∷ []

three_is_live : All (IsLive (axioms single).live) (3 ∷ [])
three_is_live = All-from_recursion (IsLive (axioms single).live) (3 ∷ []) (refl, tt)

states : (x y z : Bool) → value 4 spec_text (three x y z) ≡ combined 4 (axioms single).live (record { id = 3; factor = minus 1 [] ∷ [] } ∷ []) (three x y z) % 4
states true true true = refl
states true true false = refl
states true false true = refl
states true false false = refl
states false true true = refl
states false true false = refl
states false false true = refl
states false false false = refl

closes : (x y z : Bool) → value 4 spec_text (three x y z) ≡ specification single sides (three x y z)
closes true true true = refl
closes true true false = refl
closes true false true = refl
closes true false false = refl
closes false true true = refl
closes false true false = refl
closes false false true = refl
closes false false false = refl

pub certificate_is_lawful : AreLawful premises sides negated_gate 6
certificate_is_lawful = ((record { new_id = omega arith; live_operands = three_is_live; there = tt; equal = λ σ. states (σ 1) (σ 2) (σ 3) }, tt), (refl, λ σ. closes (σ 1) (σ 2) (σ 3)))

-- 6 % 3 * (3), x3-x1*x2;  coefficients count modulo 4
tripled : (x y z : Bool) → value 4 spec_text (three x y z) ≡ combined 4 (axioms single).live (parts_of (plus 3 [] ∷ [])) (three x y z) % 4
tripled true true true = refl
tripled true true false = refl
tripled true false true = refl
tripled true false false = refl
tripled false true true = refl
tripled false true false = refl
tripled false false true = refl
tripled false false false = refl

pub tripled_is_lawful : AreLawful premises sides (Combination 6 (parts_of (plus 3 [] ∷ [])) spec_text ∷ []) 6
tripled_is_lawful = ((record { new_id = omega arith; live_operands = three_is_live; there = tt; equal = λ σ. tripled (σ 1) (σ 2) (σ 3) }, tt), (refl, λ σ. closes (σ 1) (σ 2) (σ 3)))

-- x3-x1*x2*x1: a variable times itself is that variable
abbrev pub repeated_text : Polynomial
repeated_text = plus 1 (3 ∷ []) ∷ minus 1 (1 ∷ 2 ∷ 1 ∷ []) ∷ []

same_values : (x y z : Bool) → value 4 repeated_text (three x y z) ≡ value 4 spec_text (three x y z)
same_values true true true = refl
same_values true true false = refl
same_values true false true = refl
same_values true false false = refl
same_values false true true = refl
same_values false true false = refl
same_values false false true = refl
same_values false false false = refl

pub repeated_is_lawful : AreLawful premises sides (Combination 6 (parts_of (minus 1 [] ∷ [])) repeated_text ∷ []) 6
repeated_is_lawful = (
  (record { new_id = omega arith; live_operands = three_is_live; there = tt; equal = λ σ. same_values (σ 1) (σ 2) (σ 3) ∙ states (σ 1) (σ 2) (σ 3) }, tt),
  (refl, λ σ. same_values (σ 1) (σ 2) (σ 3) ∙ closes (σ 1) (σ 2) (σ 3)),
)

-- q 3; the axiom is the negative of the specification
pub axiom_does_not_close : AreLawful premises sides [] 3 → ⊥
axiom_does_not_close h = let e : ◌≡◌ {A = ℕ} 3 1 = h.1.1 (three false false true) in absurd (omega arith)

-- 5 % 3 * (-1), x3-x1*x2; q 5;  new ids are above 5
pub id_is_used : AreLawful premises sides (Combination 5 (parts_of (minus 1 [] ∷ [])) spec_text ∷ []) 5 → ⊥
id_is_used h = let above : 5 < 5 = h.0.0.new_id in absurd (omega arith)
