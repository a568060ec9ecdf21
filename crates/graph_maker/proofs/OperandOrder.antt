-- The order of a gate's operands changes no value.
use Rattle.std.specs.Prelude.{◌≡◌, ℕ, zero, suc, ◌+◌, ◌*◌, ◌^◌, ◌/◌, ◌<◌, Some, Bool, true, false, cond, ◌&&◌, ◌==◌, nat_lt, List, [], ◌∷◌, ◌++◌, map, length, take, drop, ◌%◌}
use Rattle.std.specs.List.{find}
use Rattle.std.proofs.Common.{refl, sym, ap, ap₂, subst, ◌∙◌}
use Rattle.std.proofs.Math.Bool.{and_comm}
use Rattle.std.proofs.lemmas.List.{length-map}
use Rattle.graph_core.specs.declared.literal.Lit.{Lit}
use Rattle.graph_core.specs.declared.gate.Gate.{Gate}
use Rattle.graph_core.specs.declared.order.Order.{Order}
use Rattle.graph_core.specs.Graph.Literals.{variable_of}
use Rattle.graph_core.specs.Graph.Assignments.{Assignment, literal, bit, word}
use Rattle.graph_core.specs.Graph.{Aig, SameUpToOperands, computed, evaluated, greater_first, of_inputs, round, rounds}
use Rattle.graph_core.specs.declared.claim.Claim.{Claim}
use Rattle.graph_core.specs.declared.order.Order.TheVariants.{Separate, Interleaved}
use Rattle.graph_core.specs.declared.widths.Widths.{Widths}
use Rattle.graph_core.specs.declared.widths.Widths.TheVariants.{Equal, Given}
use Rattle.graph_core.specs.Graph.Operands.{Does, DoesWith, a_literals, a_part, b_literals, b_part, c_literals, claimed_at, evens, inputs_at, odds, sides_for, value_at_inputs}
use Rattle.graph_core.proofs.OfGraphs.CallerLemmas.{literal_same}
use Rattle.graph_maker.specs.OperandOrder.{OrderOfOperandsIsFree}

own_variable : (x : Gate) → (greater_first x).v ≡ x.v
own_variable x = go (nat_lt x.left.0 x.right.0)
  where
    go : (c : Bool) → (cond c (record { v = x.v; left = x.right; right = x.left }) x).v ≡ x.v
    go true = refl
    go false = refl

module _ (σ τ : Assignment) (same : (v : ℕ) → σ v ≡ τ v) where
  literals_same : (l : Lit) → literal σ l ≡ literal τ l
  literals_same l = literal_same σ τ l (same (variable_of l))

  gate_same : (x : Gate) → (literal σ x.left && literal σ x.right) ≡ (literal τ (greater_first x).left && literal τ (greater_first x).right)
  gate_same x = go (nat_lt x.left.0 x.right.0)
    where
      go : (c : Bool) → (literal σ x.left && literal σ x.right) ≡
          (literal τ (cond c (record { v = x.v; left = x.right; right = x.left }) x).left && literal τ (cond c (record { v = x.v; left = x.right; right = x.left }) x).right)
      go true = ap₂ ◌&&◌ (literals_same x.left) (literals_same x.right) ∙ and_comm (literal τ x.left) (literal τ x.right)
      go false = ap₂ ◌&&◌ (literals_same x.left) (literals_same x.right)

  -- a round over the gates is one over those with the greater operand first
  round_sorted : (gates : List Gate) (v : ℕ) → round gates σ v ≡ round (map greater_first gates) τ v
  round_sorted [] v = same v
  round_sorted (x ∷ gates) v =
      go (round_sorted gates v) (x.v == v) ∙
      ap (λ w. computed τ v (cond (w == v) (Some (greater_first x)) (find (λ y. y.v == v) (map greater_first gates)))) (sym (own_variable x))
    where
      go : round gates σ v ≡ round (map greater_first gates) τ v → (c : Bool) → computed σ v (cond c (Some x) (find (λ y. y.v == v) gates)) ≡
          computed τ v (cond c (Some (greater_first x)) (find (λ y. y.v == v) (map greater_first gates)))
      go behind true = gate_same x
      go behind false = behind

  words_same : (ls : List Lit) → word σ ls ≡ word τ ls
  words_same [] = refl
  words_same (l ∷ ls) = ap₂ (λ b n. bit b + 2 * n) (literals_same l) (words_same ls)

rounds_same : (xs ys : List Gate) → map greater_first xs ≡ map greater_first ys → (σ τ : Assignment) → ((v : ℕ) → σ v ≡ τ v) → (t v : ℕ) → rounds t xs σ v ≡ rounds t ys τ v
rounds_same xs ys e σ τ same zero v = same v
rounds_same xs ys e σ τ same (suc t) v =
    let ρ = rounds t ys τ in
    round_sorted (rounds t xs σ) ρ (rounds_same xs ys e σ τ same t) xs v ∙
    ap (λ zs. round zs ρ v) e ∙
    sym (round_sorted ρ ρ (λ w. refl) ys v)

module _ (g h : Aig) (same : SameUpToOperands g h) where
  as_many : length g.gates ≡ length h.gates
  as_many = sym (length-map g.gates greater_first) ∙ ap length same.3 ∙ length-map h.gates greater_first

  evaluated_same : (bits : List Bool) (v : ℕ) → evaluated g bits v ≡ evaluated h bits v
  evaluated_same bits v =
      rounds_same g.gates h.gates same.3 (of_inputs g.inputs bits) (of_inputs h.inputs bits) (λ w. ap (λ ls. of_inputs ls bits w) same.1) (length g.gates) v ∙
      ap (λ n. rounds n h.gates (of_inputs h.inputs bits) v) as_many

  values_same : (bits : List Bool) → value_at_inputs g bits ≡ value_at_inputs h bits
  values_same bits = words_same (evaluated g bits) (evaluated h bits) (evaluated_same bits) g.outputs ∙ ap (word (evaluated h bits)) same.2

-- the operands are read from the same inputs
module _ (g h : Aig) (same : g.inputs ≡ h.inputs) where
  a_same : (w : Widths) (order : Order) → a_literals w order g ≡ a_literals w order h
  a_same (Equal false) Separate = ap (λ ls. take (length ls / 2) ls) same
  a_same (Equal false) Interleaved = ap evens same
  a_same (Equal true) order = ap (λ ls. a_part order (length ls / 4) (take (2 * (length ls / 4)) ls)) same
  a_same (Given a b add) order = ap (take a) same

  b_same : (w : Widths) (order : Order) → b_literals w order g ≡ b_literals w order h
  b_same (Equal false) Separate = ap (λ ls. drop (length ls / 2) ls) same
  b_same (Equal false) Interleaved = ap odds same
  b_same (Equal true) order = ap (λ ls. b_part order (length ls / 4) (take (2 * (length ls / 4)) ls)) same
  b_same (Given a b add) order = ap (λ ls. take b (drop a ls)) same

  c_same : (w : Widths) → c_literals w g ≡ c_literals w h
  c_same (Equal false) = refl
  c_same (Equal true) = ap (λ ls. drop (2 * (length ls / 4)) ls) same
  c_same (Given a b add) = ap (λ ls. drop b (drop a ls)) same

  sides_same : (k : Claim) → sides_for k g ≡ sides_for k h
  sides_same k = λ i. record { claim = k; a = a_same k.widths k.order i; b = b_same k.widths k.order i; c = c_same k.widths i }

carried : (g h : Aig) (k : Claim) → SameUpToOperands g h → Does k g → Does k h
carried g h k same does = subst (DoesWith h) (sides_same g h same.1 k) over
  where
    over : DoesWith h (sides_for k g)
    over x range =
        sym (values_same g h same (inputs_at (sides_for k g) x)) ∙ does x range ∙
        ap (λ os. claimed_at (2 ^ length os) (sides_for k g) x % 2 ^ length os) same.2

pub order_of_operands_is_free : OrderOfOperandsIsFree
order_of_operands_is_free g h claim same = (carried g h claim same, carried h g claim (sym same.0, sym same.1, sym same.2, sym same.3))
