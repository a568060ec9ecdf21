-- Up to 64 bits a made graph is a packed one.
use Rattle.std.specs.Prelude.{ℕ, zero, suc, ◌+◌, ◌*◌, ◌<◌, ◌≤◌, true, false, cond, List, [], ◌∷◌, map, length, nat_lt}
use Rattle.std.proofs.Common.{refl, sym, ap, subst, ◌∙◌, arith}
use Rattle.std.proofs.lemmas.List.{length-map}
use Rattle.std.proofs.lemmas.List.Elements.{All-from_recursion, All-weaker}
use Rattle.graph_core.specs.declared.gate.Gate.{Gate}
use Rattle.graph_core.specs.Graph.Literals.{variable_of}
use Rattle.graph_core.specs.Graph.{Aig, greater_first}
use Rattle.graph_core.specs.Aiger.Writing.{written, written_gate}
use Rattle.graph_core.specs.Aiger.{AreConsecutive, ArePackedGates, IsPacked, given_inputs}
use Rattle.graph_core.proofs.OfAiger.CallerLemmas.{ArePlaced, widths_fit}
use Rattle.graph_maker.specs.Builder.{literals_from}
use Rattle.graph_maker.specs.Made.{made, MadeArePacked}
use Rattle.graph_maker.specs.MadeOfWidths.{made_of, MadeOfArePacked}
use Rattle.graph_maker.proofs.ArrayAdds.{length-literals_from}
use Rattle.graph_maker.proofs.MadeMultiplies.{numbered, full, shape, width_is}
use Rattle.graph_maker.proofs.Numbered.{IsNumbered}
use Rattle.graph_maker.proofs.ProductOfWidths.{product_few, product_long, product_numbered}

-- with the greater operand first both are as low
sorted_low : (x : Gate) (n : ℕ) → x.left.0 < n → x.right.0 < n → ((greater_first x).left.0 < n) × ((greater_first x).right.0 < n)
sorted_low x n left right =
    elim (nat_lt x.left.0 x.right.0) as (λ b. ((cond b (record { v = x.v; left = x.right; right = x.left }) x).left.0 < n) × ((cond b (record { v = x.v; left = x.right; right = x.left }) x).right.0 < n))
    [ true ↦ (right, left) | false ↦ (left, right) ]

pub literals_consecutive : (v n : ℕ) → AreConsecutive (2 * v) (literals_from v n)
literals_consecutive v zero = tt
literals_consecutive v (suc n) = (refl, subst (λ k. AreConsecutive k (literals_from (v + 1) n)) (omega arith) (literals_consecutive (v + 1) n))

pub gates_packed : (v : ℕ) (gates : List Gate) → ArePlaced v gates → ArePackedGates (2 * v + 2) (map written_gate gates)
gates_packed v [] h = tt
gates_packed v (x ∷ gates) h =
    let low = sorted_low x (2 * v + 2) (omega (arith, h.1)) (omega (arith, h.2)) in
    (omega (arith, h.0), low.0, low.1, subst (λ k. ArePackedGates k (map written_gate gates)) (omega arith) (gates_packed (suc v) gates h.3))

-- What is written for a graph of numbered gates is packed, and has room for its inputs and gates.
pub numbered_packed : (m : ℕ) (g : Aig) → IsNumbered m g → IsPacked (written g)
numbered_packed m g built =
    let inputs = ap length built.inputs ∙ length-literals_from 1 m in
    let gates = length-map g.gates written_gate in
    record {
      inputs = subst (AreConsecutive 2) (sym built.inputs) (literals_consecutive 1 m);
      gates = subst (λ k. ArePackedGates k (map written_gate g.gates)) (omega (arith, inputs)) (gates_packed m g.gates built.gates);
      max = omega (arith, inputs, gates, built.max);
      outputs = All-weaker (λ l. variable_of l ≤ g.max) (λ l. l.0 ≤ 2 * g.max + 1) (λ l h. omega arith) g.outputs (All-from_recursion (λ l. variable_of l ≤ g.max) g.outputs built.outputs);
    }

pub made_are_packed : MadeArePacked
made_are_packed kind n adder pos small =
    let inputs = length-literals_from 1 (2 * n) in
    let packed = numbered_packed (2 * n) (made kind n adder) (numbered kind n adder pos) in
    record {
      counts = record {
        max = omega (arith, product_few (2 * n) kind n n adder pos pos small small);
        step = omega (arith, inputs);
        some = omega (arith, inputs);
        few = omega (arith, inputs);
        some_outputs = omega (arith, full kind n adder pos, pos);
        outputs = omega (arith, full kind n adder pos, (shape kind n adder pos).inputs, width_is kind n adder pos);
        room = omega (arith, packed.max);
      };
      packed = packed;
    }

pub made_of_are_packed : MadeOfArePacked
made_of_are_packed kind m n adder pos some narrow small =
    let inputs = length-literals_from 1 (m + n) in
    let outputs = product_long (m + n) kind m n adder pos some in
    let packed = numbered_packed (m + n) (made_of kind m n adder) (product_numbered (m + n) kind m n adder pos some (omega arith)) in
    let fit = sym (widths_fit m n (omega (arith, pos)) narrow (omega (arith, some)) small) in
    record {
      counts = record {
        max = omega (arith, product_few (m + n) kind m n adder pos some narrow small);
        step = omega arith;
        some = subst (λ t. cond t (given_inputs m n false) 1 ≤ length (literals_from 1 (m + n))) fit (omega (arith, inputs));
        few = subst (λ t. length (literals_from 1 (m + n)) ≤ cond t (given_inputs m n false) 0) fit (omega (arith, inputs));
        some_outputs = omega (arith, outputs, pos);
        outputs = omega (arith, outputs, inputs);
        room = omega (arith, packed.max);
      };
      packed = packed;
    }
