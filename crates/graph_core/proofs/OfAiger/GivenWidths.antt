-- How many inputs and outputs a graph with operands of given widths has.
use Rattle.std.specs.Prelude.{◌≡◌, ℕ, ◌+◌, ◌/◌, ◌<◌, ◌≤◌, Bool, true, false, cond, nat_lt, ◌&&◌}
use Rattle.std.proofs.Common.{refl, ap₂, arith}
use Rattle.std.proofs.lemmas.Bool.{lt-ltb, ltb-true}
use Rattle.graph_core.specs.Graph.Operands.{addend_width}
use Rattle.graph_core.specs.Aiger.{are_widths, given_inputs}

and_true : (p q : Bool) → (p && q) ≡ true → (p ≡ true) × (q ≡ true)
and_true true q h = (refl, h)
and_true false q h = absurd (cc)

between : (a : ℕ) → (nat_lt 0 a && nat_lt a 65) ≡ true → (1 ≤ a) × (a ≤ 64)
between a h =
    let both = and_true (nat_lt 0 a) (nat_lt a 65) h in
    let some = ltb-true 0 a both.0 in
    let few = ltb-true a 65 both.1 in
    (omega arith, omega arith)

-- both are widths
pub both_widths : (a b : ℕ) → are_widths a b ≡ true → ((1 ≤ a) × (a ≤ 64)) × ((1 ≤ b) × (b ≤ 64))
both_widths a b h =
    let both = and_true (nat_lt 0 a && nat_lt a 65) (nat_lt 0 b && nat_lt b 65) h in
    (between a both.0, between b both.1)

pub widths_fit : (a b : ℕ) → 1 ≤ a → a ≤ 64 → 1 ≤ b → b ≤ 64 → are_widths a b ≡ true
widths_fit a b some_a few_a some_b few_b = ap₂ ◌&&◌ (fits a some_a few_a) (fits b some_b few_b)
  where
    fits : (n : ℕ) → 1 ≤ n → n ≤ 64 → (nat_lt 0 n && nat_lt n 65) ≡ true
    fits n some few = ap₂ ◌&&◌ (lt-ltb 0 n (omega (arith, some))) (lt-ltb n 65 (omega (arith, few)))

-- a number from a least to a greatest one, where these are 1 and 0 but for a test that is true
pub passed : (t : Bool) (n i : ℕ) → cond t n 1 ≤ i → i ≤ cond t n 0 → (t ≡ true) × (i ≡ n)
passed true n i low high = (refl, omega (arith, low, high))
passed false n i low high = absurd (omega (arith, low, high))

-- at most as many outputs as the operands have bits
pub outputs_low : (add : Bool) (n i o : ℕ) → i ≡ n + addend_width add n → o ≤ cond add (i / 2) i → o ≤ n
outputs_low false n i o e h = omega (arith, e, h)
outputs_low true n i o e h = omega (arith, e, h)

pub outputs_fit : (add : Bool) (n i o : ℕ) → i ≡ n + addend_width add n → o ≤ n → o ≤ cond add (i / 2) i
outputs_fit false n i o e h = omega (arith, e, h)
outputs_fit true n i o e h = omega (arith, e, h)

-- ---- bounds for all widths

inputs_low : (a b : ℕ) (add : Bool) → are_widths a b ≡ true → given_inputs a b add ≤ 256
inputs_low a b false fits =
    let w = both_widths a b fits in
    let x : a ≤ 64 = w.0.1 in
    let y : b ≤ 64 = w.1.1 in
    omega arith
inputs_low a b true fits =
    let w = both_widths a b fits in
    let x : a ≤ 64 = w.0.1 in
    let y : b ≤ 64 = w.1.1 in
    omega arith

chosen_low : (t : Bool) (n i : ℕ) → (t ≡ true → n ≤ 256) → i ≤ cond t n 0 → i ≤ 256
chosen_low true n i few h = let low = few refl in omega (arith, h)
chosen_low false n i few h = omega (arith, h)

halved : (add : Bool) (i : ℕ) → i ≤ 256 → cond add (i / 2) i ≤ 256
halved true i h = omega (arith, h)
halved false i h = h

pub few_given_inputs : (a b : ℕ) (add : Bool) (i : ℕ) → i ≤ cond (are_widths a b) (given_inputs a b add) 0 → i ≤ 256
few_given_inputs a b add i h = chosen_low (are_widths a b) (given_inputs a b add) i (inputs_low a b add) h

pub few_given_outputs : (a b : ℕ) (add : Bool) (i : ℕ) → i ≤ cond (are_widths a b) (given_inputs a b add) 0 → cond add (i / 2) i ≤ 256
few_given_outputs a b add i h = halved add i (few_given_inputs a b add i h)
