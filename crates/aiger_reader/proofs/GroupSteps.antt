-- What the groups of seven bits of a number are worth.
use Rattle.std.proofs.Common.{◌≡◌, ℕ, ◌<◌, ◌≤◌, ◌*◌, ◌^◌, suc, zero, arith}
use native.Mathlib.Nat.{mul-le-mul}

-- The weight of the fifth group is the greatest.
weight_below : (i : ℕ) → i ≤ 4 → 128 ^ i ≤ 268435456
weight_below zero h = omega arith
weight_below (suc zero) h = omega arith
weight_below (suc (suc zero)) h = omega arith
weight_below (suc (suc (suc zero))) h = omega arith
weight_below (suc (suc (suc (suc zero)))) h = omega arith
weight_below (suc (suc (suc (suc (suc i))))) h = absurd (omega arith)

pub weight_small : (w i : ℕ) → w ≡ 128 ^ i → i ≤ 4 → w ≤ 268435456
weight_small w i is few = rw is (weight_below i few)

-- a group's bits with their weight
pub group_small : (w i b : ℕ) → w ≡ 128 ^ i → i ≤ 4 → b < 256 → w * b ≤ 268435456 * 255
group_small w i b is few small = mul-le-mul (weight_small w i is few) (let low : b ≤ 255 = omega (arith, small) in low)
