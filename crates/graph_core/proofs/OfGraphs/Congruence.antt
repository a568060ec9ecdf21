-- Sums and products modulo a number.
use Rattle.std.specs.Prelude.{◌≡◌, ℕ, ◌+◌, ◌*◌, ◌%◌}
use Rattle.std.proofs.Common.{sym, ap₂, ◌∙◌}
use Rattle.std.proofs.Math.Nat.{add-mod}
use Rattle.std.proofs.lemmas.Nat.{mul-mod}

pub sum_same : (m a b c d : ℕ) → a % m ≡ b % m → c % m ≡ d % m → (a + c) % m ≡ (b + d) % m
sum_same m a b c d h k = add-mod a c m ∙ ap₂ (λ x y. (x + y) % m) h k ∙ sym (add-mod b d m)

pub product_same : (m a b c d : ℕ) → a % m ≡ b % m → c % m ≡ d % m → (a * c) % m ≡ (b * d) % m
product_same m a b c d h k = mul-mod a c m ∙ ap₂ (λ x y. (x * y) % m) h k ∙ sym (mul-mod b d m)
