use Rattle.std.proofs.Common.{◌≡◌, ◌≤◌, ◌∙◌, ℕ, zero, suc, List, [], ◌∷◌, length, get_or, take, refl, arith}
use Rattle.poly_terms.proofs.monomial.front.Goals as goal

first_four : (xs : List ℕ) (n : ℕ) → n ≤ 4 → 4 ≤ length xs → take n (get_or xs 0 0 ∷ get_or xs 1 0 ∷ get_or xs 2 0 ∷ get_or xs 3 0 ∷ []) ≡ take n xs
first_four [] n h k = absurd (omega arith)
first_four (a ∷ []) n h k = absurd (omega arith)
first_four (a ∷ b ∷ []) n h k = absurd (omega arith)
first_four (a ∷ b ∷ c ∷ []) n h k = absurd (omega arith)
first_four (a ∷ b ∷ c ∷ d ∷ xs) zero h k = refl
first_four (a ∷ b ∷ c ∷ d ∷ xs) (suc zero) h k = refl
first_four (a ∷ b ∷ c ∷ d ∷ xs) (suc (suc zero)) h k = refl
first_four (a ∷ b ∷ c ∷ d ∷ xs) (suc (suc (suc zero))) h k = refl
first_four (a ∷ b ∷ c ∷ d ∷ xs) (suc (suc (suc (suc zero)))) h k = refl
first_four (a ∷ b ∷ c ∷ d ∷ xs) (suc (suc (suc (suc (suc n))))) h k = absurd (omega arith)

pub returns-then-count-le-FEW : goal.returns-then-count-le-FEW
returns-then-count-le-FEW c = c.from_buf_and_len.ensures.items ∙ first_four c.args.both.now c.args.count c.if-count-le-FEW.true (omega (arith, c.told-both))
