-- A line that isn't too long, and what stands after it.
use Rattle.std.proofs.Common.{◌≡◌, ℕ, ◌+◌, ◌<◌, ◌≤◌, Bool, true, false, cond, ◌==◌, List, [], ◌∷◌, ◌++◌, length, refl, ap, subst, arith, inr, eqb-true}
use Rattle.graph_core.specs.Text.JudgedLines.{IsTooLong, Lengths, behind_line}
use Rattle.graph_core.specs.Text.{newline}
use Rattle.graph_core.proofs.OfTexts.CallerLemmas.{HasNoNewline}

behind_is : (line rest : List ℕ) → HasNoNewline line → behind_line (line ++ newline ∷ rest) ≡ rest
behind_is [] rest none = refl
behind_is (b ∷ line) rest none = go (b == newline) refl (behind_is line rest none.1)
  where
    go : (c : Bool) → (b == newline) ≡ c → behind_line (line ++ newline ∷ rest) ≡ rest → cond c (line ++ newline ∷ rest) (behind_line (line ++ newline ∷ rest)) ≡ rest
    go true e same = absurd (none.0 (eqb-true b newline e))
    go false e same = same

-- what stands before the rest is within the file's limit
pub within_behind : (lengths : Lengths) (total : ℕ) (left line rest : List ℕ) → HasNoNewline line → left ≡ line ++ newline ∷ rest → ¬ (IsTooLong lengths total left) → total ≤ lengths.file + length rest
within_behind lengths total left line rest none is short =
    let behind : length (behind_line (line ++ newline ∷ rest)) ≡ length rest = ap length (behind_is line rest none) in
    let few : lengths.file + length (behind_line (line ++ newline ∷ rest)) < total → ⊥ = λ many. subst (λ (l : List ℕ). ¬ (IsTooLong lengths total l)) is short (inr many) in
    omega (arith, few, behind)
