-- The bits of operands one by one, and the number of a list of literals from its end.
use Rattle.std.specs.Prelude.{◌≡◌, ℕ, zero, suc, ◌+◌, ◌-◌, ◌*◌, ◌/◌, ◌%◌, ◌^◌, ◌<◌, ◌≤◌, Bool, List, [], ◌∷◌, ◌++◌, drop, length, get_or, slice_index_or, ◌==◌}
use Rattle.std.proofs.Common.{sym, ap, subst, ◌∙◌, arith, pow-suc, length-drop, append_assoc}
use Rattle.std.proofs.Math.Nat.{pow-le-pow_right}
use Rattle.std.proofs.lemmas.List.{drop_more}
use Rattle.std.proofs.lemmas.List.Elements.{Contains-get_or}
use Rattle.std.specs.List.{All}
use Rattle.graph_core.specs.declared.literal.Lit.{Lit}
use Rattle.graph_core.specs.Graph.Assignments.{Assignment, literal, bit, word}
use Rattle.graph_core.specs.Graph.{Aig, IsBuilt}
use Rattle.graph_core.specs.Graph.Literals.{variable_of}
use Rattle.graph_core.specs.Graph.Operands.{alternate, bits_of}
use Rattle.graph_core.proofs.OfGraphs.OperandPlaces.{bit_low}
use Rattle.graph_core.proofs.OfGraphs.WellFormedGates.{output_in_range}

-- one more bit
pub bits_more : (front : List Bool) (n k left : ℕ) → k < n → front ++ bits_of (n - k) left ≡ (front ++ (left % 2 == 1) ∷ []) ++ bits_of (n - (k + 1)) (left / 2)
bits_more front n k left h =
    let more : n - k ≡ suc (n - (k + 1)) = omega arith in
    ap (λ m. front ++ bits_of m left) more ∙ sym (append_assoc front ((left % 2 == 1) ∷ []) (bits_of (n - (k + 1)) (left / 2)))

-- one more bit of each
pub alternate_more : (front : List Bool) (n k a b : ℕ) → k < n →
    front ++ alternate (bits_of (n - k) a) (bits_of (n - k) b) ≡
    ((front ++ (a % 2 == 1) ∷ []) ++ (b % 2 == 1) ∷ []) ++ alternate (bits_of (n - (k + 1)) (a / 2)) (bits_of (n - (k + 1)) (b / 2))
alternate_more front n k a b h =
    let more : n - k ≡ suc (n - (k + 1)) = omega arith in
    let rest = alternate (bits_of (n - (k + 1)) (a / 2)) (bits_of (n - (k + 1)) (b / 2)) in
    ap (λ m. front ++ alternate (bits_of m a) (bits_of m b)) more ∙
    sym (append_assoc front ((a % 2 == 1) ∷ []) ((b % 2 == 1) ∷ rest)) ∙
    sym (append_assoc (front ++ (a % 2 == 1) ∷ []) ((b % 2 == 1) ∷ []) rest)

pub word_low : (σ : Assignment) (ls : List Lit) → word σ ls < 2 ^ length ls
word_low σ [] = omega arith
word_low σ (l ∷ ls) = omega (arith, word_low σ ls, bit_low (literal σ l), pow-suc 2 (length ls))

-- there is room for one more bit below
pub word_fits : (σ : Assignment) (ls : List Lit) (k : ℕ) → 0 < k → length ls ≤ 128 → word σ (drop k ls) < 2 ^ 127
word_fits σ ls k some narrow =
    let low = word_low σ (drop k ls) in
    let size = length-drop k ls in
    let short : length (drop k ls) ≤ 127 = omega arith in
    let pow : 2 ^ length (drop k ls) ≤ 2 ^ 127 = pow-le-pow_right {n = 2} (omega arith) short in
    omega arith

-- one more bit below
pub word_step : (σ : Assignment) (ls : List Lit) (k : ℕ) (d : Lit) → 0 < k → k ≤ length ls →
    2 * word σ (drop k ls) + bit (literal σ (get_or ls (k - 1) d)) ≡ word σ (drop (k - 1) ls)
word_step σ ls zero d some h = absurd (omega arith)
word_step σ ls (suc k) d some h =
    let here : suc k - 1 ≡ k = omega arith in
    let next : k + 1 ≡ suc k = omega arith in
    let more = ap (word σ) (drop_more ls k d (omega arith)) in
    let rest : word σ (drop (k + 1) ls) ≡ word σ (drop (suc k) ls) = ap (λ j. word σ (drop j ls)) next in
    let there : word σ (drop (suc k - 1) ls) ≡ word σ (drop k ls) = ap (λ j. word σ (drop j ls)) here in
    let same : bit (literal σ (get_or ls (suc k - 1) d)) ≡ bit (literal σ (get_or ls k d)) = ap (λ j. bit (literal σ (get_or ls j d))) here in
    omega arith

-- the outputs of a built graph are in range
pub outputs_below : (g : Aig) → IsBuilt g → (ls : List Lit) → ls ≡ g.outputs → All (λ l. variable_of l ≤ g.max) ls
outputs_below g built ls same = subst (All (λ l. variable_of l ≤ g.max)) (sym same) below
  where
    below : All (λ l. variable_of l ≤ g.max) g.outputs
    below k d h = let low = output_in_range g built.well_formed (slice_index_or g.outputs k d) (Contains-get_or g.outputs k d h) in omega arith
