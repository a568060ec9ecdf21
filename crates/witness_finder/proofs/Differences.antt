-- What the first difference of two lists of truth values says of the positions of their ones.
use Rattle.std.specs.Prelude.{◌≡◌, ◌≢◌, ℕ, ◌+◌, ◌<◌, ◌≤◌, Bool, true, false, not, List, ◌∷◌, ◌++◌, length, take, drop, get_or, nat_lt, MatchBool}
use Rattle.std.proofs.Common.{sym, ap, subst, ◌∙◌, arith, inl, inr, ⊎_elim, true≢false}
use Rattle.std.proofs.Math.Bool.{beq}
use Rattle.std.proofs.lemmas.Bool.{cases_lt, lt-ltb, le-ltb}
use Rattle.std.proofs.lemmas.List.{drop_more, take_all, take-append-drop}
use Rattle.frontier_core.specs.LeastDifference.{Precedes, ones_from}
use Rattle.frontier_core.proofs.CallerLemmas.{first_difference_precedes}
use Rattle.witness_finder.specs.Positions.{IsNoLater}

-- the answer about two lists of positions
abbrev pub Says : Bool → List ℕ → List ℕ → Type 0
Says r xs ys = MatchBool r (Precedes xs ys) (IsNoLater ys xs)

-- where they are not equally long, the shorter one precedes
pub shorter_precedes : (xs ys : List ℕ) (m n : ℕ) → length xs ≡ m → length ys ≡ n → m ≢ n → Says (nat_lt m n) xs ys
shorter_precedes xs ys m n a b ne =
    ⊎_elim
    (λ lt. subst (λ r. Says r xs ys) (sym (lt-ltb m n lt)) (inl (omega arith)))
    (λ ge. subst (λ r. Says r xs ys) (sym (le-ltb m n ge)) (inr (inl (omega arith))))
    (cases_lt m n)

-- a list around its place i
around : (xs : List Bool) (i : ℕ) (b : Bool) → i < length xs → get_or xs i false ≡ b → xs ≡ take i xs ++ b ∷ drop (i + 1) xs
around xs i b low is = sym (take-append-drop i xs) ∙ ap (λ ys. take i xs ++ ys) (drop_more xs i false low) ∙ ap (λ c. take i xs ++ c ∷ drop (i + 1) xs) is

true_precedes : (xs ys : List Bool) (i : ℕ) → take i xs ≡ take i ys → i < length xs → i < length ys → get_or xs i false ≡ true → get_or ys i false ≡ false →
    length (ones_from 0 xs) ≡ length (ones_from 0 ys) → Precedes (ones_from 0 xs) (ones_from 0 ys)
true_precedes xs ys i same xs_low ys_low xs_is ys_is counts =
    let front = take i xs in
    let one = around xs i true xs_low xs_is in
    let other = around ys i false ys_low ys_is ∙ ap (λ zs. zs ++ false ∷ drop (i + 1) ys) (sym same) in
    let P : List Bool → List Bool → Type 0 = λ us vs. Precedes (ones_from 0 us) (ones_from 0 vs) in
    subst (λ us. P us ys) (sym one)
    (subst (λ vs. P (front ++ true ∷ drop (i + 1) xs) vs) (sym other)
    (first_difference_precedes 0 front (drop (i + 1) xs) (drop (i + 1) ys)
    (ap (λ us. length (ones_from 0 us)) (sym one) ∙ counts ∙ ap (λ us. length (ones_from 0 us)) other)))

-- the one that is true at the first difference precedes
pub first_difference_says : (xs ys : List Bool) (i : ℕ) (b c : Bool) → take i xs ≡ take i ys → i < length xs → i < length ys → get_or xs i false ≡ b → get_or ys i false ≡ c → not (beq b c) ≡ true →
    length (ones_from 0 xs) ≡ length (ones_from 0 ys) → Says b (ones_from 0 xs) (ones_from 0 ys)
first_difference_says xs ys i true true same xs_low ys_low is_b is_c ne counts = absurd (true≢false (sym ne))
first_difference_says xs ys i false false same xs_low ys_low is_b is_c ne counts = absurd (true≢false (sym ne))
first_difference_says xs ys i true false same xs_low ys_low is_b is_c ne counts = true_precedes xs ys i same xs_low ys_low is_b is_c counts
first_difference_says xs ys i false true same xs_low ys_low is_b is_c ne counts = inr (true_precedes ys xs i (sym same) ys_low xs_low is_c is_b (sym counts))

-- without a difference they are the same
pub same_positions : (xs ys : List Bool) (i : ℕ) → take i xs ≡ take i ys → length xs ≤ i → length ys ≤ i → IsNoLater (ones_from 0 ys) (ones_from 0 xs)
same_positions xs ys i same xs_all ys_all = inl (ap (ones_from 0) (sym (take_all i ys ys_all) ∙ sym same ∙ take_all i xs xs_all))
