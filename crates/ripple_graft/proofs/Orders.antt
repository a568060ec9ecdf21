-- Gates that are numbered above what they read have an order.
use Rattle.std.specs.Prelude.{◌≡◌, ℕ, zero, suc, ◌+◌, ◌<◌, ◌≤◌, Bool, true, false, List, [], ◌∷◌, length, nat_lt, slice_index_or}
use Rattle.std.specs.List.{All}
use Rattle.std.proofs.Common.{ap, arith, ⊎_elim}
use Rattle.std.proofs.lemmas.Bool.{cases_lt, lt-ltb, le-ltb}
use Rattle.graph_core.specs.declared.gate.Gate.{Gate}
use Rattle.graph_core.specs.Graph.Literals.{variable_of}
use Rattle.graph_core.specs.Graph.{IsOrder}

abbrev pub unless : Bool → ℕ
unless true = 0
unless false = 1

-- how many gates are numbered at most as a variable is
abbrev pub rank : List Gate → (ℕ → ℕ) → ℕ → ℕ
rank [] number v = 0
rank (x ∷ gates) number v = unless (nat_lt (number v) (number x.v)) + rank gates number v

unless_below : (b : Bool) → unless b ≤ 1
unless_below true = omega arith
unless_below false = omega arith

rank_below : (gates : List Gate) (number : ℕ → ℕ) (v : ℕ) → rank gates number v ≤ length gates
rank_below [] number v = omega arith
rank_below (x ∷ gates) number v = omega (arith, unless_below (nat_lt (number v) (number x.v)), rank_below gates number v)

unless_more : (a b c : ℕ) → a ≤ b → unless (nat_lt a c) ≤ unless (nat_lt b c)
unless_more a b c h =
    ⊎_elim
    (λ lt. let one : unless (nat_lt a c) ≡ 0 = ap unless (lt-ltb a c lt) in omega arith)
    (λ ge. let one : unless (nat_lt b c) ≡ 1 = ap unless (le-ltb b c (omega arith)) in omega (arith, unless_below (nat_lt a c)))
    (cases_lt a c)

rank_more : (gates : List Gate) (number : ℕ → ℕ) (v w : ℕ) → number v ≤ number w → rank gates number v ≤ rank gates number w
rank_more [] number v w h = omega arith
rank_more (x ∷ gates) number v w h = omega (arith, unless_more (number v) (number w) (number x.v) h, rank_more gates number v w h)

rank_rises : (gates : List Gate) (number : ℕ → ℕ) (v : ℕ) (k : ℕ) (d : Gate) → k < length gates → number v < number (slice_index_or gates k d).v →
    rank gates number v < rank gates number (slice_index_or gates k d).v
rank_rises [] number v k d h lt = absurd (omega arith)
rank_rises (x ∷ gates) number v zero d h lt =
    let low : unless (nat_lt (number v) (number x.v)) ≡ 0 = ap unless (lt-ltb (number v) (number x.v) lt) in
    let high : unless (nat_lt (number x.v) (number x.v)) ≡ 1 = ap unless (le-ltb (number x.v) (number x.v) (omega arith)) in
    omega (arith, rank_more gates number v x.v (omega arith))
rank_rises (x ∷ gates) number v (suc k) d h lt =
    let y = slice_index_or gates k d in
    omega (arith, unless_more (number v) (number y.v) (number x.v) (omega arith), rank_rises gates number v k d (omega arith) lt)

pub order_from : (gates : List Gate) (number : ℕ → ℕ) → All (λ x. number (variable_of x.left) < number x.v) gates → All (λ x. number (variable_of x.right) < number x.v) gates →
    IsOrder gates (rank gates number)
order_from gates number left right = record {
  left = λ k d h. rank_rises gates number (variable_of (slice_index_or gates k d).left) k d h (left k d h);
  right = λ k d h. rank_rises gates number (variable_of (slice_index_or gates k d).right) k d h (right k d h);
  few = λ k d h. rank_below gates number (slice_index_or gates k d).v;
}
