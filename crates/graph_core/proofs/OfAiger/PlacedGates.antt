-- Gates that are numbered on, each above the variables that it reads.
use Rattle.std.specs.Prelude.{◌≡◌, ℕ, suc, ◌+◌, ◌≤◌, List, [], ◌∷◌, ◌++◌, map, length, ⊤}
use Rattle.std.proofs.Common.{subst, arith}
use Rattle.graph_core.specs.declared.literal.Lit.{Lit}
use Rattle.graph_core.specs.declared.gate.Gate.{Gate}
use Rattle.graph_core.specs.Graph.Literals.{variable_of}
use Rattle.graph_core.specs.Graph.Positions.{position}
use Rattle.graph_core.proofs.OfGraphs.CallerLemmas.{variable_of-negated}
use Rattle.graph_core.proofs.OfAiger.Packed.{Counts}

-- gates numbered on from v, each above the variables that it reads
abbrev pub ArePlaced : ℕ → List Gate → Type 0
ArePlaced v [] = ⊤
ArePlaced v (x ∷ gates) = (x.v ≡ suc v) × (variable_of x.left ≤ v) × (variable_of x.right ≤ v) × ArePlaced (suc v) gates

pub placed-append : (v : ℕ) (xs ys : List Gate) → ArePlaced v xs → ArePlaced (v + length xs) ys → ArePlaced v (xs ++ ys)
placed-append v [] ys a b = subst (λ n. ArePlaced n ys) (omega arith) b
placed-append v (x ∷ xs) ys a b = (a.0, a.1, a.2, placed-append (suc v) xs ys a.3 (subst (λ n. ArePlaced n ys) (omega arith) b))

-- so their variables count on
pub placed_count : (v : ℕ) (gates : List Gate) → ArePlaced v gates → Counts (suc v) (map (λ x. x.v) gates)
placed_count v [] h = tt
placed_count v (x ∷ gates) h = (h.0, placed_count (suc v) gates h.3)

-- one position of a ripple-carry adder
pub position_placed : (v : ℕ) (x y c : Lit) → variable_of x ≤ v → variable_of y ≤ v → variable_of c ≤ v → ArePlaced v (position v x y c)
position_placed v x y c lx ly lc =
    let nx = variable_of-negated x in
    let ny = variable_of-negated y in
    let nc = variable_of-negated c in (
      omega arith,
      lx,
      ly,
      (
        omega arith,
        omega arith,
        omega arith,
        (
          omega arith,
          omega arith,
          omega arith,
          (
            omega arith,
            omega arith,
            omega arith,
            (
              omega arith,
              omega arith,
              omega arith,
              (omega arith, omega arith, omega arith, (omega arith, omega arith, omega arith, tt)),
            ),
          ),
        ),
      ),
    )
