-- The variables of a ripple-carry adder's gates: they count on, and each reads variables below its own.
use Rattle.std.specs.Prelude.{◌≡◌, ℕ, ◌+◌, ◌*◌, ◌<◌, ◌≤◌, List, [], ◌∷◌, map, length}
use Rattle.std.specs.List.{AllByRecursion}
use Rattle.std.proofs.Common.{refl, sym, subst, arith, inl, inr}
use Rattle.graph_core.specs.declared.literal.Lit.{Lit}
use Rattle.graph_core.specs.Graph.Literals.{constant_false, variable_of, negation_of}
use Rattle.graph_core.proofs.OfGraphs.CallerLemmas.{variable_of-negated}
use Rattle.graph_core.specs.Graph.Positions.{position, carry_after}
use Rattle.ripple_graft.specs.Ripple.{ripple_gates}
use Rattle.ripple_graft.proofs.MoreGates.{IsAbove, IsOne}
use Rattle.graph_core.proofs.OfAiger.CallerLemmas.{Counts, counts_append, placed_count, position_placed}

-- a pair of variables below
abbrev pub IsLowPair : (ℕ → Type 0) → ℕ → Lit × Lit → Type 0
IsLowPair Below low p = ((variable_of p.0 ≤ low) × Below (variable_of p.0)) × ((variable_of p.1 ≤ low) × Below (variable_of p.1))

module _ (Below : ℕ → Type 0) (low high : ℕ) where
  negated_one : (l : Lit) → IsOne Below low (variable_of l) → IsOne Below low (variable_of (negation_of l))
  negated_one l h = subst (IsOne Below low) (sym (variable_of-negated l)) h

  own : (v : ℕ) → low < v → IsOne Below low v
  own v h = inr h

  pub ripple_above : (v : ℕ) (c : Lit) (ps : List (Lit × Lit)) → low ≤ v → v + 7 * length ps ≤ high → variable_of c ≤ v → IsOne Below low (variable_of c) → AllByRecursion (IsLowPair Below low) ps →
      AllByRecursion (IsAbove Below low high) (ripple_gates v c ps)
  ripple_above v c [] a b d k h = tt
  ripple_above v c (p ∷ ps) a b d k h =
      let nx = variable_of-negated p.0 in
      let ny = variable_of-negated p.1 in
      let nc = variable_of-negated c in
      let x = h.0.0.0 in
      let y = h.0.1.0 in
      let kx : IsOne Below low (variable_of p.0) = inl h.0.0.1 in
      let ky : IsOne Below low (variable_of p.1) = inl h.0.1.1 in (
        record { from = omega arith; upto = omega arith; left = omega arith; right = omega arith; left_one = kx; right_one = ky },
        (
          record { from = omega arith; upto = omega arith; left = omega arith; right = omega arith; left_one = negated_one p.0 kx; right_one = negated_one p.1 ky },
          (
            record { from = omega arith; upto = omega arith; left = omega arith; right = omega arith; left_one = inr (omega arith); right_one = inr (omega arith) },
            (
              record { from = omega arith; upto = omega arith; left = omega arith; right = omega arith; left_one = inr (omega arith); right_one = k },
              (
                record { from = omega arith; upto = omega arith; left = omega arith; right = omega arith; left_one = inr (omega arith); right_one = negated_one c k },
                (
                  record { from = omega arith; upto = omega arith; left = omega arith; right = omega arith; left_one = inr (omega arith); right_one = inr (omega arith) },
                  (
                    record { from = omega arith; upto = omega arith; left = omega arith; right = omega arith; left_one = inr (omega arith); right_one = inr (omega arith) },
                    ripple_above (v + 7) (carry_after v) ps (omega arith) (omega arith) (omega arith) (inr (omega arith)) h.1,
                  ),
                ),
              ),
            ),
          ),
        ),
      )

pub ripple_counts : (v : ℕ) (c : Lit) (ps : List (Lit × Lit)) → Counts (v + 1) (map (λ x. x.v) (ripple_gates v c ps))
ripple_counts v c [] = tt
ripple_counts v c (p ∷ ps) =
    let rest : List ℕ = map (λ x. x.v) (ripple_gates (v + 7) (carry_after v) ps) in
    let own : List ℕ = map (λ x. x.v) (position v constant_false constant_false constant_false) in
    counts_append (v + 1) own rest
    (subst (λ k. Counts k own) (omega arith) (placed_count v (position v constant_false constant_false constant_false) (position_placed v constant_false constant_false constant_false (omega arith) (omega arith) (omega arith))))
    (subst (λ k. Counts k rest) (omega arith) (ripple_counts (v + 7) (carry_after v) ps))

pub length-ripple_gates : (v : ℕ) (c : Lit) (ps : List (Lit × Lit)) → length (ripple_gates v c ps) ≡ 7 * length ps
length-ripple_gates v c [] = refl
length-ripple_gates v c (p ∷ ps) = omega (arith, length-ripple_gates (v + 7) (carry_after v) ps)
