-- A store of the clauses of gates, one gate after the other.
use Rattle.std.specs.Prelude.{◌≡◌, ℕ, zero, suc, ◌+◌, ◌≤◌, ◌<◌, List, [], ◌∷◌, ◌++◌, length, take, slice_index_or}
use Rattle.std.specs.List.{filter_map}
use Rattle.std.proofs.Common.{refl, sym, ap, subst, ◌∙◌, arith, append_assoc}
use Rattle.std.proofs.lemmas.List.{append-nil}
use Rattle.std.proofs.lemmas.List.Elements.{All-cons, All-nil}
use Rattle.graph_core.specs.declared.gate.Gate.{Gate}
use Rattle.graph_core.specs.Graph.Literals.{variable_of}
use Rattle.clause_core.specs.Clause.{Clause}
use Rattle.clause_core.specs.GateClauses.{AreGatesWithin, clause_of, gate_clauses, gate_literals}
use Rattle.clause_core.specs.Likeness.{AreSameSets}
use Rattle.miter_encoder.proofs.Appending.{gate_clauses-more, same_append}
use Rattle.drup_checker.specs.Checking.{Held, HoldsGates, Numbered, held_more, held_with, unnumbered}

-- one gate of those within
pub one_within : (max : ℕ) (gates : List Gate) (n : ℕ) (d : Gate) → n < length gates → AreGatesWithin max gates → AreGatesWithin max (slice_index_or gates n d ∷ [])
one_within max gates n d below within = record {
  own = All-cons (λ (x : Gate). (1 ≤ x.v) × (x.v ≤ max)) (slice_index_or gates n d) [] (within.own n d below) (All-nil (λ (x : Gate). (1 ≤ x.v) × (x.v ≤ max)));
  operands = All-cons (λ (x : Gate). (variable_of x.left ≤ max) × (variable_of x.right ≤ max)) (slice_index_or gates n d) [] (within.operands n d below)
      (All-nil (λ (x : Gate). (variable_of x.left ≤ max) × (variable_of x.right ≤ max)));
}

unnumbered-append : (cs ds : List Clause) → unnumbered cs ++ unnumbered ds ≡ unnumbered (cs ++ ds)
unnumbered-append [] ds = refl
unnumbered-append (c ∷ cs) ds = ap (λ (xs : List Numbered). record { clause = c; number = 0 } ∷ xs) (unnumbered-append cs ds)

gates_more : (gates : List Gate) (n : ℕ) (d : Gate) → n < length gates → gate_clauses (take (n + 1) gates) ≡ gate_clauses (take n gates) ++ gate_clauses (slice_index_or gates n d ∷ [])
gates_more gates n d below =
    gate_clauses-more gates n d below ∙ ap (λ ls. gate_clauses (take n gates) ++ filter_map clause_of ls) (sym (append-nil (gate_literals (slice_index_or gates n d))))

-- the clauses of one gate more
pub holds_more : (max : ℕ) (gates : List Gate) (n : ℕ) (d : Gate) (now next : Held) (own : List Clause) → n < length gates → HoldsGates max (take n gates) now → AreSameSets own (gate_clauses (slice_index_or gates n d ∷ []))
    → next ≡ held_more now own → HoldsGates max (take (n + 1) gates) next
holds_more max gates n d now next own below holds same is = (
  holds.0 ++ own,
  subst (AreSameSets (holds.0 ++ own)) (sym (gates_more gates n d below)) (same_append holds.0 own (gate_clauses (take n gates)) (gate_clauses (slice_index_or gates n d ∷ [])) holds.1 same),
  is ∙ ap (λ (h : Held). held_more h own) holds.2 ∙ (λ i. record { max = max; live = holds.0 ++ own; numbered = unnumbered-append holds.0 own i }),
)

take_more : (cs : List Clause) (n : ℕ) (d : Clause) → n < length cs → take (n + 1) cs ≡ take n cs ++ slice_index_or cs n d ∷ []
take_more [] n d below = absurd (omega arith)
take_more (c ∷ cs) zero d below = refl
take_more (c ∷ cs) (suc n) d below =
    let up : suc n + 1 ≡ suc (n + 1) = omega arith in
    ap (λ m. take m (c ∷ cs)) up ∙ ap (λ (zs : List Clause). c ∷ zs) (take_more cs n d (omega arith))

-- one clause of a list more
pub more_by_one : (h now next : Held) (cs : List Clause) (n : ℕ) (d : Clause) → n < length cs → now ≡ held_more h (take n cs) → next ≡ held_with now (slice_index_or cs n d) 0 → next ≡ held_more h (take (n + 1) cs)
more_by_one h now next cs n d below was is =
    let one = slice_index_or cs n d in
    let taken : take n cs ++ one ∷ [] ≡ take (n + 1) cs = sym (take_more cs n d below) in
    is ∙ ap (λ (k : Held). held_with k one 0) was ∙
    (λ i. record {
      max = h.max;
      live = append_assoc h.live (take n cs) (one ∷ []) i;
      numbered = (append_assoc h.numbered (unnumbered (take n cs)) (unnumbered (one ∷ [])) ∙ ap (λ xs. h.numbered ++ xs) (unnumbered-append (take n cs) (one ∷ []))) i;
    }) ∙ ap (held_more h) taken
