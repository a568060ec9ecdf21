-- A block that fits keeps an extended graph without faults, and each evaluation goes on to one with the block.
use Rattle.std.specs.Prelude.{◌≡◌, ◌≢◌, ℕ, zero, suc, ◌+◌, ◌*◌, ◌<◌, ◌≤◌, ◌⊎◌, List, [], ◌∷◌, map, length, take}
use Rattle.std.specs.List.{AllByRecursion}
use Rattle.std.proofs.Common.{refl, arith, inl, inr, ⊎_elim}
use Rattle.std.proofs.lemmas.List.Elements.{recursion_from_All}
use Rattle.graph_core.specs.declared.literal.Lit.{Lit}
use Rattle.graph_core.specs.declared.gate.Gate.{Gate}
use Rattle.graph_core.specs.Graph.Literals.{variable_of, constant_false}
use Rattle.graph_core.specs.Graph.Extended.{Extended}
use Rattle.graph_core.proofs.OfGraphs.CallerLemmas.{all_weaker}
use Rattle.graph_core.proofs.OfAiger.CallerLemmas.{Counts}
use Rattle.graph_core.specs.Graph.Positions.{sum_after, carry_after}
use Rattle.ripple_graft.specs.Ripple.{ripple_gates, ripple_outputs}
use Rattle.ripple_graft.specs.Extension.{IsExtension, IsKnown, IsReadable}
use Rattle.ripple_graft.specs.Blocks.{Block, EvaluationGoesOn, GraftExtends, IsBlock, block_outputs, graft_block, span}
use Rattle.ripple_graft.proofs.MoreColumns.{AreFree, columns_extend}
use Rattle.ripple_graft.proofs.MoreGates.{IsAbove, IsOf, gates_extend, gates_go_on, known_low, more_gates, one_readable}
use Rattle.ripple_graft.proofs.RippleGates.{IsLowPair, length-ripple_gates, ripple_above, ripple_counts}

take_all : {X : Type 0} (P : X → Type 0) (n : ℕ) (xs : List X) → AllByRecursion P xs → AllByRecursion P (take n xs)
take_all P zero xs h = tt
take_all P (suc n) [] h = tt
take_all P (suc n) (x ∷ xs) h = (h.0, take_all P n xs h.1)

length-take_most : {X : Type 0} → (n : ℕ) (xs : List X) → length (take n xs) ≤ n
length-take_most zero xs = omega arith
length-take_most (suc n) [] = omega arith
length-take_most (suc n) (x ∷ xs) = let more = length-take_most n xs in omega arith

-- the sums and the carries of the adder are of its variables, but for the carry into it
outputs_above : (P : Lit → Type 0) (v high : ℕ) (c : Lit) (ps : List (Lit × Lit)) → v + 7 * length ps ≤ high → ((l : Lit) → v < variable_of l → variable_of l ≤ high → P l) → P c → AllByRecursion P (ripple_outputs v c ps)
outputs_above P v high c [] b f h = (h, tt)
outputs_above P v high c (p ∷ ps) b f h = (
  f (sum_after v) (omega arith) (omega arith),
  outputs_above P (v + 7) high (carry_after v) ps (omega arith) (λ l lt le. f l (omega arith) le) (f (carry_after v) (omega arith) (omega arith)),
)

module _ (e : Extended) (b : Block) (made : IsExtension e) (is_block : IsBlock e b) where
  abbrev high : ℕ
  high = e.max + 7 * length b.cut.pairs

  abbrev adder : List Gate
  adder = ripple_gates e.max constant_false b.cut.pairs

  pairs_low : AllByRecursion (IsLowPair (IsOf e) e.max) b.cut.pairs
  pairs_low =
      all_weaker (λ p. IsKnown e p.0 × IsKnown e p.1) (IsLowPair (IsOf e) e.max) b.cut.pairs (λ p h. ((known_low e made p.0 h.0, h.0), (known_low e made p.1 h.1, h.1)))
      (recursion_from_All (λ p. IsKnown e p.0 × IsKnown e p.1) b.cut.pairs is_block.known)

  above : AllByRecursion (IsAbove (IsOf e) e.max high) adder
  above = ripple_above (IsOf e) e.max high e.max constant_false b.cut.pairs (omega arith) (omega arith) (omega arith) (inl (inl refl)) pairs_low

  counts : Counts (e.max + 1) (map (λ x. x.v) adder)
  counts = ripple_counts e.max constant_false b.cut.pairs

  many : high ≡ e.max + length adder
  many = let all = length-ripple_gates e.max constant_false b.cut.pairs in omega arith

  -- the adder's gates, and then its columns
  abbrev with_adder : Extended
  with_adder = more_gates e high adder

  outputs_readable : AllByRecursion (IsReadable with_adder) (block_outputs e.max b)
  outputs_readable =
      take_all (IsReadable with_adder) (span b) (ripple_outputs e.max constant_false b.cut.pairs)
      (outputs_above (IsReadable with_adder) e.max high constant_false b.cut.pairs (omega arith) (λ l lt le. one_readable e high adder made counts many above l le (inr lt)) (omega arith, inl refl))

  outputs_free : AreFree with_adder b.cut.lo (length (block_outputs e.max b))
  outputs_free =
      all_weaker (λ c. (c.number < b.cut.lo) ⊎ (b.cut.lo + span b ≤ c.number)) (λ c. (d : ℕ) → b.cut.lo ≤ d → d < b.cut.lo + length (block_outputs e.max b) → c.number ≢ d) e.replaced
      (λ c apart d low up same. let few = length-take_most (span b) (ripple_outputs e.max constant_false b.cut.pairs) in ⊎_elim (λ lt. absurd (omega arith)) (λ ge. absurd (omega arith)) apart)
      (recursion_from_All (λ c. (c.number < b.cut.lo) ⊎ (b.cut.lo + span b ≤ c.number)) e.replaced is_block.apart)

  pub grafted : IsExtension (graft_block e b)
  grafted = columns_extend with_adder b.cut.lo (block_outputs e.max b) (gates_extend e high adder made counts many above) outputs_readable outputs_free

pub graft_extends : GraftExtends
graft_extends e b made is_block = grafted e b made is_block

pub evaluation_goes_on : EvaluationGoesOn
evaluation_goes_on e b τ made is_block evaluates = gates_go_on e (high e b made is_block) (adder e b made is_block) made (counts e b made is_block) (many e b made is_block) (above e b made is_block) τ evaluates
