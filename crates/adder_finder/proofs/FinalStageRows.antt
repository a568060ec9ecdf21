-- The final stage of the two-bit multiplier: column 2, with the pair 16, 18.
use Rattle.std.specs.Prelude.{◌≡◌, ◌≢◌, ℕ, zero, suc, ◌*◌, ◌+◌, ◌%◌, ◌<◌, ◌≤◌, ◌⊎◌, List, [], ◌∷◌, map, length, drop, ◌/◌}
use Rattle.std.specs.List.{AllByRecursion, Any, Contains}
use Rattle.std.proofs.Common.{refl, sym, ap, subst, ◌∙◌, arith, inl, inr, ⊎_elim}
use Rattle.std.proofs.lemmas.List.Elements.{All-from_recursion}
use Rattle.graph_core.specs.declared.literal.Lit.{Lit}
use Rattle.graph_core.specs.declared.gate.Gate.{Gate}
use Rattle.graph_core.specs.Graph.Literals.{variable_of, inverted}
use Rattle.graph_core.specs.Graph.{IsDefinedOnce, Aig}
use Rattle.graph_core.proofs.OfAiger.CallerLemmas.{counts_apart}
use Rattle.ripple_graft.specs.declared.cut.Cut.{Cut}
use Rattle.graph_core.proofs.OfGraphs.CallerLemmas.{any_cases, any_nil}
use Rattle.adder_finder.specs.XorShape.{HasXorShape, IsUsedBesides, IsXorGate, IsXorOfPair}
use Rattle.adder_finder.specs.FinalStage.{member, gate as gate_covered, IsNextColumn, AreNextColumns, IsFit, IsFinalStage}
use Rattle.adder_finder.proofs.XorShapes.{Operands, one_gate, same_sides, gates_distinct, pair_has_shape}

abbrev lit : ℕ → Lit
lit n = record { 0 = n }

abbrev gate : ℕ → ℕ → ℕ → Gate
gate l x y = record { v = l / 2; left = lit x; right = lit y }

abbrev two_bits : Aig
two_bits = record {
  max = 14;
  inputs = map lit (2 ∷ 4 ∷ 6 ∷ 8 ∷ []);
  outputs = map lit (10 ∷ 22 ∷ 28 ∷ 24 ∷ []);
  gates = gate 10 6 2 ∷ gate 12 6 4 ∷ gate 14 8 2 ∷ gate 16 8 4 ∷ gate 18 14 12 ∷ gate 20 15 13 ∷ gate 22 21 19 ∷ gate 24 18 16 ∷ gate 26 19 17 ∷ gate 28 27 25 ∷ [];
}

abbrev stage : Cut
stage = record { lo = 2; pairs = (lit 16, lit 18) ∷ [] }

once : IsDefinedOnce two_bits
once = record {
  inputs = All-from_recursion (λ l. (l.0 % 2 ≡ 0) × (0 < variable_of l)) (map lit (2 ∷ 4 ∷ 6 ∷ 8 ∷ [])) ((refl, omega arith), ((refl, omega arith), ((refl, omega arith), ((refl, omega arith), tt))));
  gates = All-from_recursion (λ x. 0 < x.v) two_bits.gates (omega arith, (omega arith, (omega arith, (omega arith, (omega arith, (omega arith, (omega arith, (omega arith, (omega arith, (omega arith, tt))))))))));
  once = counts_apart 1 (1 ∷ 2 ∷ 3 ∷ 4 ∷ 5 ∷ 6 ∷ 7 ∷ 8 ∷ 9 ∷ 10 ∷ 11 ∷ 12 ∷ 13 ∷ 14 ∷ []) (refl, (refl, (refl, (refl, (refl, (refl, (refl, (refl, (refl, (refl, (refl, (refl, (refl, (refl, tt))))))))))))));
}

shape : HasXorShape two_bits.gates 14 12 13 (lit 16) (lit 18)
shape = record {
  top = (9, gate 28 27 25, omega arith, refl, (refl, inr (refl, refl)));
  different = λ e. absurd (omega arith);
  both = (7, gate 24 18 16, omega arith, refl, (refl, inr (refl, refl)));
  neither = (8, gate 26 19 17, omega arith, refl, (refl, inr (refl, refl)));
  x_variable = omega arith;
  y_variable = omega arith;
  two_variables = λ e. absurd (omega arith);
}

-- what a test of a list says of none of its elements
none_of : {X : Type 0} (P : X → Type 0) (xs : List X) → AllByRecursion (λ x. P x → ⊥) xs → Any P xs → ⊥
none_of P [] a h = any_nil P h
none_of P (x ∷ xs) a h = ⊎_elim a.0 (none_of P xs a.1) (any_cases P x xs h)

not_in : (xs : List ℕ) (v : ℕ) → AllByRecursion (λ x. x ≢ v) xs → Contains xs v → ⊥
not_in xs v a h = none_of (λ x. x ≡ v) xs a (h.0, v, h.1, h.2, refl)

abbrev Reads13 : Gate → Type 0
Reads13 x = (x.v ≢ 14) × ((variable_of x.left ≡ 13) ⊎ (variable_of x.right ≡ 13))

neither_reads : (v a b : ℕ) → a ≢ 13 → b ≢ 13 → (v ≢ 14) × ((a ≡ 13) ⊎ (b ≡ 13)) → ⊥
neither_reads v a b p q h = ⊎_elim p q h.1

apart : (a b : ℕ) → (a < b) ⊎ (b < a) → a ≢ b
apart a b h e = ⊎_elim (λ l. absurd (omega arith)) (λ l. absurd (omega arith)) h

-- gate 13 is read by gate 14 alone, and is no output's variable
not_used : IsUsedBesides two_bits 14 13 → ⊥
not_used h =
    ⊎_elim
    (none_of Reads13 two_bits.gates (
      neither_reads 5 3 1 (apart 3 13 (inl (omega arith))) (apart 1 13 (inl (omega arith))),
      (
        neither_reads 6 3 2 (apart 3 13 (inl (omega arith))) (apart 2 13 (inl (omega arith))),
        (
          neither_reads 7 4 1 (apart 4 13 (inl (omega arith))) (apart 1 13 (inl (omega arith))),
          (
            neither_reads 8 4 2 (apart 4 13 (inl (omega arith))) (apart 2 13 (inl (omega arith))),
            (
              neither_reads 9 7 6 (apart 7 13 (inl (omega arith))) (apart 6 13 (inl (omega arith))),
              (
                neither_reads 10 7 6 (apart 7 13 (inl (omega arith))) (apart 6 13 (inl (omega arith))),
                (
                  neither_reads 11 10 9 (apart 10 13 (inl (omega arith))) (apart 9 13 (inl (omega arith))),
                  (
                    neither_reads 12 9 8 (apart 9 13 (inl (omega arith))) (apart 8 13 (inl (omega arith))),
                    (neither_reads 13 9 8 (apart 9 13 (inl (omega arith))) (apart 8 13 (inl (omega arith))), (λ r. r.0 refl, tt)),
                  ),
                ),
              ),
            ),
          ),
        ),
      ),
    ))
    (not_in (5 ∷ 11 ∷ 14 ∷ 12 ∷ []) 13 (apart 5 13 (inl (omega arith)), (apart 11 13 (inl (omega arith)), (apart 14 13 (inr (omega arith)), (apart 12 13 (inl (omega arith)), tt))))) h

pair_of_14 : IsXorOfPair two_bits 14 (lit 16, lit 18)
pair_of_14 = (12, 13, lit 16, lit 18, record { shape = shape; generates = inl (inr (3, omega arith, refl), not_used); operands = (7, gate 24 18 16, omega arith, refl, (refl, refl)) })

fit : IsFit two_bits stage
fit = (
  lit 28,
  lit 24 ∷ [],
  (lit 16, lit 18),
  [],
  refl,
  refl,
  pair_of_14,
  gate_covered (gate 24 18 16) (7, omega arith, refl) (member 9 (1, omega arith, refl)) (member 8 (0, omega arith, refl)),
)

-- a gate with an even operand has no XOR shape
even_gate : (v k m : ℕ) (x : Gate) → Any (λ y. (y.v ≡ v) × ((y.left ≡ lit (2 * k)) × (y.right ≡ lit (2 * m)))) two_bits.gates → IsXorGate two_bits v → ⊥
even_gate v k m x h s =
    let g = one_gate two_bits.gates (gates_distinct two_bits once) (λ y. (y.left ≡ lit (2 * k)) × (y.right ≡ lit (2 * m))) (λ y. Operands y (inverted s.0) (inverted s.1)) v h s.4.top in
    ⊎_elim (λ o. odd k s.0 (sym g.2.0 ∙ o.0)) (λ o. odd k s.1 (sym g.2.0 ∙ o.0)) g.3
  where
    odd : (a b : ℕ) → lit (2 * a) ≡ inverted b → ⊥
    odd a b e = let f : 2 * a ≡ 2 * b + 1 = ap (λ l. l.0) e in absurd (omega arith)

no_xor_5 : IsXorGate two_bits 5 → ⊥
no_xor_5 = even_gate 5 3 1 (gate 10 6 2) (0, gate 10 6 2, omega arith, refl, (refl, (refl, refl)))

no_xor_8 : IsXorGate two_bits 8 → ⊥
no_xor_8 = even_gate 8 4 2 (gate 16 8 4) (3, gate 16 8 4, omega arith, refl, (refl, (refl, refl)))

no_xor_9 : IsXorGate two_bits 9 → ⊥
no_xor_9 = even_gate 9 7 6 (gate 18 14 12) (4, gate 18 14 12, omega arith, refl, (refl, (refl, refl)))

no_xor_12 : IsXorGate two_bits 12 → ⊥
no_xor_12 = even_gate 12 9 8 (gate 24 18 16) (7, gate 24 18 16, omega arith, refl, (refl, (refl, refl)))

-- column 2 can't follow: neither of its sides has XOR shape
no_next_14 : (earlier : List (Lit × Lit)) (p : Lit × Lit) → IsNextColumn two_bits earlier (lit 28) p → ⊥
no_next_14 earlier p h =
    ⊎_elim (λ s. no_xor_8 (subst (IsXorGate two_bits) s.0 (pair_has_shape two_bits (variable_of h.2) p h.5))) (λ s. no_xor_9 (subst (IsXorGate two_bits) s.0 (pair_has_shape two_bits (variable_of h.2) p h.5)))
    (same_sides two_bits once 14 h.0 h.1 12 13 h.2 h.3 (lit 16) (lit 18) h.4 shape)

-- so a fit cut doesn't begin below column 2
low_at_least : (k : ℕ) (other : Cut) → other.lo ≡ k → IsFit two_bits other → 2 ≤ k
low_at_least zero other e f = absurd (at_zero f.0 f.1 (sym (ap (λ n. drop n two_bits.outputs) e) ∙ f.4) f.6)
  where
    at_zero : (o : Lit) (os : List Lit) → two_bits.outputs ≡ o ∷ os → IsXorOfPair two_bits (variable_of o) f.2 → ⊥
    at_zero o os d p = let first : lit 10 ≡ o = cc in no_xor_5 (pair_has_shape two_bits 5 f.2 (subst (λ z. IsXorOfPair two_bits (variable_of z) f.2) (sym first) p))
low_at_least (suc zero) other e f = absurd (at_one f.0 f.1 f.3 (sym (ap (λ n. drop n two_bits.outputs) e) ∙ f.4) f.7)
  where
    at_one : (o : Lit) (os : List Lit) (ps : List (Lit × Lit)) → map lit (22 ∷ 28 ∷ 24 ∷ []) ≡ o ∷ os → AreNextColumns two_bits (f.2 ∷ []) os ps → ⊥
    at_one o os ps d n = let others : map lit (28 ∷ 24 ∷ []) ≡ os = cc in next ps (subst (λ z. AreNextColumns two_bits (f.2 ∷ []) z ps) (sym others) n)
      where
        next : (qs : List (Lit × Lit)) → AreNextColumns two_bits (f.2 ∷ []) (map lit (28 ∷ 24 ∷ [])) qs → ⊥
        next [] m = m
        next (q ∷ qs) m = no_next_14 (f.2 ∷ []) q m.0
low_at_least (suc (suc k)) other e f = omega arith

-- and one at column 2 has one pair
one_pair : (other : Cut) → IsFit two_bits other → other.lo ≡ 2 → length other.pairs ≤ 1
one_pair other f e = subst (λ z. length z ≤ 1) (sym f.5) (go f.0 f.1 f.3 (sym (ap (λ n. drop n two_bits.outputs) e) ∙ f.4) f.7)
  where
    go : (o : Lit) (os : List Lit) (ps : List (Lit × Lit)) → map lit (28 ∷ 24 ∷ []) ≡ o ∷ os → AreNextColumns two_bits (f.2 ∷ []) os ps → length (f.2 ∷ ps) ≤ 1
    go o os [] d n = omega arith
    go o os (q ∷ qs) d n = let others : map lit (24 ∷ []) ≡ os = cc in absurd (no_next (subst (λ z. AreNextColumns two_bits (f.2 ∷ []) z (q ∷ qs)) (sym others) n))
      where
        no_next : AreNextColumns two_bits (f.2 ∷ []) (map lit (24 ∷ [])) (q ∷ qs) → ⊥
        no_next m = no_xor_12 (m.0.0, m.0.1, m.0.2, m.0.3, m.0.4)

two_bit_stage : IsFinalStage two_bits stage
two_bit_stage = record { fit = fit; least = λ other f. low_at_least other.lo other refl f; longest = λ other f e. one_pair other f e }
