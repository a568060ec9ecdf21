-- A graph has one final stage.
use Rattle.std.specs.Prelude.{◌≡◌, ℕ, suc, ◌≤◌, List, [], ◌∷◌, ◌++◌, length, drop}
use Rattle.std.proofs.Common.{refl, sym, ap, ap₂, subst, ◌∙◌, arith, ⊎_elim}
use Rattle.graph_core.specs.declared.literal.Lit.{Lit}
use Rattle.graph_core.specs.Graph.Literals.{variable_of}
use Rattle.graph_core.specs.Graph.{Aig, IsDefinedOnce}
use Rattle.ripple_graft.specs.declared.cut.Cut.{Cut}
use Rattle.adder_finder.specs.XorShape.{IsXorGate, IsXorOfPair}
use Rattle.adder_finder.specs.FinalStage.{IsNextColumn, AreNextColumns, IsFit, FinalStageIsOne}
use Rattle.adder_finder.proofs.XorShapes.{same_sides, pair_has_shape, pair_one}

pub next_one : (g : Aig) → IsDefinedOnce g → (earlier : List (Lit × Lit)) (o : Lit) (p q : Lit × Lit) → IsNextColumn g earlier o p → IsNextColumn g earlier o q → p ≡ q
next_one g once earlier o p q h i =
    ⊎_elim (λ s. pair_one g once (variable_of h.2) p q h.5 (subst (λ z. IsXorOfPair g z q) (sym s.0) i.5))
    (λ s. absurd (i.6 (subst (IsXorGate g) s.0 (pair_has_shape g (variable_of h.2) p h.5)))) (same_sides g once (variable_of o) h.0 h.1 i.0 i.1 h.2 h.3 i.2 i.3 h.4 i.4)

columns_one : (g : Aig) → IsDefinedOnce g → (earlier : List (Lit × Lit)) (os : List Lit) (ps qs : List (Lit × Lit)) → length ps ≡ length qs → AreNextColumns g earlier os ps → AreNextColumns g earlier os qs → ps ≡ qs
columns_one g once earlier [] [] [] e h i = refl
columns_one g once earlier [] (p ∷ ps) qs e h i = absurd h
columns_one g once earlier [] [] (q ∷ qs) e h i = absurd i
columns_one g once earlier (o ∷ os) [] [] e h i = refl
columns_one g once earlier (o ∷ os) [] (q ∷ qs) e h i = absurd (omega arith)
columns_one g once earlier (o ∷ os) (p ∷ ps) [] e h i = absurd (omega arith)
columns_one g once earlier (o ∷ os) (p ∷ ps) (q ∷ qs) e h i =
    let same = next_one g once earlier o p q h.0 i.0 in
    ap₂ ◌∷◌ same (columns_one g once (earlier ++ p ∷ []) os ps qs (omega arith) h.1 (subst (λ z. AreNextColumns g (earlier ++ z ∷ []) os qs) (sym same) i.1))

fit_one : (g : Aig) → IsDefinedOnce g → (c d : Cut) → c.lo ≡ d.lo → length c.pairs ≡ length d.pairs → IsFit g c → IsFit g d → c.pairs ≡ d.pairs
fit_one g once c d low len h i =
    let outputs : h.0 ∷ h.1 ≡ i.0 ∷ i.1 = sym h.4 ∙ ap (λ k. drop k g.outputs) low ∙ i.4 in
    let first : h.0 ≡ i.0 = cc in
    let others : h.1 ≡ i.1 = cc in
    let pair = pair_one g once (variable_of h.0) h.2 i.2 h.6 (subst (λ z. IsXorOfPair g (variable_of z) i.2) (sym first) i.6) in
    let count : suc (length h.3) ≡ suc (length i.3) = sym (ap length h.5) ∙ len ∙ ap length i.5 in
    let rest = columns_one g once (h.2 ∷ []) h.1 h.3 i.3 (omega (arith, count)) h.7 (subst (λ z. AreNextColumns g (z ∷ []) h.1 i.3) (sym pair) (subst (λ z. AreNextColumns g (i.2 ∷ []) z i.3) (sym others) i.7)) in
    h.5 ∙ ap₂ ◌∷◌ pair rest ∙ sym i.5

pub final_stage_is_one : FinalStageIsOne
final_stage_is_one g one other once h i =
    let low : one.lo ≡ other.lo = between one.lo other.lo (h.least other i.fit) (i.least one h.fit) in
    let len : length one.pairs ≡ length other.pairs = between (length one.pairs) (length other.pairs) (i.longest one h.fit low) (h.longest other i.fit (sym low)) in
    let cut : ℕ → List (Lit × Lit) → Cut = λ n ps. record { lo = n; pairs = ps } in
    ap₂ cut low (fit_one g once one other low len h.fit i.fit)
  where
    between : (a b : ℕ) → a ≤ b → b ≤ a → a ≡ b
    between a b p q = omega arith
