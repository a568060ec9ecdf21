-- A fit cut is a cut.
use Rattle.std.specs.Prelude.{◌≡◌, ℕ, suc, ◌+◌, ◌⊎◌, cond, List, [], ◌∷◌, ◌++◌, length, drop, nat_le}
use Rattle.std.specs.List.{All, AllByRecursion}
use Rattle.std.proofs.Common.{refl, sym, ap, subst, arith, inl, inr, ⊎_elim}
use Rattle.std.proofs.lemmas.List.{length-drop}
use Rattle.std.proofs.lemmas.List.Elements.{All-from_recursion}
use Rattle.graph_core.specs.declared.literal.Lit.{Lit}
use Rattle.graph_core.specs.declared.gate.Gate.{Gate}
use Rattle.graph_core.specs.Graph.Literals.{variable_of}
use Rattle.graph_core.specs.Graph.{Aig, IsWellFormed}
use Rattle.graph_core.specs.Graph.Extended.{without_cut}
use Rattle.ripple_graft.specs.Extension.{IsKnown, IsReadable}
use Rattle.ripple_graft.proofs.Plain.{graph_extends}
use Rattle.adder_finder.specs.XorShape.{ordered_operands, IsXorOfPair}
use Rattle.adder_finder.specs.FinalStage.{AreNextColumns, FitIsCut}
use Rattle.graph_core.proofs.OfGraphs.CallerLemmas.{by_cases}

-- as many pairs as columns, or one fewer
pub columns_count : (g : Aig) (earlier : List (Lit × Lit)) (os : List Lit) (ps : List (Lit × Lit)) → AreNextColumns g earlier os ps → (length ps + 1 ≡ length os) ⊎ (length ps ≡ length os)
columns_count g earlier [] [] h = inr refl
columns_count g earlier [] (p ∷ ps) h = absurd h
columns_count g earlier (o ∷ []) [] h = inl refl
columns_count g earlier (o ∷ p ∷ os) [] h = absurd h
columns_count g earlier (o ∷ os) (p ∷ ps) h = ⊎_elim (λ e. inl (omega (arith, e))) (λ e. inr (omega (arith, e))) (columns_count g (earlier ++ p ∷ []) os ps h.1)

module _ (g : Aig) (well : IsWellFormed g) where
  abbrev Known : Lit × Lit → Type 0
  Known p = IsKnown (without_cut g) p.0 × IsKnown (without_cut g) p.1

  -- the pair of a gate of XOR shape is a gate's operands
  pair_known : (v : ℕ) (p : Lit × Lit) → IsXorOfPair g v p → Known p
  pair_known v p h =
      let at = h.4.operands in
      let u : Gate = at.1 in
      let reads : IsReadable (without_cut g) u.left × IsReadable (without_cut g) u.right =
      subst (λ x. IsReadable (without_cut g) x.left × IsReadable (without_cut g) x.right) at.3 ((graph_extends g well).operands at.0 u at.2) in
      let known : Known (ordered_operands u) = by_cases (λ t. Known (cond {A = Lit × Lit} t (u.left, u.right) (u.right, u.left))) (nat_le u.left.0 u.right.0) (λ t. (reads.0.1, reads.1.1)) (λ t. (reads.1.1, reads.0.1)) in
      subst Known (sym at.4.1) known

  pairs_known : (earlier : List (Lit × Lit)) (os : List Lit) (ps : List (Lit × Lit)) → AreNextColumns g earlier os ps → AllByRecursion Known ps
  pairs_known earlier [] [] h = tt
  pairs_known earlier [] (p ∷ ps) h = absurd h
  pairs_known earlier (o ∷ []) [] h = tt
  pairs_known earlier (o ∷ q ∷ os) [] h = absurd h
  pairs_known earlier (o ∷ os) (p ∷ ps) h = (pair_known (variable_of h.0.2) p h.0.5, pairs_known (earlier ++ p ∷ []) os ps h.1)

pub fit_is_cut : FitIsCut
fit_is_cut g cut well h =
    let os = h.1 in
    let ps = h.3 in
    let count : length cut.pairs ≡ suc (length ps) = ap length h.5 in
    let outputs : length (drop cut.lo g.outputs) ≡ suc (length os) = ap length h.4 in
    let known : AllByRecursion (Known g well) (h.2 ∷ ps) = (pair_known g well (variable_of h.0) h.2 h.6, pairs_known g well (h.2 ∷ []) os ps h.7) in
    record {
      some = omega (arith, count);
      columns = ⊎_elim (λ e. inl (omega (arith, count, outputs, e, length-drop cut.lo g.outputs))) (λ e. inr (omega (arith, count, outputs, e, length-drop cut.lo g.outputs))) (columns_count g (h.2 ∷ []) os ps h.7);
      known = subst (All (Known g well)) (sym h.5) (All-from_recursion (Known g well) (h.2 ∷ ps) known);
    }
