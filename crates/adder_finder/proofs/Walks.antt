-- What is covered, from a gate to its first operand.
use Rattle.std.specs.Prelude.{◌≡◌, ◌≢◌, ℕ, zero, suc, ◌<◌, [], ◌∷◌, slice_index_or}
use Rattle.std.specs.List.{Contains}
use Rattle.std.proofs.Common.{refl, sym, subst, arith}
use Rattle.graph_core.specs.declared.gate.Gate.{Gate}
use Rattle.graph_core.specs.Graph.Literals.{variable_of}
use Rattle.graph_core.specs.Graph.{Aig, IsGateOf, IsWellFormed}
use Rattle.graph_core.proofs.OfGraphs.CallerLemmas.{one_gate}
use Rattle.adder_finder.specs.FinalStage.{IsCovered, constant, member, gate as gate_covered}

not_of_two : (x y w : ℕ) → w ≢ x → w ≢ y → Contains (x ∷ y ∷ []) w → ⊥
not_of_two x y w a b h = go h.0 h.1 h.2
  where
    go : (k : ℕ) → k < 2 → slice_index_or (x ∷ y ∷ []) k w ≡ w → ⊥
    go zero low e = a (sym e)
    go (suc zero) low e = b (sym e)
    go (suc (suc k)) low e = absurd (omega arith)

module _ (g : Aig) (well : IsWellFormed g) (x y : ℕ) where
  abbrev Covered : ℕ → Type 0
  Covered = IsCovered g.gates (x ∷ y ∷ [])

  first_covered : {w : ℕ} → Covered w → (z : Gate) → IsGateOf g.gates w z → w ≢ 0 → (Contains (x ∷ y ∷ []) w → ⊥) → Covered (variable_of z.left)
  first_covered constant z at some out = absurd (some refl)
  first_covered (member v has) z at some out = absurd (out has)
  first_covered (gate_covered o has l r) z at some out = subst (λ (a : Gate). Covered (variable_of a.left)) (one_gate g o.v z o well at (has, refl)) l

  pub walk_down : (w : ℕ) (z : Gate) → IsGateOf g.gates w z → w ≢ 0 → w ≢ x → w ≢ y → Covered w → Covered (variable_of z.left)
  walk_down w z at some a b c = first_covered c z at some (not_of_two x y w a b)
