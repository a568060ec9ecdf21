-- The final stage of a multiplier that ends with an adder, of as many outputs as there are.
use Rattle.std.specs.Prelude.{◌≡◌, ℕ, ◌≤◌, List, [], ◌∷◌, ◌++◌, length, drop}
use Rattle.std.specs.List.{Contains}
use Rattle.graph_core.specs.declared.literal.Lit.{Lit}
use Rattle.graph_core.specs.declared.gate.Gate.{Gate}
use Rattle.graph_core.specs.Graph.Literals.{variable_of}
use Rattle.graph_core.specs.Graph.{Aig, IsDefinedOnce, IsWellFormed}
use Rattle.ripple_graft.specs.declared.cut.Cut.{Cut}
use Rattle.ripple_graft.specs.Blocks.{IsCut}
use Rattle.adder_finder.specs.XorShape.{HasXorShape, IsXorGate, IsXorOfPair}

-- A variable is covered by a set where it is 0, in the set, or a gate with both operands' variables covered.
pub data IsCovered (gates : List Gate) (set : List ℕ) : ℕ → Type 0 where
  constant : IsCovered gates set 0
  member : (v : ℕ) → Contains set v → IsCovered gates set v
  gate : (x : Gate) → Contains gates x → IsCovered gates set (variable_of x.left) → IsCovered gates set (variable_of x.right) → IsCovered gates set x.v

-- the variables of pairs
abbrev pub variables_of : List (Lit × Lit) → List ℕ
variables_of [] = []
variables_of (p ∷ ps) = variable_of p.0 ∷ variable_of p.1 ∷ variables_of ps

-- The output's gate has XOR shape, exactly one of its sides has XOR shape, the other is covered by the earlier pairs,
-- and the pair of the side of XOR shape is the next one.
abbrev pub IsNextColumn : Aig → List (Lit × Lit) → Lit → Lit × Lit → Type 0
IsNextColumn g earlier output pair = (u w : ℕ) × (x y : Lit) × HasXorShape g.gates (variable_of output) u w x y ×
    IsXorOfPair g (variable_of x) pair × ¬ (IsXorGate g (variable_of y)) × IsCovered g.gates (variables_of earlier) (variable_of y)

-- Each output after the first is a next column, but the last output may be covered by all pairs instead.
abbrev pub AreNextColumns : Aig → List (Lit × Lit) → List Lit → List (Lit × Lit) → Type 0
AreNextColumns g earlier [] [] = Unit {0}
AreNextColumns g earlier [] (p ∷ ps) = ⊥
AreNextColumns g earlier (o ∷ []) [] = IsCovered g.gates (variables_of earlier) (variable_of o)
AreNextColumns g earlier (o ∷ p ∷ os) [] = ⊥
AreNextColumns g earlier (o ∷ os) (p ∷ ps) = IsNextColumn g earlier o p × AreNextColumns g (earlier ++ p ∷ []) os ps

-- A fit cut: the output of its low column has XOR shape, its pair is the first one, and the columns after it follow.
abbrev pub IsFit : Aig → Cut → Type 0
IsFit g cut = (o : Lit) × (os : List Lit) × (p : Lit × Lit) × (ps : List (Lit × Lit)) × (drop cut.lo g.outputs ≡ o ∷ os) × (cut.pairs ≡ p ∷ ps) ×
    IsXorOfPair g (variable_of o) p × AreNextColumns g (p ∷ []) os ps

-- the last column, where it could follow as a next column too, is not covered instead
abbrev pub PrefersNext : Aig → Cut → Type 0
PrefersNext g cut = (other : Cut) → IsFit g other → other.lo ≡ cut.lo → length other.pairs ≤ length cut.pairs

-- The final stage: a fit cut with the least low column; of two at that column the longer one.
pub record IsFinalStage (g : Aig) (cut : Cut) : Type 0 where
  pub fit : IsFit g cut
  pub least : (other : Cut) → IsFit g other → cut.lo ≤ other.lo
  pub longest : PrefersNext g cut

-- ---- the laws

-- A graph has at most one final stage.
abbrev pub FinalStageIsOne : Type 0
FinalStageIsOne = (g : Aig) (one other : Cut) → IsDefinedOnce g → IsFinalStage g one → IsFinalStage g other → one ≡ other

-- A fit cut of a graph without faults is a cut of it: with m outputs its columns end at m - 1, or its sums at m - 2 with the last carry after them.
abbrev pub FitIsCut : Type 0
FitIsCut = (g : Aig) (cut : Cut) → IsWellFormed g → IsFit g cut → IsCut g cut
