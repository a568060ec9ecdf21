-- Parts that are gathered over a group of steps, before one combination states what they add up to.
use Rattle.std.specs.Prelude.{◌≡◌, ◌≢◌, ◌⊎◌, ℕ, ◌+◌, ◌%◌, ◌^◌, ◌<◌, ◌≤◌, true, false, List, [], ◌∷◌, ◌++◌, slice_get}
use Rattle.std.specs.declared.option.Option.TheVariants.{Some}
use Rattle.std.specs.List.{All, AllPairs}
use Rattle.graph_core.specs.declared.literal.Lit.{Lit}
use Rattle.graph_core.specs.declared.gate.Gate.{Gate}
use Rattle.graph_core.specs.Graph.Assignments.{Assignment, literal, bit}
use Rattle.graph_core.specs.Graph.Operands.{Sides}
use Rattle.algebra_core.specs.Polynomials.{Polynomial, difference, value}
use Rattle.graph_core.specs.Graph.Extended.{Extended, modulus}
use Rattle.algebra_core.specs.AlgebraLines.{LiveLine, Ledger, Part, Combination, IsCombined, IsLawfulLine, IsLive, value_of, combined, gate_axiom}
use Rattle.ripple_graft.specs.Extension.{new_outputs}
use Rattle.frontier_core.specs.declared.step.Step.TheVariants.{Add, Eliminate}
use Rattle.frontier_core.specs.Sets.{has}
use Rattle.frontier_core.specs.Columns.{column_value}
use Rattle.frontier_core.specs.Substitution.{gate_value, quotient, substituted}
use Rattle.frontier_core.specs.Plan.{Taken, step}
use Rattle.frontier_core.specs.RestLine.{partial_specification}

-- the part of the specification that the added columns make up, minus the rest
abbrev pub gap : Extended → Sides → List ℕ → (Assignment → ℕ) → Assignment → ℕ
gap e s added rest σ = difference (modulus e) (partial_specification e s added σ) (rest σ)

-- a polynomial that isn't 0 everywhere
abbrev pub IsNotZero : ℕ → Polynomial → Type 0
IsNotZero m p = ((σ : Assignment) → value m p σ ≡ 0) → ⊥

-- the id of an eliminated gate, or of an added column
abbrev pub IsTaken : Extended → Taken → ℕ → Type 0
IsTaken e f id = ((has f.eliminated id ≡ true) × (id ≤ e.max)) ⊎ ((k : ℕ) × (has f.added k ≡ true) × (id ≡ e.max + 1 + k))

-- What a combination may be over: live lines, none of them twice, and none times 0.
pub record AreSpare (m : ℕ) (lines : List LiveLine) (parts : List Part) : Type 0 where
  pub live : All (λ p. IsLive lines p.id) parts
  pub once : AllPairs (λ p q. p.id ≢ q.id) parts
  pub nonzero : All (λ p. IsNotZero m p.factor) parts

-- The parts of a group: at every assignment they add up to what the gap is now minus what it was at the group's start.
pub record IsPending (e : Extended) (s : Sides) (live : List LiveLine) (start : Assignment → ℕ) (f : Taken)
    (rest : Assignment → ℕ) (parts : List Part) : Type 0 where
  pub sum : (σ : Assignment) → (start σ + combined (modulus e) live parts σ) % modulus e ≡ gap e s f.added rest σ
  pub spare : AreSpare (modulus e) live parts
  pub taken : All (λ p. IsTaken e f p.id) parts

-- A group starts with none.
abbrev pub PendingStarts : Type 0
PendingStarts = (e : Extended) (s : Sides) (live : List LiveLine) (f : Taken) (rest : Assignment → ℕ) → IsPending e s live (gap e s f.added rest) f rest []

-- A column that isn't replaced adds no part; a replaced one adds its axiom times 2 ^ k.
abbrev pub PendingAddsColumn : Type 0
PendingAddsColumn = (e : Extended) (s : Sides) (live : List LiveLine) (start rest next : Assignment → ℕ) (f : Taken) (parts : List Part) (k : ℕ) (o r : Lit) →
    IsPending e s live start f rest parts →
    slice_get e.graph.outputs k ≡ Some o → slice_get (new_outputs e) k ≡ Some r → has f.added k ≡ false →
    ((σ : Assignment) → next σ ≡ (rest σ + column_value e s k r σ) % modulus e) →
    (o ≡ r → IsPending e s live start (step f (Add k)) next parts) ×
    ((p : Part) → p.id ≡ e.max + 1 + k → IsLive live p.id →
    ((σ : Assignment) → value_of live p.id σ ≡ difference (modulus e) (bit (literal σ o)) (bit (literal σ r))) →
    ((σ : Assignment) → value (modulus e) p.factor σ ≡ 2 ^ k % modulus e) → IsNotZero (modulus e) p.factor →
    IsPending e s live start (step f (Add k)) next (parts ++ p ∷ []))

-- A gate adds its axiom times minus the quotient by its variable; where that is 0 it adds no part.
abbrev pub PendingEliminates : Type 0
PendingEliminates = (e : Extended) (s : Sides) (live : List LiveLine) (start rest next : Assignment → ℕ) (f : Taken) (parts : List Part) (x : Gate) →
    IsPending e s live start f rest parts → 0 < x.v → x.v ≤ e.max → has f.eliminated x.v ≡ false →
    ((σ : Assignment) → next σ ≡ substituted (modulus e) x.v (gate_value x) rest σ) →
    (((σ : Assignment) → quotient (modulus e) x.v rest σ ≡ 0) → IsPending e s live start (step f (Eliminate x.v)) next parts) ×
    ((p : Part) → p.id ≡ x.v → IsLive live p.id →
    ((σ : Assignment) → value_of live p.id σ ≡ (gate_axiom (modulus e) x).value σ) →
    ((σ : Assignment) → value (modulus e) p.factor σ ≡ difference (modulus e) 0 (quotient (modulus e) x.v rest σ)) → IsNotZero (modulus e) p.factor →
    IsPending e s live start (step f (Eliminate x.v)) next (parts ++ p ∷ []))

-- A combination of spare parts with a new id is lawful.
abbrev pub SpareIsLawful : Type 0
SpareIsLawful = (m : ℕ) (l : Ledger) (parts : List Part) (new : ℕ) (p : Polynomial) → AreSpare m l.live parts → l.last < new →
    IsCombined m l.live parts p → IsLawfulLine m l (Combination new parts p)

-- ---- what a group states, without the specification's part
