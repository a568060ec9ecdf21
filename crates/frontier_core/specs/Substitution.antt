-- A variable taken out of a function and replaced by another function.
use Rattle.std.specs.Prelude.{◌≡◌, ℕ, ◌+◌, ◌*◌, ◌%◌, ◌<◌, Bool, true, false, List, ◌∷◌}
use Rattle.std.specs.List.{All, Contains}
use Rattle.graph_core.specs.declared.gate.Gate.{Gate}
use Rattle.graph_core.specs.Graph.Assignments.{Assignment, variable, literal, bit}
use Rattle.graph_core.specs.Graph.Operands.{Sides}
use Rattle.algebra_core.specs.Polynomials.{Polynomial, product, value, difference}
use Rattle.algebra_core.specs.NormalForm.{IsNormalForm}
use Rattle.graph_core.specs.Graph.Extended.{Extended, modulus}
use Rattle.ripple_graft.specs.Extension.{IsExtension}
use Rattle.frontier_core.specs.Sets.{has, without}
use Rattle.frontier_core.specs.Frontier.{IsFrontier, frontier_value, set_to}

-- the product of a gate's operands
abbrev pub gate_value : Gate → Assignment → ℕ
gate_value x σ = bit (literal σ x.left) * bit (literal σ x.right)

-- A function is v times its quotient by v, plus its value where v is false: the quotient is its value where v is true minus that.
abbrev pub quotient : ℕ → ℕ → (Assignment → ℕ) → Assignment → ℕ
quotient m v f σ = difference m (f (set_to v true σ)) (f (set_to v false σ))

-- The function with the variable v replaced by another function's value: its value where v is false, and the other one's
-- times the quotient.
abbrev pub substituted : ℕ → ℕ → (Assignment → ℕ) → (Assignment → ℕ) → Assignment → ℕ
substituted m v g f σ = (f (set_to v false σ) + g σ * quotient m v f σ) % m

-- a polynomial in which a variable doesn't occur
abbrev pub IsFreeOf : ℕ → Polynomial → Type 0
IsFreeOf v p = All (λ t. has t.variables v ≡ false) p

-- Where the function that is put in is 0 or 1, the variable's value is changed.
abbrev pub SubstitutingSets : Type 0
SubstitutingSets = (m v : ℕ) (g f : Assignment → ℕ) (σ : Assignment) (b : Bool) → 0 < m → g σ ≡ bit b → substituted m v g f σ ≡ f (set_to v b σ) % m

-- The variable times the quotient, plus the value where the variable is false, is the function.
abbrev pub QuotientSplits : Type 0
QuotientSplits = (m v : ℕ) (f : Assignment → ℕ) (σ : Assignment) → 0 < m → 0 < v → (bit (variable σ v) * quotient m v f σ + f (set_to v false σ)) % m ≡ f σ % m

-- Where a function has the frontier's value, and another one has its value with the gate's product in place of the gate's
-- variable, the other one has the next frontier's value.
abbrev pub EliminatingSubstitutes : Type 0
EliminatingSubstitutes = (e : Extended) (s : Sides) (added eliminated : List ℕ) (x : Gate) (f h : Assignment → ℕ) →
    IsExtension e → IsFrontier e added eliminated →
    Contains e.gates x → has eliminated x.v ≡ false →
    ((σ : Assignment) → f σ ≡ frontier_value e s added eliminated σ) →
    ((σ : Assignment) → h σ ≡ substituted (modulus e) x.v (gate_value x) f σ) →
    (σ : Assignment) → h σ ≡ frontier_value e s added (x.v ∷ eliminated) σ

-- The same, where the other one is told by a change of the variable's value.
abbrev pub EliminatingReplaces : Type 0
EliminatingReplaces = (e : Extended) (s : Sides) (added eliminated : List ℕ) (x : Gate) (f h : Assignment → ℕ) →
    IsExtension e → IsFrontier e added eliminated →
    Contains e.gates x → has eliminated x.v ≡ false →
    ((σ : Assignment) → f σ ≡ frontier_value e s added eliminated σ) →
    ((σ : Assignment) (b : Bool) → gate_value x σ ≡ bit b → h σ ≡ f (set_to x.v b σ)) →
    (σ : Assignment) → h σ ≡ frontier_value e s added (x.v ∷ eliminated) σ

-- Where a polynomial is v times c plus d, and v occurs in neither, c is its quotient by v, and what is substituted for v goes with c.
abbrev pub SplittingSubstitutes : Type 0
SplittingSubstitutes = (m v : ℕ) (p c d : Polynomial) → 0 < m → 0 < v → IsFreeOf v c → IsFreeOf v d →
    ((σ : Assignment) → value m p σ ≡ (bit (variable σ v) * value m c σ + value m d σ) % m) →
    ((σ : Assignment) → quotient m v (value m p) σ ≡ value m c σ) ×
    ((g : Assignment → ℕ) (σ : Assignment) → substituted m v g (value m p) σ ≡ (g σ * value m c σ + value m d σ) % m)

-- A product with the variable v is v times the product without it.
abbrev pub VariableIsTakenOut : Type 0
VariableIsTakenOut = (v : ℕ) (vs : List ℕ) → (has (without v vs) v ≡ false) ×
    (has vs v ≡ true → (σ : Assignment) → product σ vs ≡ bit (variable σ v) * product σ (without v vs))

-- A normal form whose value doesn't change with a variable doesn't have the variable.
abbrev pub UnusedVariableIsAbsent : Type 0
UnusedVariableIsAbsent = (m v : ℕ) (p : Polynomial) → 0 < v → IsNormalForm m p →
    ((σ : Assignment) → value m p (set_to v true σ) ≡ value m p (set_to v false σ)) → IsFreeOf v p
