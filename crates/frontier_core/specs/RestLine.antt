-- The line by which the rest of a reduction differs from the specification, as columns are added and gates eliminated.
use Rattle.std.specs.Prelude.{◌≡◌, ◌≢◌, ℕ, ◌+◌, ◌*◌, ◌%◌, ◌^◌, ◌<◌, true, false, List, [], ◌∷◌, length, slice_get}
use Rattle.std.specs.declared.option.Option.TheVariants.{Some}
use Rattle.std.specs.List.{All}
use Rattle.graph_core.specs.declared.literal.Lit.{Lit}
use Rattle.graph_core.specs.declared.gate.Gate.{Gate}
use Rattle.graph_core.specs.Graph.Literals.{variable_of}
use Rattle.graph_core.specs.Graph.Assignments.{Assignment, literal, bit}
use Rattle.graph_core.specs.Graph.Operands.{Sides}
use Rattle.algebra_core.specs.Polynomials.{difference}
use Rattle.graph_core.specs.Graph.Extended.{Extended, modulus}
use Rattle.algebra_core.specs.AlgebraLines.{gate_axiom, specification}
use Rattle.ripple_graft.specs.Extension.{new_outputs}
use Rattle.frontier_core.specs.Sets.{has}
use Rattle.frontier_core.specs.Columns.{column_value, columns_sum}
use Rattle.frontier_core.specs.Substitution.{gate_value, quotient, substituted}

-- the part of the specification that the added columns make up, with the graph's own outputs
abbrev pub partial_specification : Extended → Sides → List ℕ → Assignment → ℕ
partial_specification e s added σ = columns_sum (modulus e) s added 0 e.graph.outputs σ % modulus e

-- A line's value is that part minus the rest, at every assignment.
abbrev pub IsRestLine : Extended → Sides → List ℕ → (Assignment → ℕ) → (Assignment → ℕ) → Type 0
IsRestLine e s added line rest = (σ : Assignment) → line σ ≡ difference (modulus e) (partial_specification e s added σ) (rest σ)

-- At first the rest is 0, and so is the line.
abbrev pub RestLineStarts : Type 0
RestLineStarts = (e : Extended) (s : Sides) (line rest : Assignment → ℕ) → ((σ : Assignment) → line σ ≡ 0) →
    ((σ : Assignment) → rest σ ≡ 0) → IsRestLine e s [] line rest

-- A column adds 2 ^ k times its old output minus its new one to the line: nothing, where they are one literal.
abbrev pub AddingKeepsRestLine : Type 0
AddingKeepsRestLine = (e : Extended) (s : Sides) (added : List ℕ) (k : ℕ) (o r : Lit) (line rest next : Assignment → ℕ) → IsRestLine e s added line rest →
    slice_get e.graph.outputs k ≡ Some o → slice_get (new_outputs e) k ≡ Some r → has added k ≡ false →
    ((σ : Assignment) → next σ ≡ (rest σ + column_value e s k r σ) % modulus e) →
    ((more : Assignment → ℕ) → ((σ : Assignment) → more σ ≡ (line σ + 2 ^ k * difference (modulus e) (bit (literal σ o)) (bit (literal σ r))) % modulus e) →
    IsRestLine e s (k ∷ added) more next) ×
    (o ≡ r → IsRestLine e s (k ∷ added) line next)

-- Eliminating a gate adds its axiom times minus the quotient by its variable: nothing, where the quotient is 0.
abbrev pub EliminatingKeepsRestLine : Type 0
EliminatingKeepsRestLine = (e : Extended) (s : Sides) (added : List ℕ) (x : Gate) (line rest next : Assignment → ℕ) →
    IsRestLine e s added line rest → 0 < x.v →
    ((σ : Assignment) → next σ ≡ substituted (modulus e) x.v (gate_value x) rest σ) →
    ((more : Assignment → ℕ) →
    ((σ : Assignment) → more σ ≡ (line σ + (gate_axiom (modulus e) x).value σ * difference (modulus e) 0 (quotient (modulus e) x.v rest σ)) % modulus e) →
    IsRestLine e s added more next) ×
    (((σ : Assignment) → quotient (modulus e) x.v rest σ ≡ 0) → IsRestLine e s added line next)

-- At last the part is the specification, so the line is the specification minus the rest.
abbrev pub RestLineEnds : Type 0
RestLineEnds = (e : Extended) (s : Sides) (added : List ℕ) (line rest : Assignment → ℕ) →
    ((k : ℕ) → k < length e.graph.outputs → has added k ≡ true) → IsRestLine e s added line rest →
    (σ : Assignment) → line σ ≡ difference (modulus e) (specification e s σ) (rest σ)

-- So where the rest is 0, the line has the specification's value.
abbrev pub ZeroRestCloses : Type 0
ZeroRestCloses = (e : Extended) (s : Sides) (added : List ℕ) (line rest : Assignment → ℕ) →
    ((k : ℕ) → k < length e.graph.outputs → has added k ≡ true) → IsRestLine e s added line rest →
    ((σ : Assignment) → rest σ ≡ 0) → (σ : Assignment) → line σ ≡ specification e s σ

-- the lowest bits of the operands are two inputs, and no bit of the addend is one of them
pub record HaveLowestBits (s : Sides) (a b : Lit) : Type 0 where
  pub a_is : slice_get s.a 0 ≡ Some a
  pub b_is : slice_get s.b 0 ≡ Some b
  pub a_even : a.0 % 2 ≡ 0
  pub b_even : b.0 % 2 ≡ 0
  pub a_variable : 0 < variable_of a
  pub b_variable : 0 < variable_of b
  pub apart : variable_of a ≢ variable_of b
  pub addend : All (λ l. (l.0 % 2 ≡ 0) × (variable_of l ≢ variable_of a) × (variable_of l ≢ variable_of b)) s.c

-- The specification isn't 0 everywhere, so a line with its value is no line of value 0.
abbrev pub SpecificationIsNotZero : Type 0
SpecificationIsNotZero = (e : Extended) (s : Sides) (a b : Lit) → HaveLowestBits s a b → 0 < length e.graph.outputs →
    ((σ : Assignment) → specification e s σ ≡ 0) → ⊥
