-- What a reduction ends with: the graph's value minus what it is claimed to be, over the inputs alone.
use Rattle.std.specs.Prelude.{◌≡◌, ℕ, true, ◌↔◌, Bool, List, map, length}
use Rattle.std.specs.List.{All}
use Rattle.graph_core.specs.declared.literal.Lit.{Lit}
use Rattle.graph_core.specs.Graph.Literals.{variable_of}
use Rattle.graph_core.specs.Graph.Assignments.{Assignment, literal}
use Rattle.graph_core.specs.Graph.{IsEvaluation, of_inputs, evaluated}
use Rattle.graph_core.specs.Graph.Operands.{Sides, ReadInputs, MeetsClaim, claimed, value_at_inputs}
use Rattle.algebra_core.specs.Polynomials.{Polynomial, value, difference}
use Rattle.algebra_core.specs.NormalForm.{IsNormalForm}
use Rattle.graph_core.specs.Graph.Extended.{Extended, modulus, AgreeOnColumns}
use Rattle.ripple_graft.specs.Extension.{IsExtension}
use Rattle.frontier_core.specs.Sets.{has}
use Rattle.frontier_core.specs.Frontier.{IsLastFrontier, frontier_value}

-- the replaced columns' old and new outputs are equal on every evaluation
abbrev pub AgreeEverywhere : Extended → Type 0
AgreeEverywhere e = (ρ : Assignment) → IsEvaluation e.gates ρ → AgreeOnColumns e ρ

-- What is asked of a last frontier: its graph has no fault, the operands are read from the inputs, and the replaced columns agree.
pub record IsEnd (e : Extended) (s : Sides) (added eliminated : List ℕ) : Type 0 where
  pub extension : IsExtension e
  pub inputs : ReadInputs e.graph s
  pub agree : AgreeEverywhere e
  pub last : IsLastFrontier e added eliminated

-- The last frontier is the graph's value minus what it is claimed to be, at every assignment.
abbrev pub LastFrontierIsError : Type 0
LastFrontierIsError = (e : Extended) (s : Sides) (added eliminated : List ℕ) (σ : Assignment) → IsEnd e s added eliminated →
    frontier_value e s added eliminated σ ≡ difference (modulus e) (value_at_inputs e.graph (map (literal σ) e.graph.inputs)) (claimed (modulus e) s σ)

-- So at given values of the inputs.
abbrev pub LastFrontierAtInputs : Type 0
LastFrontierAtInputs = (e : Extended) (s : Sides) (added eliminated : List ℕ) (bits : List Bool) →
    IsEnd e s added eliminated → length bits ≡ length e.graph.inputs →
    frontier_value e s added eliminated (of_inputs e.graph.inputs bits) ≡
    difference (modulus e) (value_at_inputs e.graph bits) (claimed (modulus e) s (evaluated e.graph bits))

-- It is 0 at every assignment exactly where the graph meets the claim.
abbrev pub LastFrontierDecides : Type 0
LastFrontierDecides = (e : Extended) (s : Sides) (added eliminated : List ℕ) → IsEnd e s added eliminated →
    (((σ : Assignment) → frontier_value e s added eliminated σ ≡ 0) ↔ MeetsClaim e.graph s)

-- each variable is an input's
abbrev pub IsOverInputs : List Lit → Polynomial → Type 0
IsOverInputs ls p = All (λ t. All (λ v. has (map variable_of ls) v ≡ true) t.variables) p

-- Its normal form is over the inputs alone.
abbrev pub LastFrontierIsOverInputs : Type 0
LastFrontierIsOverInputs = (e : Extended) (s : Sides) (added eliminated : List ℕ) (p : Polynomial) → IsEnd e s added eliminated →
    IsNormalForm (modulus e) p → ((σ : Assignment) → value (modulus e) p σ ≡ frontier_value e s added eliminated σ) → IsOverInputs e.graph.inputs p
