-- The axioms of an extended graph that weren't deleted, one by one and as live lines.
use Rattle.std.specs.Prelude.{◌≡◌, ℕ, List, [], ◌∷◌, ◌==◌, not, cond, filter}
use Rattle.std.specs.declared.option.Option.{Option}
use Rattle.std.specs.declared.option.Option.TheVariants.{None}
use Rattle.std.specs.Option.{option_map}
use Rattle.graph_core.specs.Graph.Assignments.{Assignment, bit, literal}
use Rattle.graph_core.specs.Graph.Extended.{Extended}
use Rattle.algebra_core.specs.AlgebraLines.{LiveLine, axioms, gate_axiom, line_of}
use Rattle.algebra_core.specs.Polynomials.{difference}
use Rattle.poly_terms.specs.Tables.{Table, Sum, modulus_in, value_in}
use Rattle.gate_axioms.specs.declared.left_axioms.Axiom.{Axiom}
use Rattle.gate_axioms.specs.declared.left_axioms.Axiom.TheVariants as kinds

-- the value of an axiom, modulo m
abbrev pub axiom_value : ℕ → Axiom → Assignment → ℕ
axiom_value m (kinds.Gate gate) σ = (gate_axiom m gate).value σ
axiom_value m (kinds.Column old new) σ = difference m (bit (literal σ old)) (bit (literal σ new))

-- at every assignment the polynomial has the value of the axiom
abbrev pub HasAxiomValue : Table → Sum → Axiom → Type 0
HasAxiomValue t p given = (σ : Assignment) → value_in t p σ ≡ axiom_value (modulus_in t) given σ

-- an axiom under an id, as a live line
abbrev pub axiom_line : ℕ → ℕ → Option Axiom → Option LiveLine
axiom_line m id found = option_map (λ given. record { id = id; value = axiom_value m given }) found

-- What contracts see of the axioms that are left: the extended graph, and the ids of those that were deleted.
pub record LeftAxioms : Type 0 where
  pub extended : Extended
  pub deleted : List ℕ

-- the axioms of an extended graph, where those of some ids are deleted
abbrev pub axioms_but : Extended → List ℕ → List LiveLine
axioms_but e [] = (axioms e).live
axioms_but e (id ∷ ids) = filter (λ l. not (l.id == id)) (axioms_but e ids)

abbrev pub left_lines : LeftAxioms → List LiveLine
left_lines left = axioms_but left.extended left.deleted

-- The axiom of an id isn't left any more, and the others are as before.
pub record Deletes (id : ℕ) (old new : LeftAxioms) : Type 0 where
  pub extended : new.extended ≡ old.extended
  pub lines : (other : ℕ) → line_of (left_lines new) other ≡ cond (other == id) None (line_of (left_lines old) other)
