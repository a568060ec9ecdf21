-- A remainder over inputs alone, by which a live line differs from the specification.
use Rattle.std.specs.Prelude.{◌≡◌, ℕ, List}
use Rattle.std.specs.declared.option.Option.TheVariants.{None}
use Rattle.graph_core.specs.Graph.Assignments.{Assignment}
use Rattle.graph_core.specs.Graph.Operands.{Sides}
use Rattle.graph_core.specs.Graph.Extended.{Extended, modulus}
use Rattle.algebra_core.specs.AlgebraLines.{Line, AreLawfulLines, IsLive, LiveLine, after_all, axioms, specification, value_of}
use Rattle.algebra_core.specs.Polynomials.{Polynomial, difference, value}
use Rattle.frontier_core.specs.Frontier.{frontier_value}
use Rattle.frontier_core.specs.LastFrontier.{IsEnd, IsOverInputs}
use Rattle.pac_writer.specs.Writing.{Made}
use Rattle.poly_terms.specs.Tables.{Table, Sum, Extends, IsOf, monomials_in, value_in}

-- A polynomial over inputs alone, and a live line that is the specification minus it.
pub record IsLineRest (e : Extended) (s : Sides) (t : Table) (live : List LiveLine) (poly : Sum) (id : ℕ) : Type 0 where
  pub of : IsOf t poly
  pub over : IsOverInputs e.graph.inputs (monomials_in t poly)
  pub line : IsLive live id
  pub differs : (σ : Assignment) → value_of live id σ ≡ difference (modulus e) (specification e s σ) (value_in t poly σ)

-- Lines go on: they are over the same graph and operands, the table has grown at most, and they aren't closed.
pub record GoesOn (old new : Made) : Type 0 where
  pub extended : new.extended ≡ old.extended
  pub sides : new.sides ≡ old.sides
  pub table : Extends old.table new.table
  pub unclosed : new.closing ≡ None

-- Whatever lawful lines led to it, such a polynomial has the last frontier's value at every assignment.
abbrev pub LineRestIsLastFrontier : Type 0
LineRestIsLastFrontier = (e : Extended) (s : Sides) (added eliminated : List ℕ) (lines : List Line) (id : ℕ) (r : Polynomial) →
    IsEnd e s added eliminated → AreLawfulLines (modulus e) (axioms e) lines → IsOverInputs e.graph.inputs r →
    ((σ : Assignment) → value_of (after_all (modulus e) (axioms e) lines).live id σ ≡ difference (modulus e) (specification e s σ) (value (modulus e) r σ)) →
    (σ : Assignment) → value (modulus e) r σ ≡ frontier_value e s added eliminated σ
