-- Lines that are known, and a line that is put together from them. Private clauses alone cite this file.
use Rattle.std.specs.Prelude.{◌≡◌, ℕ, ◌+◌, ◌%◌, ◌≤◌, List, length}
use Rattle.std.specs.List.{All}
use Rattle.graph_core.specs.Graph.Assignments.{Assignment}
use Rattle.algebra_core.specs.AlgebraLines.{LiveLine, IsCombined, IsLive, axioms, combined, specification, value_of}
use Rattle.graph_core.specs.Graph.Extended.{Extended, modulus}
use Rattle.algebra_core.specs.Polynomials.{difference}
use Rattle.graph_core.specs.Graph.Operands.{Sides}
use Rattle.frontier_core.specs.LastFrontier.{IsOverInputs}
use Rattle.poly_terms.specs.Tables.{Table, Sum, IsOf, modulus_in, monomials_in, value_in}
use Rattle.poly_text.specs.Lines.{parts_in}
use Rattle.frontier_core.specs.Pending.{AreSpare}
use Rattle.pac_writer.specs.Writing.{ArePartsOver, IsOver, Made, written_ledger}
use Rattle.line_drafts.specs.declared.known.Known.{Known}
use Rattle.line_drafts.specs.declared.open_draft.OpenDraft.{OpenDraft}
use Rattle.line_drafts.specs.declared.line.Ready.{Ready}

-- A live line, and a polynomial of the table with its value at every assignment.
pub record IsKnownIn (t : Table) (live : List LiveLine) (k : Known) : Type 0 where
  pub of : IsOf t k.poly
  pub line : IsLive live k.id
  pub value : (σ : Assignment) → value_in t k.poly σ ≡ value_of live k.id σ

-- Parts that a line can have, and the sum of their lines, each times its factor.
pub record IsOpen (max : ℕ) (t : Table) (live : List LiveLine) (o : OpenDraft) : Type 0 where
  pub over : All (λ p. IsOver max t p.1) o.parts.items
  pub spare : AreSpare (modulus_in t) live (parts_in t o.parts.items)
  pub low : All (λ p. p.0 ≤ o.last) o.parts.items
  pub of : IsOf t o.sum
  pub sum : (σ : Assignment) → value_in t o.sum σ ≡ combined (modulus_in t) live (parts_in t o.parts.items) σ % modulus_in t

-- A line that can be put after these live lines, and its polynomial once more.
pub record IsReady (max : ℕ) (t : Table) (live : List LiveLine) (r : Ready) : Type 0 where
  pub over : ArePartsOver max t r.parts.items r.poly
  pub spare : AreSpare (modulus_in t) live (parts_in t r.parts.items)
  pub equal : IsCombined (modulus_in t) live (parts_in t r.parts.items) (monomials_in t r.poly)
  pub copy_of : IsOf t r.copy
  pub copy : (σ : Assignment) → value_in t r.copy σ ≡ value_in t r.poly σ

-- A line that is live after those that were written, and its polynomial.
pub record IsKnownOf (l : Made) (k : Known) : Type 0 where
  pub known : IsKnownIn l.table (written_ledger l).live k
  pub low : k.id ≤ l.last

-- An axiom, and its polynomial.
pub record IsAxiomOf (e : Extended) (t : Table) (k : Known) : Type 0 where
  pub known : IsKnownIn t (axioms e).live k
  pub low : k.id ≤ e.max + length e.graph.outputs

-- The specification minus what a line states: a polynomial over inputs alone.
pub record IsLeft (e : Extended) (s : Sides) (t0 t : Table) (total poly : Sum) : Type 0 where
  pub of : IsOf t poly
  pub over : IsOverInputs e.graph.inputs (monomials_in t poly)
  pub left : (σ : Assignment) → value_in t0 total σ ≡ difference (modulus e) (specification e s σ) (value_in t poly σ)
