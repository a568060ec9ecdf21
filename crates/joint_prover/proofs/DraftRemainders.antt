-- What lines from drafts leave is the remainder of any plan.
use Rattle.std.specs.Prelude.{◌≡◌, ℕ, List, length}
use Rattle.std.proofs.Common.{inr, sym, ap, subst, ◌∙◌}
use Rattle.std.proofs.Math.Seq.{take-length}
use Rattle.algebra_core.specs.AlgebraLines.{AreLawfulLines, after_all, axioms, specification, value_of}
use Rattle.algebra_core.specs.Polynomials.{difference, value}
use Rattle.column_reducer.specs.Reducing.{planned, value_after}
use Rattle.frontier_core.specs.LastFrontier.{IsEnd}
use Rattle.frontier_core.specs.Plan.{IsPlan, Taken, nothing, taken, value_of_taken}
use Rattle.frontier_core.specs.declared.step.Step.{Step}
use Rattle.graph_core.specs.Graph.Assignments.{Assignment}
use Rattle.graph_core.specs.Graph.Extended.{Extended, modulus}
use Rattle.graph_core.specs.Graph.Operands.{Sides}
use Rattle.line_drafts.specs.LineRests.{GoesOn, IsLineRest}
use Rattle.line_drafts.proofs.LineRests.{line_rest_is_last_frontier}
use Rattle.pac_writer.specs.Writing.{AreLawfulSoFar, Made, written_ledger}
use Rattle.poly_terms.specs.Laws.{modulus_stays}
use Rattle.poly_terms.specs.Tables.{Sum, modulus_in, monomials_in, value_in}
use Rattle.joint_prover.specs.Endings.{AreFew, IsRemainder, IsStart}
use Rattle.joint_prover.proofs.Remainders.{reads_inputs}

module _ (l after : Made) (start : IsStart l) (goes : GoesOn l after) (lawful : AreLawfulSoFar after) (steps : List Step) (plan : IsPlan l.extended steps) (poly : Sum) (id : ℕ)
    (left : IsLineRest after.extended after.sides after.table (written_ledger after).live poly id) where
  abbrev e : Extended
  e = l.extended

  abbrev s : Sides
  s = l.sides

  abbrev f : Taken
  f = taken nothing steps

  is_end : IsEnd e s f.added f.eliminated
  is_end = record {
    extension = start.extension;
    inputs = reads_inputs l start;
    agree = start.agree;
    last = plan.last;
  }

  same_modulus : modulus_in after.table ≡ modulus e
  same_modulus = modulus_stays l.table after.table goes.table ∙ start.same_modulus

  here : IsLineRest e s after.table (written_ledger after).live poly id
  here = subst (λ x. IsLineRest x s after.table (written_ledger after).live poly id) goes.extended
      (subst (λ t. IsLineRest after.extended t after.table (written_ledger after).live poly id) goes.sides left)

  are_lawful : AreLawfulLines (modulus e) (axioms e) after.lines
  are_lawful = subst (λ x. AreLawfulLines (modulus x) (axioms x) after.lines) goes.extended lawful.lawful

  differs : (σ : Assignment) → value_of (after_all (modulus e) (axioms e) after.lines).live id σ ≡ difference (modulus e) (specification e s σ) (value (modulus e) (monomials_in after.table poly) σ)
  differs σ =
      sym (ap (λ x. value_of (after_all (modulus x) (axioms x) after.lines).live id σ) goes.extended) ∙ here.differs σ ∙
      ap (λ m. difference (modulus e) (specification e s σ) (value m (monomials_in after.table poly) σ)) same_modulus

  last : (σ : Assignment) → value_in after.table poly σ ≡ value_after (planned e steps 0) s (length steps) σ
  last σ =
      ap (λ m. value m (monomials_in after.table poly) σ) same_modulus ∙
      line_rest_is_last_frontier e s f.added f.eliminated after.lines id (monomials_in after.table poly) is_end are_lawful here.over differs σ ∙
      sym (ap (λ ss. value_of_taken e s (taken nothing ss) σ) (take-length steps))

  pub draft_remainder : AreFew after → IsRemainder l after poly id
  draft_remainder few = record {
    steps = steps;
    uncounted = 0;
    plan = plan;
    goes_on = record { extended = goes.extended; sides = goes.sides; table = goes.table; unclosed = goes.unclosed };
    rest = record { of = here.of; last = last; line = inr here.line; differs = here.differs };
    few = few;
  }
