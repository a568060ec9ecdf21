-- Lines that close.
use Rattle.std.proofs.Common.{inl, inr, ◌≡◌, ℕ, List, [], refl, sym, ap, subst, ◌∙◌}
use Rattle.std.specs.declared.option.Option.TheVariants.{None, Some}
use Rattle.std.proofs.lemmas.Bool.{true≢false}
use Rattle.std.proofs.lemmas.List.{append-nil}
use Rattle.graph_core.specs.Graph.Assignments.{Assignment}
use Rattle.clause_core.specs.Clause.{Clause}
use Rattle.graph_core.specs.Graph.Operands.{Sides}
use Rattle.graph_core.specs.Graph.Extended.{AgreeOnColumns, Extended}
use Rattle.graph_core.specs.Graph.Extended as graphs
use Rattle.algebra_core.specs.AlgebraLines.{Closes, IsLive, LiveLine, line_of, specification, value_of}
use Rattle.algebra_core.specs.InRange.{IsRefusedCloseInRange}
use Rattle.algebra_core.specs.Refusal as cause
use Rattle.algebra_core.specs.Refusal.{AlgebraCause}
use Rattle.algebra_core.proofs.CallerLemmas.{closes_agrees, refused_close_in_range_agrees}
use Rattle.mv_fact.specs.Always.{Always}
use Rattle.mv_fact.specs.Facts.{Facts, fact_at}
use Rattle.poly_terms.specs.Tables.{Table, Sum, Extends, IsOf, modulus_in, value_in}
use Rattle.poly_terms.specs.Laws.{value_stays}
use Rattle.gate_axioms.specs.Axioms.{HasSpecificationValue}
use Rattle.gate_axioms.specs.declared.left_axioms.Axiom.{Axiom}
use Rattle.gate_axioms.specs.LeftAxioms.{LeftAxioms, HasAxiomValue, axiom_value, axioms_but, left_lines}
use Rattle.gate_axioms.specs.Lines.{live_lines_in}
use Rattle.gate_axioms.proofs.CallerLemmas.{left_zero}
use Rattle.pac_checker.specs.declared.fault.CloseFault.{CloseFault}
use Rattle.pac_checker.specs.declared.fault.CloseFault.TheVariants as close
use Rattle.pac_checker.specs.Checking.{AlgebraChecking, GrowsCheckedTable, IsClosedBy, SpecificationVanishes, checking_of, ledger_of}
use Rattle.pac_checker.specs.Faults.{IsCloseFault, IsClosingFault}
use Rattle.pac_checker.specs.Rules.{AreEqual, Differ, IsAxiomOf}
use Rattle.pac_checker.proofs.Entries.{there, there_in_front, gone, value_in_front, value_of-entry}

module _ (added : List Clause) (a : LeftAxioms) (sides : Sides) (facts : Facts Sum Table) (last id : ℕ) where
  pub close_missing : line_of (left_lines a) id ≡ None → fact_at facts.entries id ≡ None → IsCloseFault a.extended sides (ledger_of (checking_of added a sides facts last)) id (close.NoSuchLine id)
  close_missing front none = inl ((λ live. true≢false (sym live ∙ gone (left_lines a) facts.table facts.entries id front none)), refl)

  pub closes_equal : (p wanted : Sum) → line_of (left_lines a) id ≡ None → fact_at facts.entries id ≡ Some p → HasSpecificationValue facts.table wanted a.extended sides → AreEqual facts.table p wanted →
      Closes a.extended sides (ledger_of (checking_of added a sides facts last)).live id
  closes_equal p wanted front found is same =
      (there (left_lines a) facts.table facts.entries id front p found, λ σ. value_of-entry (left_lines a) facts.table facts.entries id front p found σ ∙ same σ ∙ is σ)

  pub closes_unequal : (p wanted : Sum) → line_of (left_lines a) id ≡ None → fact_at facts.entries id ≡ Some p → HasSpecificationValue facts.table wanted a.extended sides → Differ facts.table p wanted →
      IsCloseFault a.extended sides (ledger_of (checking_of added a sides facts last)) id close.NotSpec
  closes_unequal p wanted front found is apart =
      inr (
        there (left_lines a) facts.table facts.entries id front p found,
        inl ((apart.0, λ same. apart.1 (sym (value_of-entry (left_lines a) facts.table facts.entries id front p found apart.0) ∙ same ∙ sym (is apart.0))), refl),
      )

-- ---- an axiom

module _ (c : AlgebraChecking) (id : ℕ) (given : Axiom) (left : IsAxiomOf c id given) where
  abbrev line_given : LiveLine
  line_given = record { id = id; value = axiom_value (graphs.modulus c.extended) given }

  given_value : (σ : Assignment) → value_of (ledger_of c).live id σ ≡ axiom_value (graphs.modulus c.extended) given σ
  given_value σ = value_in_front (axioms_but c.extended c.deleted) (live_lines_in c.table c.entries) id line_given left σ

  given_there : IsLive (ledger_of c).live id
  given_there = there_in_front (axioms_but c.extended c.deleted) (live_lines_in c.table c.entries) id line_given left

  -- an axiom that closes shows that the specification vanishes
  pub axiom_vanishes : Always c.extended.gates (AgreeOnColumns c.extended) → IsClosedBy c id → SpecificationVanishes c
  axiom_vanishes columns closes σ evaluates =
      sym (closes.1 σ) ∙ given_value σ ∙ sym (value_in_front (axioms_but c.extended c.deleted) [] id line_given left σ) ∙
      ap (λ ls. value_of ls id σ) (append-nil (axioms_but c.extended c.deleted)) ∙ left_zero (record { extended = c.extended; deleted = c.deleted }) σ id evaluates (columns σ evaluates)

  -- the polynomial of the axiom in a table that has grown
  module _ (new : Table) (p wanted : Sum) (modulus : modulus_in new ≡ graphs.modulus c.extended) (grown : Extends c.table new) (of : IsOf c.table wanted) (made : HasAxiomValue new p given) (is : HasSpecificationValue c.table wanted c.extended c.sides) where
    poly_value : (σ : Assignment) → value_in new p σ ≡ axiom_value (graphs.modulus c.extended) given σ
    poly_value σ = made σ ∙ ap (λ m. axiom_value m given σ) modulus

    wanted_value : (σ : Assignment) → value_in new wanted σ ≡ specification c.extended c.sides σ
    wanted_value σ = value_stays c.table new wanted σ grown of ∙ is σ

    pub axiom_closes : AreEqual new p wanted → IsClosedBy c id
    axiom_closes same = (given_there, λ σ. given_value σ ∙ sym (poly_value σ) ∙ same σ ∙ wanted_value σ)

    pub axiom_differs : Differ new p wanted → IsClosingFault c id close.NotSpec
    axiom_differs apart = inr (given_there, inl ((apart.0, λ same. apart.1 (poly_value apart.0 ∙ sym (given_value apart.0) ∙ same ∙ sym (wanted_value apart.0))), refl))

-- ---- over a table that has grown

module _ (old mid : AlgebraChecking) (g : GrowsCheckedTable old mid) where
  pub closes_grown : (id : ℕ) → IsClosedBy mid id → IsClosedBy old id
  closes_grown id h =
      closes_agrees old.extended old.sides (ledger_of mid) (ledger_of old) g.ledger id
      (subst (λ (s : Sides). Closes old.extended s (ledger_of mid).live id) g.sides (subst (λ (e : Extended). Closes e mid.sides (ledger_of mid).live id) g.extended h))

  pub vanishes_grown : SpecificationVanishes mid → SpecificationVanishes old
  vanishes_grown h =
      subst (λ (s : Sides). Always old.extended.gates (λ σ. specification old.extended s σ ≡ 0)) g.sides (subst (λ (e : Extended). Always e.gates (λ σ. specification e mid.sides σ ≡ 0)) g.extended h)

  cause_grown : (id : ℕ) (why : AlgebraCause) → IsRefusedCloseInRange mid.extended mid.sides (ledger_of mid) id why → IsRefusedCloseInRange old.extended old.sides (ledger_of old) id why
  cause_grown id why h =
      refused_close_in_range_agrees old.extended old.sides (ledger_of mid) (ledger_of old) g.ledger id why
      (subst (λ (s : Sides). IsRefusedCloseInRange old.extended s (ledger_of mid) id why) g.sides (subst (λ (e : Extended). IsRefusedCloseInRange e mid.sides (ledger_of mid) id why) g.extended h))

  pub fault_grown : (id : ℕ) (fault : CloseFault) → IsClosingFault mid id fault → IsClosingFault old id fault
  fault_grown id (close.NoSuchLine missing) h = cause_grown id (cause.NoSuchLine missing) h
  fault_grown id close.NotSpec h = cause_grown id cause.NotSpecification h
  fault_grown id close.Memory h = tt
