-- What a checker has found makes an import lawful, or refuses it.
use Rattle.std.specs.Prelude.{◌≡◌, ◌<◌, ◌%◌, ℕ, zero, suc, true, is_some, List, [], ◌∷◌, map, slice_get}
use Rattle.std.specs.declared.option.Option.TheVariants.{Some}
use Rattle.std.specs.declared.result.Result.{Result}
use Rattle.std.specs.declared.result.Result.TheVariants.{Ok, Err}
use Rattle.std.specs.Result.{IfErr, OnOk}
use Rattle.std.specs.List.{All}
use Rattle.std.proofs.Common.{inl, inr, refl, sym, ap, subst, ◌∙◌, arith}
use Rattle.std.proofs.lemmas.List.Elements.{All-nil}
use Rattle.clause_core.specs.Clause.{Clause}
use Rattle.clause_core.specs.Facts.{IsClauseFact}
use Rattle.gate_axioms.specs.ClauseValues.{IsClausePoly, clause_value}
use Rattle.gate_axioms.specs.LeftAxioms.{LeftAxioms, left_lines}
use Rattle.gate_axioms.specs.Lines.{lines_of}
use Rattle.gate_axioms.specs.Steps.{KeepsLines, Vanishes}
use Rattle.gate_axioms.proofs.CallerLemmas.{clause_values}
use Rattle.graph_core.specs.declared.gate.Gate.{Gate}
use Rattle.graph_core.specs.Graph.Assignments.{Assignment}
use Rattle.graph_core.specs.Graph.Operands.{Sides}
use Rattle.algebra_core.specs.Polynomials.{value}
use Rattle.algebra_core.specs.AlgebraLines.{Ledger, IsLive, import_of, import_or_zero, introduce}
use Rattle.graph_core.specs.Graph.Extended as graphs
use Rattle.algebra_core.proofs.CallerLemmas.{agree_trans, imports_refl}
use Rattle.mv_fact.specs.Facts.{Facts}
use Rattle.poly_terms.specs.Tables.{Table, Sum, IsOf, Extends, modulus_in, monomials_in, value_in}
use Rattle.poly_terms.specs.Laws.{modulus_stays, value_stays}
use Rattle.pac_checker.specs.declared.fault.LineFault.{LineFault}
use Rattle.pac_checker.specs.declared.fault.LineFault.TheVariants.{Id, NoSuchLine, NoSuchClause, NotEqual, Memory}
use Rattle.pac_checker.specs.Checking.{AlgebraChecking, TakesAlgebraLine, checking_of, ledger_of}
use Rattle.pac_checker.specs.Rules.{AreEqual, Introduces, IsCheckerSound, IsRefused, IsStatingFault, clause_numbered, import_line, lines_with}
use Rattle.pac_checker.proofs.Entries.{behind_same}
use Rattle.pac_checker.proofs.Lawful.{introduce_same}

-- ---- clauses by number

-- the clause of a number is one of the clauses
clause_among : (P : Clause → Type 0) (cs : List Clause) (number : ℕ) (c : Clause) → All P cs → clause_numbered cs number ≡ Some c → P c
clause_among P cs zero c all is = absurd (cc)
clause_among P cs (suc j) c all is = go cs j all is
  where
    go : (cs : List Clause) (j : ℕ) → All P cs → slice_get cs j ≡ Some c → P c
    go [] j all is = absurd (cc)
    go (d ∷ cs) zero all is = let same : d ≡ c = cc in subst P same (all 0 d (omega arith))
    go (d ∷ cs) (suc j) all is = go cs j (λ k e below. all (suc k) e (omega arith)) is

-- what may be imported under its number is its value
import_is : (cs : List Clause) (number : ℕ) (c : Clause) → clause_numbered cs number ≡ Some c → import_of (map clause_value cs) number ≡ Some (clause_value c)
import_is cs zero c is = absurd (cc)
import_is cs (suc j) c is = go cs j is
  where
    go : (cs : List Clause) (j : ℕ) → slice_get cs j ≡ Some c → slice_get (map clause_value cs) j ≡ Some (clause_value c)
    go [] j is = absurd (cc)
    go (d ∷ cs) zero is = let same : d ≡ c = cc in ap (λ x. Some (clause_value x)) same
    go (d ∷ cs) (suc j) is = go cs j is

-- ---- lawful imports

-- the polynomial of a clause that holds on every evaluation vanishes
pub clause_vanishes : (gates : List Gate) (cs : List Clause) (number : ℕ) (c : Clause) (t : Table) (p : Sum) → All (IsClauseFact gates) cs → clause_numbered cs number ≡ Some c → IsOf t p → IsClausePoly t p c → Vanishes gates t p
clause_vanishes gates cs number c t p facts there of is =
    record { of_table = of; always = λ σ evaluates. clause_values.polys_vanish t p c σ is ((clause_among (IsClauseFact gates) cs number c facts there).always σ evaluates) }

-- What is found of an import: the id is new, the clause is there, and a polynomial of a table that has grown has its value.
pub record IsImportOf (added : List Clause) (a : LeftAxioms) (s : Sides) (old mid : Facts Sum Table) (last id number : ℕ) (c : Clause) (p q : Sum) : Type 0 where
  pub sound : IsCheckerSound added a s old last
  pub keeps : KeepsLines old mid
  pub above : last < id
  pub of_table : IsOf old.table q
  pub there : clause_numbered added number ≡ Some c
  pub value : IsClausePoly mid.table p c

module _ (added : List Clause) (a : LeftAxioms) (s : Sides) (old mid : Facts Sum Table) (last id number : ℕ) (c : Clause) (p q : Sum) (h : IsImportOf added a s old mid last id number c p q) where
  abbrev imported : Assignment → ℕ
  imported σ = import_or_zero (import_of (map clause_value added) number) σ

  imported_is : (σ : Assignment) → imported σ ≡ clause_value c σ
  imported_is σ = ap (λ o. import_or_zero o σ) (import_is added number c h.there)

  -- the value that the rule names is that of the polynomial, and the stated one has that of the other polynomial
  named_is : (σ : Assignment) → value_in mid.table p σ ≡ imported σ % graphs.modulus a.extended
  named_is σ =
      h.value σ ∙ ap (λ m. clause_value c σ % m) (modulus_stays old.table mid.table h.keeps.table ∙ h.sound.same_modulus) ∙ ap (λ n. n % graphs.modulus a.extended) (sym (imported_is σ))

  stated_is : (σ : Assignment) → value_in mid.table q σ ≡ value (graphs.modulus a.extended) (monomials_in old.table q) σ
  stated_is σ = value_stays old.table mid.table q σ h.keeps.table h.of_table ∙ ap (λ m. value m (monomials_in old.table q) σ) h.sound.same_modulus

  is_there : is_some (import_of (map clause_value added) number) ≡ true
  is_there = ap is_some (import_is added number c h.there)

  takes : (new : AlgebraChecking) → AreEqual mid.table p q → Introduces id (monomials_in mid.table q) (checking_of added a s mid last) new → TakesAlgebraLine (import_line old.table id number q) (checking_of added a s old last) new
  takes new same i =
      let first : Ledger = ledger_of (checking_of added a s old last) in
      let between : Ledger = ledger_of (checking_of added a s mid last) in
      record {
        added = i.added;
        extended = i.extended;
        sides = i.sides;
        records = i.records;
        recorded = i.recorded;
        table = subst (Extends old.table) (sym i.table) h.keeps.table;
        lawful = record { new_id = h.above; live_operands = All-nil (IsLive (lines_with a old)); there = is_there; equal = λ σ. sym (stated_is σ) ∙ sym (same σ) ∙ named_is σ };
        ledger = agree_trans (ledger_of new) (introduce (modulus_in mid.table) between id (monomials_in mid.table q)) (introduce (graphs.modulus a.extended) first id (monomials_in old.table q)) i.ledger
            (introduce_same between first id (modulus_in mid.table) (graphs.modulus a.extended) (monomials_in mid.table q) (monomials_in old.table q) (record { last = refl; lines = behind_same (left_lines a) (lines_of mid) (lines_of old) h.keeps.lines; imports = imports_refl (map clause_value added) }) stated_is);
      }

  pub takes_import : {T : Type 0} (r : Result T LineFault) (new : AlgebraChecking) → OnOk r (AreEqual mid.table p q) → OnOk r (Introduces id (monomials_in mid.table q) (checking_of added a s mid last) new) →
      OnOk r (TakesAlgebraLine (import_line old.table id number q) (checking_of added a s old last) new)
  takes_import (Ok t) new same i = takes new same i
  takes_import (Err fault) new same i = same

  -- ---- an import whose values differ

  refused : (fault : LineFault) → IsStatingFault mid.table p q fault → IsRefused (checking_of added a s old last) (import_line old.table id number q) fault
  refused Id differ = absurd differ
  refused (NoSuchLine missing) differ = absurd differ
  refused (NoSuchClause missing) differ = absurd differ
  refused NotEqual differ =
      inr (h.above, inr (All-nil (IsLive (lines_with a old)), inr (is_there, inl ((differ.0, λ same. differ.1 (named_is differ.0 ∙ sym same ∙ sym (stated_is differ.0))), refl))))
  refused Memory differ = tt

  pub import_faults : {T : Type 0} (r : Result T LineFault) → IfErr r (IsStatingFault mid.table p q) → IfErr r (IsRefused (checking_of added a s old last) (import_line old.table id number q))
  import_faults (Ok t) differ = differ
  import_faults (Err fault) differ = refused fault differ
