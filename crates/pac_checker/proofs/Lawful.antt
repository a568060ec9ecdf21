-- What a checker has found makes a line lawful, or refuses it.
use Rattle.std.specs.Prelude.{IsSome, is_some, not, cond, map, ◌==◌}
use Rattle.std.proofs.Common.{inl, inr, refl, Result, Ok, Err, IfErr, OnErr, OnOk, ◌≡◌, ℕ, ◌%◌, ◌<◌, Bool, true, false, List, [], ◌∷◌, sym, ap, subst, ◌∙◌}
use Rattle.std.specs.declared.option.Option.TheVariants.{None, Some}
use Rattle.std.specs.List.{All, AllByRecursion}
use Rattle.std.proofs.lemmas.Bool.{true≢false}
use Rattle.std.proofs.lemmas.List.Elements.{All-from_recursion}
use Rattle.clause_core.specs.Clause.{Clause}
use Rattle.graph_core.specs.Graph.Assignments.{Assignment}
use Rattle.graph_core.specs.Graph.Operands.{Sides}
use Rattle.algebra_core.specs.Polynomials.{Polynomial, value}
use Rattle.algebra_core.specs.AlgebraLines.{LiveLine, Line, Ledger, IsLive, line_of, operands, named, stated, introduce}
use Rattle.graph_core.specs.Graph.Extended as graphs
use Rattle.algebra_core.specs.Refusal.{first_missing}
use Rattle.mv_fact.specs.Facts.{Facts, fact_at}
use Rattle.poly_terms.specs.Tables.{Table, Sum, IsOf, Extends, modulus_in, value_in, monomials_in}
use Rattle.poly_terms.specs.Laws.{modulus_stays, value_stays, extends_itself}
use Rattle.pac_checker.specs.declared.fault.LineFault.{LineFault}
use Rattle.pac_checker.specs.declared.fault.LineFault.TheVariants.{Id, NoSuchLine, NoSuchClause, NotEqual, Memory}
use Rattle.algebra_core.specs.Agreement.{AreSame, LedgersAgree}
use Rattle.gate_axioms.specs.ClauseValues.{clause_value}
use Rattle.gate_axioms.specs.LeftAxioms.{LeftAxioms, left_lines}
use Rattle.gate_axioms.specs.Lines.{lines_of}
use Rattle.gate_axioms.specs.Steps.{KeepsLines}
use Rattle.pac_checker.specs.Checking.{AlgebraChecking, checking_of, ledger_of, GrowsCheckedTable, KeepsLedger}
use Rattle.pac_checker.specs.Rules.{AreEqual, AreRefused, Introduces, IsCheckerSound, IsNamed, IsStatingFault, IsStatingLine, TakesLinesOf, lines_with}
use Rattle.pac_checker.proofs.Entries.{behind_same}
use Rattle.algebra_core.proofs.CallerLemmas.{agree_trans, agree_refl, imports_refl}
use Rattle.poly_text.specs.Lines.{parts_in}

-- ---- the table has grown

-- the type's facts are kept
pub sound_grown : (added : List Clause) (a : LeftAxioms) (s : Sides) (old new : Facts Sum Table) (last : ℕ) → KeepsLines old new → IsCheckerSound added a s old last → IsCheckerSound added a s new last
sound_grown added a s old new last k h = record {
  importable = h.importable;
  same_gates = k.gates ∙ h.same_gates;
  same_modulus = modulus_stays old.table new.table k.table ∙ h.same_modulus;
  fresh = λ id above. ap (λ es. fact_at es id) k.entries ∙ h.fresh id above;
  no_axiom = h.no_axiom;
  apart = λ id live. ap (λ es. fact_at es id) k.entries ∙ h.apart id live;
  columns = h.columns;
}

pub grows : (added : List Clause) (a : LeftAxioms) (sides : Sides) (old new : Facts Sum Table) (last : ℕ) → KeepsLines old new → GrowsCheckedTable (checking_of added a sides old last) (checking_of added a sides new last)
grows added a sides old new last k = record {
  added = refl;
  extended = refl;
  deleted = refl;
  sides = refl;
  table = k.table;
  entries = k.entries;
  last = refl;
  records = refl;
  recorded = refl;
  ledger = record { last = refl; lines = behind_same (left_lines a) (lines_of new) (lines_of old) k.lines; imports = imports_refl (map clause_value added) };
}

pub grows_itself : (c : AlgebraChecking) → GrowsCheckedTable c c
grows_itself c = record { added = refl; extended = refl; deleted = refl; sides = refl; table = extends_itself c.table; entries = refl; last = refl; records = refl; recorded = refl; ledger = agree_refl (ledger_of c) }

pub keeps_ledger_itself : (c : AlgebraChecking) → KeepsLedger c c
keeps_ledger_itself c = record { added = refl; extended = refl; sides = refl; records = refl; recorded = refl; ledger = agree_refl (ledger_of c) }

-- what holds anyway holds where a call failed
pub on_err : {T E : Type 0} (r : Result T E) (P : Type 0) → P → OnErr r P
on_err (Ok t) P h = tt
on_err (Err e) P h = h

-- ---- lawful lines

none_missing : (live : List LiveLine) (ids : List ℕ) → first_missing live ids ≡ None → AllByRecursion (IsLive live) ids
none_missing live [] h = tt
none_missing live (id ∷ ids) h = go (is_some (line_of live id)) refl h (none_missing live ids)
  where
    go : (b : Bool) → is_some (line_of live id) ≡ b → cond (not b) (Some id) (first_missing live ids) ≡ None → (first_missing live ids ≡ None → AllByRecursion (IsLive live) ids) →
        IsSome (line_of live id) × AllByRecursion (IsLive live) ids
    go true f h next = (f, next h)
    go false f h next = absurd (true≢false (ap is_some h))

pub all_live : (live : List LiveLine) (ids : List ℕ) → first_missing live ids ≡ None → All (IsLive live) ids
all_live live ids h = All-from_recursion (IsLive live) ids (none_missing live ids h)

-- ledgers that agree do so with a new line of the same values
pub introduce_same : (l k : Ledger) (id m n : ℕ) (p q : Polynomial) → LedgersAgree l k → ((σ : Assignment) → value m p σ ≡ value n q σ) → LedgersAgree (introduce m l id p) (introduce n k id q)
introduce_same l k id m n p q a same = record { last = refl; imports = a.imports; lines = λ other. go other (id == other) }
  where
    go : (other : ℕ) (b : Bool) → AreSame (cond b (Some (record { id = id; value = value m p })) (line_of l.live other)) (cond b (Some (record { id = id; value = value n q })) (line_of k.live other))
    go other true = same
    go other false = a.lines other

-- the stated polynomial has the value that the rule names, modulo the modulus of the graph
equal_named : (added : List Clause) (a : LeftAxioms) (s : Sides) (old mid : Facts Sum Table) (last id : ℕ) (parts : List (ℕ × Sum)) (p q : Sum) (x : Line) → IsCheckerSound added a s old last → KeepsLines old mid → IsOf old.table q → IsNamed a old mid (parts_in old.table parts) p →
    IsStatingLine (checking_of added a s old last) id parts q x → (σ : Assignment) → value_in mid.table p σ ≡ value_in mid.table q σ →
    value (graphs.modulus a.extended) (stated x) σ ≡ named (graphs.modulus a.extended) (ledger_of (checking_of added a s old last)) x σ % graphs.modulus a.extended
equal_named added a s old mid last id parts p q x sound k of found line σ same =
    subst (λ m. value m (stated x) σ ≡ named m (ledger_of (checking_of added a s old last)) x σ % m) sound.same_modulus
    (ap (λ r. value (modulus_in old.table) r σ) line.states ∙ sym (value_stays old.table mid.table q σ k.table of) ∙ sym same ∙ found.same σ ∙ sym (line.names σ))

-- its operands are live
live_named : (added : List Clause) (a : LeftAxioms) (s : Sides) (old mid : Facts Sum Table) (last id : ℕ) (parts : List (ℕ × Sum)) (p q : Sum) (x : Line) → IsNamed a old mid (parts_in old.table parts) p →
    IsStatingLine (checking_of added a s old last) id parts q x → All (IsLive (lines_with a old)) (operands x)
live_named added a s old mid last id parts p q x found line = all_live (lines_with a old) (operands x) (ap (first_missing (lines_with a old)) line.lines ∙ found.live)

-- a line whose named polynomial is found equal, and put under the new id, is taken
pub takes_named : (added : List Clause) (a : LeftAxioms) (s : Sides) (old mid : Facts Sum Table) (last id : ℕ) (parts : List (ℕ × Sum)) (p q : Sum) (new : AlgebraChecking) → IsCheckerSound added a s old last → KeepsLines old mid → last < id → IsOf old.table q →
    IsNamed a old mid (parts_in old.table parts) p → AreEqual mid.table p q → Introduces id (monomials_in mid.table q) (checking_of added a s mid last) new → TakesLinesOf id parts q (checking_of added a s old last) new
takes_named added a s old mid last id parts p q new sound k above of found same i = λ x line.
    let before : Ledger = ledger_of (checking_of added a s old last) in
    let between : Ledger = ledger_of (checking_of added a s mid last) in
    record {
      added = i.added;
      extended = i.extended;
      sides = i.sides;
      records = i.records;
      recorded = i.recorded;
      table = subst (Extends old.table) (sym i.table) k.table;
      lawful = record { new_id = line.is_new last above; live_operands = live_named added a s old mid last id parts p q x found line; there = line.there before.imports; equal = λ σ. equal_named added a s old mid last id parts p q x sound k of found line σ (same σ) };
      ledger = subst (LedgersAgree (ledger_of new)) (sym (line.next (graphs.modulus a.extended) before))
          (agree_trans (ledger_of new) (introduce (modulus_in mid.table) between id (monomials_in mid.table q)) (introduce (graphs.modulus a.extended) before id (monomials_in old.table q)) i.ledger
          (introduce_same between before id (modulus_in mid.table) (graphs.modulus a.extended) (monomials_in mid.table q) (monomials_in old.table q) (record { last = refl; lines = behind_same (left_lines a) (lines_of mid) (lines_of old) k.lines; imports = imports_refl (map clause_value added) })
          (λ σ. value_stays old.table mid.table q σ k.table of ∙ ap (λ m. value m (monomials_in old.table q) σ) sound.same_modulus)));
    }

pub takes_stated : {T : Type 0} (r : Result T LineFault) (added : List Clause) (a : LeftAxioms) (s : Sides) (old mid : Facts Sum Table) (last id : ℕ) (parts : List (ℕ × Sum)) (p q : Sum) (new : AlgebraChecking) → IsCheckerSound added a s old last → KeepsLines old mid → last < id → IsOf old.table q →
    IsNamed a old mid (parts_in old.table parts) p → OnOk r (AreEqual mid.table p q) → OnOk r (Introduces id (monomials_in mid.table q) (checking_of added a s mid last) new) → OnOk r (TakesLinesOf id parts q (checking_of added a s old last) new)
takes_stated (Ok t) added a s old mid last id parts p q new sound k above of found same i = takes_named added a s old mid last id parts p q new sound k above of found same i
takes_stated (Err fault) added a s old mid last id parts p q new sound k above of found same i = same

-- ---- refused lines

-- a polynomial that differs from the named one does
stating_refused : (added : List Clause) (a : LeftAxioms) (s : Sides) (old mid : Facts Sum Table) (last id : ℕ) (parts : List (ℕ × Sum)) (p q : Sum) (fault : LineFault) → IsCheckerSound added a s old last → KeepsLines old mid → last < id → IsOf old.table q →
    IsNamed a old mid (parts_in old.table parts) p → IsStatingFault mid.table p q fault → AreRefused (checking_of added a s old last) id parts q fault
stating_refused added a s old mid last id parts p q Id sound k above of found h = absurd h
stating_refused added a s old mid last id parts p q (NoSuchLine missing) sound k above of found h = absurd h
stating_refused added a s old mid last id parts p q (NoSuchClause number) sound k above of found h = absurd h
stating_refused added a s old mid last id parts p q NotEqual sound k above of found h = λ x line.
    inr (line.is_new last above, inr (live_named added a s old mid last id parts p q x found line, inr (line.there (map clause_value added), inl ((h.0, λ same. h.1 (differ x line same)), refl))))
  where
    differ : (x : Line) → IsStatingLine (checking_of added a s old last) id parts q x → value (graphs.modulus a.extended) (stated x) h.0 ≡ named (graphs.modulus a.extended) (ledger_of (checking_of added a s old last)) x h.0 % graphs.modulus a.extended →
        value_in mid.table p h.0 ≡ value_in mid.table q h.0
    differ x line same =
        found.same h.0 ∙ sym (line.names h.0) ∙ subst (λ m. named m (ledger_of (checking_of added a s old last)) x h.0 % m ≡ value m (stated x) h.0) (sym sound.same_modulus) (sym same) ∙
        ap (λ r. value (modulus_in old.table) r h.0) line.states ∙ sym (value_stays old.table mid.table q h.0 k.table of)
stating_refused added a s old mid last id parts p q Memory sound k above of found h = λ x line. tt

pub stating_faults : {T : Type 0} (r : Result T LineFault) (added : List Clause) (a : LeftAxioms) (s : Sides) (old mid : Facts Sum Table) (last id : ℕ) (parts : List (ℕ × Sum)) (p q : Sum) → IsCheckerSound added a s old last → KeepsLines old mid → last < id → IsOf old.table q →
    IsNamed a old mid (parts_in old.table parts) p → IfErr r (IsStatingFault mid.table p q) → IfErr r (AreRefused (checking_of added a s old last) id parts q)
stating_faults (Ok t) added a s old mid last id parts p q sound k above of found h = h
stating_faults (Err fault) added a s old mid last id parts p q sound k above of found h = stating_refused added a s old mid last id parts p q fault sound k above of found h
