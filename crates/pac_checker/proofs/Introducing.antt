-- New entries and entries that are gone, as live lines.
use Rattle.std.specs.Prelude.{cond, is_some, map, nat_eq, IsSome, List, ◌==◌}
use Rattle.std.proofs.Common.{inr, inl, ◌≡◌, ℕ, ◌<◌, Bool, true, false, [], ◌∷◌, ◌++◌, refl, sym, ap, subst, ◌∙◌, arith}
use Rattle.std.specs.declared.option.Option.{Option}
use Rattle.std.specs.declared.option.Option.TheVariants.{None, Some}
use Rattle.std.specs.Option.{option_or}
use Rattle.std.specs.List.{All, list_any}
use Rattle.std.proofs.lemmas.Bool.{eqb-true, eq-eqb, true≢false}
use Rattle.std.proofs.lemmas.List.Folds.{find-append}
use Rattle.clause_core.specs.Clause.{Clause}
use Rattle.clause_core.specs.Facts.{IsClauseFact}
use Rattle.graph_core.specs.Graph.Operands.{Sides}
use Rattle.graph_core.specs.Graph.Extended.{AgreeOnColumns, Extended}
use Rattle.graph_core.specs.Graph.Extended as graphs
use Rattle.algebra_core.specs.Polynomials.{value}
use Rattle.algebra_core.specs.AlgebraLines.{LiveLine, Delete, IsLive, axioms, line_of, operands}
use Rattle.algebra_core.specs.Refusal.{first_missing}
use Rattle.mv_fact.specs.Always.{Always}
use Rattle.mv_fact.specs.Facts.{Facts, fact_at, ChangesAt}
use Rattle.poly_terms.specs.Tables.{Table, Sum, Extends, modulus_in, monomials_in}
use Rattle.poly_terms.specs.Laws.{extends_itself}
use Rattle.pac_checker.specs.declared.fault.LineFault.TheVariants as line
use Rattle.algebra_core.specs.Agreement.{AreSame}
use Rattle.gate_axioms.specs.ClauseValues.{clause_value}
use Rattle.gate_axioms.specs.LeftAxioms.{LeftAxioms, Deletes, left_lines}
use Rattle.gate_axioms.specs.Lines.{lines_of, live_lines_in}
use Rattle.pac_checker.specs.Checking.{checking_of, ledger_of, TakesAlgebraLine}
use Rattle.pac_checker.specs.Faults.{IsRuleFault}
use Rattle.pac_checker.specs.Rules.{AreEqual, Introduces, IsCheckerSound, lines_with}
use Rattle.algebra_core.proofs.CallerLemmas.{imports_refl, same_of, line_of-deleted}
use Rattle.gate_axioms.proofs.CallerLemmas.{line_at, line_of-but, line_of-entries, none_left}
use Rattle.pac_checker.proofs.Entries.{behind_one, line_behind, live_first, live_in_front, missing_first}
use Rattle.pac_checker.proofs.Lawful.{all_live}

abbrev new_line : ℕ → Table → Sum → LiveLine
new_line id t q = record { id = id; value = value (modulus_in t) (monomials_in t q) }

-- a new entry whose polynomial has the stated one's values introduces its line
pub introduces : (added : List Clause) (a : LeftAxioms) (sides : Sides) (old new : Facts Sum Table) (last id : ℕ) (p q : Sum) → line_of (axioms a.extended).live id ≡ None → ChangesAt id (Some p) old new → AreEqual old.table p q →
    Introduces id (monomials_in old.table q) (checking_of added a sides old last) (checking_of added a sides new id)
introduces added a sides old new last id p q none change same = record {
  added = refl;
  extended = refl;
  deleted = refl;
  sides = refl;
  table = change.table;
  records = refl;
  recorded = refl;
  ledger = record {
    last = refl;
    imports = imports_refl (map clause_value added);
    lines = λ other. subst (λ t. AreSame (line_of (left_lines a ++ live_lines_in t new.entries) other) (cond (id == other) (Some (new_line id old.table q)) (line_of (lines_with a old) other))) (sym change.table) (go other (id == other) refl);
  };
}
  where
    front : line_of (left_lines a) id ≡ None
    front = none_left a.extended a.deleted id none

    go : (other : ℕ) (b : Bool) → (id == other) ≡ b → AreSame (line_of (left_lines a ++ live_lines_in old.table new.entries) other) (cond b (Some (new_line id old.table q)) (line_of (lines_with a old) other))
    go other true f =
        subst (λ n. AreSame (line_of (left_lines a ++ live_lines_in old.table new.entries) n) (Some (new_line id old.table q))) (eqb-true id other f)
        (subst (λ x. AreSame x (Some (new_line id old.table q))) (sym (line_behind (left_lines a) (live_lines_in old.table new.entries) id front ∙ line_of-entries old.table new.entries id ∙ ap (line_at old.table id) change.at)) same)
    go other false f = behind_one (left_lines a) (live_lines_in old.table new.entries) (lines_of old) other
        (same_of _ _ (line_of-entries old.table new.entries other ∙ ap (line_at old.table other) (change.others other (λ s. true≢false (sym (eq-eqb id other (sym s)) ∙ f))) ∙ sym (line_of-entries old.table old.entries other)))

-- what the type keeps, after a new entry
pub sound_introduced : (added : List Clause) (a : LeftAxioms) (s : Sides) (old new : Facts Sum Table) (last id : ℕ) (p : Sum) → last < id → ChangesAt id (Some p) old new → IsCheckerSound added a s old last → IsCheckerSound added a s new id
sound_introduced added a s old new last id p above change h = record {
  importable = h.importable;
  same_gates = change.gates ∙ h.same_gates;
  same_modulus = ap modulus_in change.table ∙ h.same_modulus;
  fresh = λ other higher. change.others other (λ same. omega (arith, higher, same)) ∙ h.fresh other (omega (arith, above, higher));
  no_axiom = λ other higher. h.no_axiom other (omega (arith, above, higher));
  apart = λ other live. change.others other (λ same. no_line (h.no_axiom id above) (subst (λ n. IsSome (line_of (axioms a.extended).live n)) same live)) ∙ h.apart other live;
  columns = h.columns;
}
  where
    no_line : {o : Option LiveLine} → o ≡ None → IsSome o → ⊥
    no_line none some = true≢false (sym some ∙ ap is_some none)

-- ---- deleted lines

pub delete_missing : (added : List Clause) (a : LeftAxioms) (sides : Sides) (old : Facts Sum Table) (last id : ℕ) → line_of (left_lines a) id ≡ None → fact_at old.entries id ≡ None →
    IsRuleFault a.extended (ledger_of (checking_of added a sides old last)) (Delete id) (line.NoSuchLine id)
delete_missing added a sides old last id front none = inr (tt, inl (id, missing_first (left_lines a) old.table old.entries id front [] none, refl))

pub deletes : (added : List Clause) (a : LeftAxioms) (sides : Sides) (old new : Facts Sum Table) (last id : ℕ) (p : Sum) → line_of (left_lines a) id ≡ None → fact_at old.entries id ≡ Some p → ChangesAt id None old new →
    TakesAlgebraLine (Delete id) (checking_of added a sides old last) (checking_of added a sides new last)
deletes added a sides old new last id p front found change = record {
  added = refl;
  extended = refl;
  sides = refl;
  records = refl;
  recorded = refl;
  table = subst (Extends old.table) (sym change.table) (extends_itself old.table);
  lawful = record { new_id = tt; there = tt; live_operands = all_live (lines_with a old) (operands (Delete id)) (live_first (left_lines a) old.table old.entries id front p [] found); equal = λ σ. refl };
  ledger = record {
    last = refl;
    imports = imports_refl (map clause_value added);
    lines = λ other. same_of _ _
        (ap (λ t. line_of (left_lines a ++ live_lines_in t new.entries) other) change.table ∙ go other (other == id) refl ∙ sym (line_of-deleted (lines_with a old) id other));
  };
}
  where
    go : (other : ℕ) (b : Bool) → (other == id) ≡ b → line_of (left_lines a ++ live_lines_in old.table new.entries) other ≡ cond b None (line_of (lines_with a old) other)
    go other true f =
        subst (λ n. line_of (left_lines a ++ live_lines_in old.table new.entries) n ≡ None) (sym (eqb-true other id f))
        (line_behind (left_lines a) (live_lines_in old.table new.entries) id front ∙ line_of-entries old.table new.entries id ∙ ap (line_at old.table id) change.at)
    go other false f =
        find-append (λ l. l.id == other) (left_lines a) (live_lines_in old.table new.entries) ∙
        ap (option_or (line_of (left_lines a) other))
        (line_of-entries old.table new.entries other ∙ ap (line_at old.table other) (change.others other (λ s. true≢false (sym (eq-eqb other id s) ∙ f))) ∙ sym (line_of-entries old.table old.entries other)) ∙
        sym (find-append (λ l. l.id == other) (left_lines a) (lines_of old))

pub sound_deleted : (added : List Clause) (a : LeftAxioms) (s : Sides) (old new : Facts Sum Table) (last id : ℕ) → ChangesAt id None old new → IsCheckerSound added a s old last → IsCheckerSound added a s new last
sound_deleted added a s old new last id change h = record {
  importable = h.importable;
  same_gates = change.gates ∙ h.same_gates;
  same_modulus = ap modulus_in change.table ∙ h.same_modulus;
  fresh = λ other above. still_none other (other == id) refl (h.fresh other above);
  no_axiom = h.no_axiom;
  apart = λ other live. still_none other (other == id) refl (h.apart other live);
  columns = h.columns;
}
  where
    still_none : (other : ℕ) (b : Bool) → (other == id) ≡ b → fact_at old.entries other ≡ None → fact_at new.entries other ≡ None
    still_none other true f none = subst (λ n. fact_at new.entries n ≡ None) (sym (eqb-true other id f)) change.at
    still_none other false f none = change.others other (λ s. true≢false (sym (eq-eqb other id s) ∙ f)) ∙ none

-- ---- deleted axioms

module _ (added : List Clause) (old new : LeftAxioms) (sides : Sides) (facts : Facts Sum Table) (last id : ℕ) (d : Deletes id old new) where
  pub axiom_deleted : IsLive (left_lines old) id → fact_at facts.entries id ≡ None → TakesAlgebraLine (Delete id) (checking_of added old sides facts last) (checking_of added new sides facts last)
  axiom_deleted live none = record {
    added = refl;
    extended = d.extended;
    sides = refl;
    records = refl;
    recorded = refl;
    table = extends_itself facts.table;
    lawful = record { new_id = tt; there = tt; live_operands = all_live (lines_with old facts) (operands (Delete id)) (first_live (line_of (left_lines old) id) refl live); equal = λ σ. refl };
    ledger = record {
      last = refl;
      imports = imports_refl (map clause_value added);
      lines = λ other. same_of _ _ (find-append (λ l. l.id == other) (left_lines new) (lines_of facts) ∙ ap (λ o. option_or o (line_of (lines_of facts) other)) (d.lines other) ∙ go other (other == id) refl ∙ sym (line_of-deleted (lines_with old facts) id other));
    };
  }
    where
      first_live : (o : Option LiveLine) → line_of (left_lines old) id ≡ o → IsSome o → first_missing (lines_with old facts) (id ∷ []) ≡ None
      first_live None f s = absurd (true≢false (sym s))
      first_live (Some l) f s = live_in_front (left_lines old) (lines_of facts) id l (same_of (line_of (left_lines old) id) (Some l) f) []

      go : (other : ℕ) (b : Bool) → (other == id) ≡ b → option_or (cond b None (line_of (left_lines old) other)) (line_of (lines_of facts) other) ≡ cond b None (line_of (lines_with old facts) other)
      go other true f = subst (λ n. line_of (lines_of facts) n ≡ None) (sym (eqb-true other id f)) (line_of-entries facts.table facts.entries id ∙ ap (line_at facts.table id) none)
      go other false f = sym (find-append (λ l. l.id == other) (left_lines old) (lines_of facts))

  pub sound_without : IsCheckerSound added old sides facts last → IsCheckerSound added new sides facts last
  sound_without h = record {
    importable = subst (λ (e : Extended). All (IsClauseFact e.gates) added) (sym d.extended) h.importable;
    same_gates = h.same_gates ∙ ap (λ (e : Extended). e.gates) (sym d.extended);
    same_modulus = h.same_modulus ∙ ap graphs.modulus (sym d.extended);
    fresh = h.fresh;
    no_axiom = subst (λ (e : Extended). (other : ℕ) → last < other → line_of (axioms e).live other ≡ None) (sym d.extended) h.no_axiom;
    apart = subst (λ (e : Extended). (other : ℕ) → IsLive (axioms e).live other → fact_at facts.entries other ≡ None) (sym d.extended) h.apart;
    columns = subst (λ (e : Extended). Always e.gates (AgreeOnColumns e)) (sym d.extended) h.columns;
  }

-- an axiom that is left is one
pub left_is_axiom : (a : LeftAxioms) (id : ℕ) → IsLive (left_lines a) id → IsLive (axioms a.extended).live id
left_is_axiom a id live = go (list_any (nat_eq id) a.deleted) (subst IsSome (line_of-but a.extended a.deleted id) live)
  where
    go : (b : Bool) → IsSome (cond b None (line_of (axioms a.extended).live id)) → IsSome (line_of (axioms a.extended).live id)
    go true h = absurd (true≢false (sym h))
    go false h = h
