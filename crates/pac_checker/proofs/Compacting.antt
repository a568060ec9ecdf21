-- Live lines that are carried to another table, one by one.
use Rattle.std.specs.Prelude.{IsSome, slice_get}
use Rattle.std.proofs.Common.{◌≡◌, ℕ, ◌+◌, ◌^◌, ◌<◌, ◌≤◌, List, [], ◌∷◌, ◌++◌, length, take, refl, sym, ap, subst, ◌∙◌}
use Rattle.std.specs.declared.option.Option.{Option}
use Rattle.std.specs.declared.option.Option.TheVariants.{None, Some}
use Rattle.std.proofs.lemmas.List.{take_all, take_more, map-append}
use Rattle.std.proofs.lemmas.Option.{get_or_from_slice_get}
use Rattle.clause_core.specs.Clause.{Clause}
use Rattle.graph_core.specs.declared.Gate.{Gate}
use Rattle.graph_core.specs.Graph.{IsEvaluation}
use Rattle.graph_core.specs.Graph.Operands.{Sides}
use Rattle.algebra_core.specs.AlgebraLines.{line_of}
use Rattle.algebra_core.specs.Agreement.{AreSame, AreSameLines}
use Rattle.mv_fact.specs.Facts.{Facts, fact_at, ChangesAt}
use Rattle.poly_terms.specs.Tables.{Table, Sum, Extends, value_in}
use Rattle.gate_axioms.specs.LeftAxioms.{LeftAxioms}
use Rattle.gate_axioms.specs.Lines.{lines_of, live_line_in, live_lines_in}
use Rattle.gate_axioms.specs.Steps.{AddsLine, KeepsLines, Vanishes}
use Rattle.gate_axioms.proofs.CallerLemmas.{line_at, line_of-entries}
use Rattle.gate_axioms.proofs.FirstLines.{adds_again, adds_new, lines_more, no_entry}
use Rattle.pac_checker.specs.Rules.{Carries, IsCheckerSound}
use Rattle.pac_checker.specs.Works.{IsPolyOfValue}

-- ---- one line

pub exponent_stays : (old new : Table) → Extends old new → new.exponent ≡ old.exponent
unfolding Extends
exponent_stays old new e = e.0

pub brought_vanishes : (gates : List Gate) (mid : Facts Sum Table) (from : Table) (p q : Sum) → mid.gates ≡ gates → IsPolyOfValue mid.table (value_in from p) q → Vanishes gates from p → Vanishes mid.gates mid.table q
brought_vanishes gates mid from p q same made zero = record {
  of_table = made.of_table;
  always = λ σ ev. made.value σ ∙ zero.always σ (subst (λ gates. IsEvaluation gates σ) same ev);
}

none_there : (x : Option Sum) → (IsSome x → ⊥) → x ≡ None
none_there None h = refl
none_there (Some p) h = absurd (h refl)

pub line_carried : (old mid new : Facts Sum Table) (from : Table) (id : ℕ) (p q : Sum) → KeepsLines old mid → IsPolyOfValue mid.table (value_in from p) q → (IsSome (fact_at mid.entries id) → ⊥) → ChangesAt id (Some q) mid new →
    AddsLine (live_line_in from (id, p)) old new
line_carried old mid new from id p q k made none change = adds_new (live_line_in from (id, p)) old mid new q k (none_there (fact_at mid.entries id) none) change made.value

pub line_there : (old mid new : Facts Sum Table) (from : Table) (id : ℕ) (p : Sum) → KeepsLines old mid → new ≡ mid → IsSome (fact_at mid.entries id) → AddsLine (live_line_in from (id, p)) old new
line_there old mid new from id p k same there = adds_again (live_line_in from (id, p)) old mid new k same there

-- ---- all of them

-- the lines before a place, and the one there
pub carried_more : (t : Table) (es : List (ℕ × Sum)) (i id : ℕ) (p : Sum) (a b : Facts Sum Table) → i < length es → slice_get es i ≡ Some (id, p) → AreSameLines (lines_of a) (live_lines_in t (take i es)) →
    AddsLine (live_line_in t (id, p)) a b → AreSameLines (lines_of b) (live_lines_in t (take (i + 1) es))
carried_more t es i id p a b low at before adds =
    let e : ℕ × Sum = (id, p) in
    subst (AreSameLines (lines_of b))
    (sym (ap (live_lines_in t) (take_more es i e low ∙ ap (λ (x : ℕ × Sum). take i es ++ x ∷ []) (get_or_from_slice_get es i e e at)) ∙ map-append (live_line_in t) (take i es) (e ∷ [])))
    (lines_more a b (live_lines_in t (take i es)) (live_line_in t e) before adds)

pub carried_all : (old new : Facts Sum Table) (i : ℕ) → length old.entries ≤ i → new.gates ≡ old.gates → new.table.exponent ≡ old.table.exponent → AreSameLines (lines_of new) (live_lines_in old.table (take i old.entries)) → Carries old new
carried_all old new i high gates exponent lines = record {
  gates = gates;
  exponent = exponent;
  lines = subst (λ es. AreSameLines (lines_of new) (live_lines_in old.table es)) (take_all i old.entries high) lines;
}

-- ---- the checker over them

-- an id without an entry has none afterwards
none_carried : (old new : Facts Sum Table) (id : ℕ) → Carries old new → fact_at old.entries id ≡ None → fact_at new.entries id ≡ None
none_carried old new id k none =
    no_entry new.table new.entries id (subst (AreSame (line_of (lines_of new) id)) (line_of-entries old.table old.entries id ∙ ap (line_at old.table id) none) (k.lines id))

pub sound_carried : (added : List Clause) (a : LeftAxioms) (s : Sides) (old new : Facts Sum Table) (last : ℕ) → Carries old new → IsCheckerSound added a s old last → IsCheckerSound added a s new last
sound_carried added a s old new last k h = record {
  importable = h.importable;
  same_gates = k.gates ∙ h.same_gates;
  same_modulus = ap (λ w. 2 ^ w) k.exponent ∙ h.same_modulus;
  fresh = λ id above. none_carried old new id k (h.fresh id above);
  no_axiom = h.no_axiom;
  apart = λ id live. none_carried old new id k (h.apart id live);
  columns = h.columns;
}
