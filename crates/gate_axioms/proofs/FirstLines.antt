-- Live lines that are put one by one, unless their id has one; and ids that no line has.
use Rattle.std.specs.Prelude.{IsSome, is_some, cond, ◌==◌, map}
use Rattle.std.proofs.Common.{◌≡◌, ℕ, ◌<◌, ◌≤◌, Bool, true, false, List, [], ◌∷◌, ◌++◌, refl, sym, ap, subst, ◌∙◌, arith}
use Rattle.std.specs.declared.option.Option.{Option}
use Rattle.std.specs.declared.option.Option.TheVariants.{None, Some}
use Rattle.std.specs.Option.{option_or}
use Rattle.std.specs.List.{AllByRecursion}
use Rattle.std.proofs.lemmas.Bool.{eqb-true, eq-eqb, true≢false, false_from_ne_true}
use Rattle.std.proofs.lemmas.List.Folds.{find-append}
use Rattle.graph_core.specs.declared.Gate.{Gate}
use Rattle.graph_core.specs.Graph.Assignments.{Assignment}
use Rattle.algebra_core.proofs.CallerLemmas.{same_of, same_refl, same_trans}
use Rattle.algebra_core.specs.AlgebraLines.{LiveLine, line_of, gate_axiom}
use Rattle.mv_fact.specs.Facts.{Facts, fact_at, ChangesAt}
use Rattle.poly_terms.specs.Tables.{Table, Sum, Extends, value_in}
use Rattle.poly_terms.specs.Laws.{extends_itself, extends_on}
use Rattle.algebra_core.specs.Agreement.{AreSame, AreSameLines}
use Rattle.gate_axioms.specs.Lines.{live_lines_in}
use Rattle.gate_axioms.specs.Steps.{KeepsLines, AddsLine}
use Rattle.gate_axioms.proofs.Entries.{line_at, line_of-entries}

or_same : (x y z : Option LiveLine) → AreSame x y → AreSame (option_or x z) (option_or y z)
or_same None None z h = same_refl z
or_same None (Some y) z h = absurd h
or_same (Some x) None z h = absurd h
or_same (Some x) (Some y) z h = h

pub or_none : (x : Option LiveLine) → option_or x None ≡ x
or_none None = refl
or_none (Some x) = refl

-- a line whose id had none
lines_new : (t : Table) (line : LiveLine) (old new : List (ℕ × Sum)) (p : Sum) → fact_at old line.id ≡ None → fact_at new line.id ≡ Some p →
    ((other : ℕ) → (other ≡ line.id → ⊥) → fact_at new other ≡ fact_at old other) → ((σ : Assignment) → value_in t p σ ≡ line.value σ) →
    (id : ℕ) → AreSame (line_of (live_lines_in t new) id) (option_or (line_of (live_lines_in t old) id) (line_of (line ∷ []) id))
lines_new t line old new p none at others is id = go (line.id == id) refl
  where
    go : (b : Bool) → (line.id == id) ≡ b → AreSame (line_of (live_lines_in t new) id) (option_or (line_of (live_lines_in t old) id) (cond b (Some line) None))
    go true f =
        let here : line.id ≡ id = eqb-true line.id id f in
        let left : line_of (live_lines_in t new) id ≡ line_at t line.id (Some p) = line_of-entries t new id ∙ ap (λ n. line_at t n (fact_at new n)) (sym here) ∙ ap (line_at t line.id) at in
        let right : line_of (live_lines_in t old) id ≡ None = line_of-entries t old id ∙ ap (λ n. line_at t n (fact_at old n)) (sym here) ∙ ap (line_at t line.id) none in
        subst (λ x. AreSame x (option_or (line_of (live_lines_in t old) id) (Some line))) (sym left) (subst (λ y. AreSame (line_at t line.id (Some p)) (option_or y (Some line))) (sym right) is)
    go false f =
        same_of _ _ (line_of-entries t new id ∙ ap (line_at t id) (others id (λ s. true≢false (sym (eq-eqb line.id id (sym s)) ∙ f))) ∙ sym (line_of-entries t old id) ∙ sym (or_none (line_of (live_lines_in t old) id)))

-- and one whose id has one
lines_again : (t : Table) (line : LiveLine) (es : List (ℕ × Sum)) → IsSome (fact_at es line.id) → (id : ℕ) → AreSame (line_of (live_lines_in t es) id) (option_or (line_of (live_lines_in t es) id) (line_of (line ∷ []) id))
lines_again t line es there id = go (line.id == id) refl (line_of (live_lines_in t es) id) refl
  where
    go : (b : Bool) → (line.id == id) ≡ b → (x : Option LiveLine) → line_of (live_lines_in t es) id ≡ x → AreSame x (option_or x (cond b (Some line) None))
    go b f (Some x) h = same_refl (Some x)
    go false f None h = tt
    go true f None h =
        let found : line_at t line.id (fact_at es line.id) ≡ None = ap (λ n. line_at t n (fact_at es n)) (eqb-true line.id id f) ∙ sym (line_of-entries t es id) ∙ h in
        absurd (none_found (fact_at es line.id) there found)
      where
        none_found : (y : Option Sum) → IsSome y → line_at t line.id y ≡ None → ⊥
        none_found None s e = true≢false (sym s)
        none_found (Some y) s e = true≢false (ap is_some e)

-- the same after growth of the table
adds_grown : (line : LiveLine) (a b c : Facts Sum Table) → KeepsLines a b → c.gates ≡ b.gates → Extends b.table c.table →
    ((id : ℕ) → AreSame (line_of (live_lines_in c.table c.entries) id) (option_or (line_of (live_lines_in b.table b.entries) id) (line_of (line ∷ []) id))) → AddsLine line a c
adds_grown line a b c k gates table lines = record {
  gates = gates ∙ k.gates;
  table = extends_on a.table b.table c.table k.table table;
  lines = λ id. same_trans (line_of (live_lines_in c.table c.entries) id) (option_or (line_of (live_lines_in b.table b.entries) id) (line_of (line ∷ []) id)) (option_or (line_of (live_lines_in a.table a.entries) id) (line_of (line ∷ []) id)) (lines id)
      (or_same (line_of (live_lines_in b.table b.entries) id) (line_of (live_lines_in a.table a.entries) id) (line_of (line ∷ []) id) (k.lines id));
}

not_there : (x : Option Sum) → (IsSome x → ⊥) → x ≡ None
not_there None h = refl
not_there (Some p) h = absurd (h refl)

pub adds_new : (line : LiveLine) (a b c : Facts Sum Table) (p : Sum) → KeepsLines a b → fact_at b.entries line.id ≡ None → ChangesAt line.id (Some p) b c → ((σ : Assignment) → value_in b.table p σ ≡ line.value σ) →
    AddsLine line a c
adds_new line a b c p k none change is =
    adds_grown line a b c k change.gates (subst (Extends b.table) (sym change.table) (extends_itself b.table))
    (λ id. subst (λ t. AreSame (line_of (live_lines_in t c.entries) id) (option_or (line_of (live_lines_in b.table b.entries) id) (line_of (line ∷ []) id))) (sym change.table)
    (lines_new b.table line b.entries c.entries p none change.at change.others is id))

pub adds_again : (line : LiveLine) (a b c : Facts Sum Table) → KeepsLines a b → c ≡ b → IsSome (fact_at b.entries line.id) → AddsLine line a c
adds_again line a b c k e there = subst (AddsLine line a) (sym e) (adds_grown line a b b k refl (extends_itself b.table) (lines_again b.table line b.entries there))

-- ---- one after the other

-- the lines so far, and one more
pub lines_more : (a b : Facts Sum Table) (xs : List LiveLine) (line : LiveLine) → AreSameLines (live_lines_in a.table a.entries) xs → AddsLine line a b → AreSameLines (live_lines_in b.table b.entries) (xs ++ line ∷ [])
lines_more a b xs line before adds id =
    subst (AreSame (line_of (live_lines_in b.table b.entries) id)) (sym (find-append (λ l. l.id == id) xs (line ∷ [])))
    (same_trans (line_of (live_lines_in b.table b.entries) id) (option_or (line_of (live_lines_in a.table a.entries) id) (line_of (line ∷ []) id)) (option_or (line_of xs id) (line_of (line ∷ []) id)) (adds.lines id)
    (or_same (line_of (live_lines_in a.table a.entries) id) (line_of xs id) (line_of (line ∷ []) id) (before id)))

-- ---- ids that none of them has

pub none_above : (xs : List LiveLine) (last id : ℕ) → AllByRecursion (λ l. l.id ≤ last) xs → last < id → line_of xs id ≡ None
none_above [] last id h above = refl
none_above (x ∷ xs) last id h above =
    ap (λ b. cond b (Some x) (line_of xs id)) (false_from_ne_true (x.id == id) (λ e. let s : x.id ≡ id = eqb-true x.id id e in omega (arith, h.0))) ∙ none_above xs last id h.1 above

-- an id without a line has no entry
pub no_entry : (t : Table) (es : List (ℕ × Sum)) (id : ℕ) → AreSame (line_of (live_lines_in t es) id) None → fact_at es id ≡ None
no_entry t es id h = go (fact_at es id) (subst (λ x. AreSame x None) (line_of-entries t es id) h)
  where
    go : (x : Option Sum) → AreSame (line_at t id x) None → x ≡ None
    go None h = refl
    go (Some p) h = absurd h

pub gates_within : (m last : ℕ) (gates : List Gate) → AllByRecursion (λ g. g.v ≤ last) gates → AllByRecursion (λ l. l.id ≤ last) (map (gate_axiom m) gates)
gates_within m last [] h = tt
gates_within m last (g ∷ gates) h = (h.0, gates_within m last gates h.1)
