-- The axioms of an extended graph as live lines, by their ids, and those that are left.
use Rattle.std.specs.Prelude.{cond, nat_eq, ◌==◌, ◌||◌, map, slice_get}
use Rattle.std.proofs.Common.{◌≡◌, ◌≢◌, ℕ, ◌+◌, ◌<◌, ◌≤◌, Bool, true, false, List, [], ◌∷◌, ◌++◌, refl, sym, ap, subst, ◌∙◌, arith, length}
use Rattle.std.specs.declared.option.Option.{Option}
use Rattle.std.specs.declared.option.Option.TheVariants.{None, Some}
use Rattle.std.specs.Option.{option_map, option_or}
use Rattle.std.specs.List.{AllByRecursion, Contains, find, list_any}
use Rattle.std.proofs.lemmas.Bool.{eqb-true, eq-eqb, true≢false, false_from_ne_true}
use Rattle.std.proofs.lemmas.List.Elements.{All-contains, All-contains_itself, All-from_recursion, recursion_from_All}
use Rattle.std.proofs.lemmas.List.Folds.{find-append}
use Rattle.std.proofs.lemmas.Option.{slice_get_within}
use Rattle.graph_core.specs.declared.Gate.{Gate}
use Rattle.graph_core.specs.declared.Lit.{Lit}
use Rattle.graph_core.specs.Graph.Assignments.{Assignment}
use Rattle.graph_core.specs.Graph.Extended.{AgreeOnColumns, Extended, Column}
use Rattle.graph_core.specs.Graph.Extended as graphs
use Rattle.graph_core.specs.Graph.{IsEvaluation, IsFree, IsGateOf}
use Rattle.graph_core.proofs.OfGraphs.CallerLemmas.{finds_none, one_gate}
use Rattle.algebra_core.specs.AlgebraLines.{LiveLine, line_of, value_of, value_or_zero, gate_axiom, column_axiom, axioms}
use Rattle.algebra_core.specs.Agreement.{AreSame}
use Rattle.algebra_core.proofs.CallerLemmas.{axioms-vanish, line_of-deleted, same_of}
use Rattle.ripple_graft.specs.Extension.{IsExtension, whole}
use Rattle.ripple_graft.proofs.BlockLists.{whole_is_well_formed}
use Rattle.gate_axioms.specs.declared.left_axioms.Axiom.TheVariants as kinds
use Rattle.gate_axioms.specs.LeftAxioms.{LeftAxioms, axiom_line, axioms_but, left_lines}
use Rattle.gate_axioms.specs.ReplacedColumns.{column_by, replaced_column}
use Rattle.gate_axioms.proofs.ReplacedColumns.{found_all}
use Rattle.gate_axioms.proofs.FirstLines.{gates_within, none_above, or_none}

-- ---- gates

abbrev gate_lines : Extended → List LiveLine
gate_lines e = map (gate_axiom (graphs.modulus e)) e.gates

line_of-gates : (m : ℕ) (gates : List Gate) (id : ℕ) → line_of (map (gate_axiom m) gates) id ≡ option_map (gate_axiom m) (find (λ g. g.v == id) gates)
line_of-gates m [] id = refl
line_of-gates m (g ∷ gates) id = go (g.v == id) (line_of-gates m gates id)
  where
    go : (b : Bool) → line_of (map (gate_axiom m) gates) id ≡ option_map (gate_axiom m) (find (λ g. g.v == id) gates) →
        cond b (Some (gate_axiom m g)) (line_of (map (gate_axiom m) gates) id) ≡ option_map (gate_axiom m) (cond b (Some g) (find (λ g. g.v == id) gates))
    go true rest = refl
    go false rest = rest

found_variable : (gates : List Gate) (v : ℕ) (x : Gate) → find (λ g. g.v == v) gates ≡ Some x → x.v ≡ v
found_variable [] v x e = absurd (cc)
found_variable (g ∷ gates) v x e = go (g.v == v) refl e (found_variable gates v x)
  where
    go : (b : Bool) → (g.v == v) ≡ b → cond b (Some g) (find (λ g. g.v == v) gates) ≡ Some x → (find (λ g. g.v == v) gates ≡ Some x → x.v ≡ v) → x.v ≡ v
    go true f h rest = let same : g ≡ x = cc in ap (λ g. g.v) (sym same) ∙ eqb-true g.v v f
    go false f h rest = rest h

none_found : (gates : List Gate) (v : ℕ) → find (λ g. g.v == v) gates ≡ None → AllByRecursion (λ g. (g.v == v) ≡ false) gates
none_found [] v e = tt
none_found (g ∷ gates) v e = go (g.v == v) refl e (none_found gates v)
  where
    go : (b : Bool) → (g.v == v) ≡ b → cond b (Some g) (find (λ g. g.v == v) gates) ≡ None → (find (λ g. g.v == v) gates ≡ None → AllByRecursion (λ g. (g.v == v) ≡ false) gates) →
        ((g.v == v) ≡ false) × AllByRecursion (λ g. (g.v == v) ≡ false) gates
    go true f h rest = absurd (cc)
    go false f h rest = (f, rest h)

-- a gate of a variable is the one that is found
finds_gate : (e : Extended) (v : ℕ) (x : Gate) → IsExtension e → IsGateOf e.gates v x → find (λ g. g.v == v) e.gates ≡ Some x
finds_gate e v x extension is = go (find (λ g. g.v == v) e.gates) refl
  where
    go : (o : Option Gate) → find (λ g. g.v == v) e.gates ≡ o → o ≡ Some x
    go None f = absurd (true≢false (sym (eq-eqb x.v v is.1) ∙ All-contains (λ g. (g.v == v) ≡ false) e.gates x (All-from_recursion _ e.gates (none_found e.gates v f)) is.0))
    go (Some y) f =
        let there : Contains e.gates y = found_all (Contains e.gates) (λ g. g.v == v) e.gates y (recursion_from_All _ e.gates (All-contains_itself e.gates)) f in
        ap Some (sym (one_gate (whole e) v y x (whole_is_well_formed e extension) (there, found_variable e.gates v y f) is))

-- ---- columns

add_test : (a x j : ℕ) → (a + x == a + j) ≡ (x == j)
add_test a x j = go (a + x == a + j) refl (x == j) refl
  where
    go : (b : Bool) → (a + x == a + j) ≡ b → (c : Bool) → (x == j) ≡ c → b ≡ c
    go true f true g = refl
    go true f false g = absurd (true≢false (sym (eq-eqb x j (omega (arith, eqb-true (a + x) (a + j) f))) ∙ g))
    go false f true g = absurd (true≢false (sym (eq-eqb (a + x) (a + j) (ap (λ n. a + n) (eqb-true x j g))) ∙ f))
    go false f false g = refl

line_of-columns : (e : Extended) (cs : List Column) (j : ℕ) → line_of (map (column_axiom e) cs) (e.max + 1 + j) ≡ option_map (column_axiom e) (find (λ c. c.number == j) cs)
line_of-columns e [] j = refl
line_of-columns e (c ∷ cs) j = ap (λ b. cond b (Some (column_axiom e c)) (line_of (map (column_axiom e) cs) (e.max + 1 + j))) (add_test (e.max + 1) c.number j) ∙ go (c.number == j) (line_of-columns e cs j)
  where
    go : (b : Bool) → line_of (map (column_axiom e) cs) (e.max + 1 + j) ≡ option_map (column_axiom e) (find (λ c. c.number == j) cs) →
        cond b (Some (column_axiom e c)) (line_of (map (column_axiom e) cs) (e.max + 1 + j)) ≡ option_map (column_axiom e) (cond b (Some c) (find (λ c. c.number == j) cs))
    go true rest = refl
    go false rest = rest

-- a gate's id is no column's
none_below : (e : Extended) (cs : List Column) (id : ℕ) → id < e.max + 1 → line_of (map (column_axiom e) cs) id ≡ None
none_below e [] id low = refl
none_below e (c ∷ cs) id low =
    ap (λ b. cond b (Some (column_axiom e c)) (line_of (map (column_axiom e) cs) id)) (false_from_ne_true (e.max + 1 + c.number == id) (λ t. let s : e.max + 1 + c.number ≡ id = eqb-true (e.max + 1 + c.number) id t in omega (arith, low))) ∙ none_below e cs id low

-- a column's number is one of an output
number_within : (e : Extended) → IsExtension e → AllByRecursion (λ c. c.number < length e.graph.outputs) e.replaced
number_within e extension = go e.replaced (recursion_from_All _ e.replaced extension.replaced)
  where
    go : (cs : List Column) → AllByRecursion (λ c. slice_get e.graph.outputs c.number ≡ Some c.old) cs → AllByRecursion (λ c. c.number < length e.graph.outputs) cs
    go [] h = tt
    go (c ∷ cs) h = (slice_get_within e.graph.outputs c.number c.old h.0, go cs h.1)

columns_within : (e : Extended) (n : ℕ) (cs : List Column) → AllByRecursion (λ c. c.number < n) cs → AllByRecursion (λ l. l.id ≤ e.max + n) (map (column_axiom e) cs)
columns_within e n [] h = tt
columns_within e n (c ∷ cs) h = (omega (arith, h.0), columns_within e n cs h.1)

append_within : (last : ℕ) (xs ys : List LiveLine) → AllByRecursion (λ l. l.id ≤ last) xs → AllByRecursion (λ l. l.id ≤ last) ys → AllByRecursion (λ l. l.id ≤ last) (xs ++ ys)
append_within last [] ys h j = j
append_within last (x ∷ xs) ys h j = (h.0, append_within last xs ys h.1 j)

-- ---- all axioms

gate_ids : (e : Extended) (last : ℕ) → IsExtension e → e.max ≤ last → AllByRecursion (λ l. l.id ≤ last) (gate_lines e)
gate_ids e last extension most = gates_within (graphs.modulus e) last e.gates (recursion_from_All (λ g. g.v ≤ last) e.gates (λ k d low. let here = extension.gates_in_range k d low in omega (arith, here, most)))

-- no id of an axiom is above the last one
axioms_within : (e : Extended) → IsExtension e → AllByRecursion (λ l. l.id ≤ (axioms e).last) (axioms e).live
axioms_within e extension =
    append_within (axioms e).last (gate_lines e) (map (column_axiom e) e.replaced) (gate_ids e (axioms e).last extension (omega arith)) (columns_within e (length e.graph.outputs) e.replaced (number_within e extension))

pub no_axiom : (e : Extended) (id : ℕ) → IsExtension e → (axioms e).last < id → line_of (axioms e).live id ≡ None
no_axiom e id extension above = none_above (axioms e).live (axioms e).last id (axioms_within e extension) above

line_of-axioms : (e : Extended) (id : ℕ) → line_of (axioms e).live id ≡ option_or (line_of (gate_lines e) id) (line_of (map (column_axiom e) e.replaced) id)
line_of-axioms e id = find-append (λ l. l.id == id) (gate_lines e) (map (column_axiom e) e.replaced)

-- that of a gate
first_line : (e : Extended) (v : ℕ) → v ≤ e.max → line_of (axioms e).live v ≡ option_map (gate_axiom (graphs.modulus e)) (find (λ g. g.v == v) e.gates)
first_line e v low =
    line_of-axioms e v ∙ ap (option_or (line_of (gate_lines e) v)) (none_below e e.replaced v (omega arith)) ∙ or_none (line_of (gate_lines e) v) ∙ line_of-gates (graphs.modulus e) e.gates v

pub gate_is_axiom : (e : Extended) (v : ℕ) (x : Gate) → IsExtension e → v ≤ e.max → IsGateOf e.gates v x → AreSame (line_of (axioms e).live v) (axiom_line (graphs.modulus e) v (Some (kinds.Gate x)))
gate_is_axiom e v x extension low is =
    subst (λ o. AreSame o (axiom_line (graphs.modulus e) v (Some (kinds.Gate x)))) (sym (first_line e v low ∙ ap (option_map (gate_axiom (graphs.modulus e))) (finds_gate e v x extension is))) (λ σ. refl)

pub no_gate_no_axiom : (e : Extended) (v : ℕ) → v ≤ e.max → IsFree e.gates v → AreSame (line_of (axioms e).live v) None
no_gate_no_axiom e v low free =
    same_of (line_of (axioms e).live v) None
    (first_line e v low ∙ ap (option_map (gate_axiom (graphs.modulus e))) (finds_none e.gates v (recursion_from_All (λ x. v ≢ x.v) e.gates (λ k d here same. free k d here (sym same)))))

-- that of a column
pub column_is_axiom : (e : Extended) (k : ℕ) (outputs : Option (Lit × Lit)) → IsExtension e → column_by k outputs ≡ replaced_column e k →
    AreSame (line_of (axioms e).live (e.max + 1 + k)) (axiom_line (graphs.modulus e) (e.max + 1 + k) (option_map (λ o. kinds.Column o.0 o.1) outputs))
column_is_axiom e k outputs extension here =
    subst (λ o. AreSame o (axiom_line (graphs.modulus e) (e.max + 1 + k) (option_map (λ o. kinds.Column o.0 o.1) outputs)))
    (sym (line_of-axioms e (e.max + 1 + k) ∙ ap (λ o. option_or o (line_of (map (column_axiom e) e.replaced) (e.max + 1 + k))) (none_above (gate_lines e) e.max (e.max + 1 + k) (gate_ids e e.max extension (omega arith)) (omega arith)) ∙
    line_of-columns e e.replaced k ∙ ap (option_map (column_axiom e)) (sym here)))
    (go outputs)
  where
    go : (o : Option (Lit × Lit)) → AreSame (option_map (column_axiom e) (column_by k o)) (axiom_line (graphs.modulus e) (e.max + 1 + k) (option_map (λ o. kinds.Column o.0 o.1) o))
    go None = tt
    go (Some o) = λ σ. refl

-- ---- those that are left

pub line_of-but : (e : Extended) (ids : List ℕ) (id : ℕ) → line_of (axioms_but e ids) id ≡ cond (list_any (nat_eq id) ids) None (line_of (axioms e).live id)
line_of-but e [] id = refl
line_of-but e (d ∷ ids) id = line_of-deleted (axioms_but e ids) d id ∙ go (id == d) (line_of-but e ids id)
  where
    go : (b : Bool) → line_of (axioms_but e ids) id ≡ cond (list_any (nat_eq id) ids) None (line_of (axioms e).live id) →
        cond b None (line_of (axioms_but e ids) id) ≡ cond (b || list_any (nat_eq id) ids) None (line_of (axioms e).live id)
    go true rest = refl
    go false rest = rest

pub left_unless : (e : Extended) (ids : List ℕ) (id : ℕ) (found : Option LiveLine) → list_any (nat_eq id) ids ≡ false → AreSame (line_of (axioms e).live id) found → AreSame (line_of (axioms_but e ids) id) found
left_unless e ids id found h same = subst (λ o. AreSame o found) (sym (line_of-but e ids id ∙ ap (λ b. cond b None (line_of (axioms e).live id)) h)) same

pub not_left : (e : Extended) (ids : List ℕ) (id : ℕ) → list_any (nat_eq id) ids ≡ true → AreSame (line_of (axioms_but e ids) id) None
not_left e ids id h = same_of (line_of (axioms_but e ids) id) None (line_of-but e ids id ∙ ap (λ b. cond b None (line_of (axioms e).live id)) h)

-- an id without an axiom has none that is left
pub none_left : (e : Extended) (ids : List ℕ) (id : ℕ) → line_of (axioms e).live id ≡ None → line_of (axioms_but e ids) id ≡ None
none_left e ids id none = line_of-but e ids id ∙ ap (cond (list_any (nat_eq id) ids) None) none ∙ go (list_any (nat_eq id) ids)
  where
    go : (b : Bool) → ◌≡◌ {A = Option LiveLine} (cond b None None) None
    go true = refl
    go false = refl

pub one_deleted : (e : Extended) (old new : List ℕ) (id : ℕ) → ((q : ℕ) → list_any (nat_eq q) new ≡ cond (nat_eq id q) true (list_any (nat_eq q) old)) →
    (other : ℕ) → line_of (axioms_but e new) other ≡ cond (other == id) None (line_of (axioms_but e old) other)
one_deleted e old new id updates other =
    line_of-but e new other ∙ ap (λ b. cond b None (line_of (axioms e).live other)) (updates other) ∙ go (id == other) refl (other == id) refl ∙ ap (cond (other == id) None) (sym (line_of-but e old other))
  where
    go : (b : Bool) → (id == other) ≡ b → (c : Bool) → (other == id) ≡ c →
        cond (cond b true (list_any (nat_eq other) old)) None (line_of (axioms e).live other) ≡ cond c None (cond (list_any (nat_eq other) old) None (line_of (axioms e).live other))
    go true f true g = refl
    go true f false g = absurd (true≢false (sym (eq-eqb other id (sym (eqb-true id other f))) ∙ g))
    go false f true g = absurd (true≢false (sym (eq-eqb id other (sym (eqb-true other id g))) ∙ f))
    go false f false g = refl

-- ---- what is left is 0 where columns agree

pub left_zero : (left : LeftAxioms) (σ : Assignment) (id : ℕ) → IsEvaluation left.extended.gates σ → AgreeOnColumns left.extended σ → value_of (left_lines left) id σ ≡ 0
left_zero left σ id evaluates agree = ap (λ o. value_or_zero o σ) (line_of-but e left.deleted id) ∙ go (list_any (nat_eq id) left.deleted) (line_of (axioms e).live id) refl
  where
    e : Extended
    e = left.extended

    go : (b : Bool) (o : Option LiveLine) → line_of (axioms e).live id ≡ o → value_or_zero (cond b None o) σ ≡ 0
    go true o f = refl
    go false None f = refl
    go false (Some l) f = found_all (λ l. l.value σ ≡ 0) (λ l. l.id == id) (axioms e).live l (axioms-vanish e σ evaluates agree) f
