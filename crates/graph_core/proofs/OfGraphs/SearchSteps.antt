-- Searches for the faults of a graph's lists, as loops make them.
use Rattle.std.specs.Prelude.{◌≡◌, ℕ, ◌+◌, ◌*◌, ◌<◌, ◌≤◌, Bool, true, false, cond, not, ◌&&◌, ◌||◌, List, [], ◌∷◌, ◌++◌, map, take, drop, length, get_or, slice_set, ◌==◌, Some, None}
use Rattle.std.specs.List.{All, find, flat_map, list_any}
use Rattle.std.proofs.Common.{refl, sym, ap, ap₂, subst, ◌∙◌, arith, ⊎_elim, eq-eqb, ne_eqb}
use Rattle.std.proofs.lemmas.Bool.{cases_eq, ltb-false}
use Rattle.std.proofs.lemmas.List.{take_more, drop_more, drop_all}
use Rattle.std.proofs.lemmas.List.Elements.{All-from_recursion}
use Rattle.std.proofs.lemmas.List.Folds.{find-append, list_any-append}
use Rattle.std.specs.Option.{option_or}
use Rattle.graph_core.specs.declared.literal.Lit.{Lit}
use Rattle.graph_core.specs.Graph.Literals.{variable_of}
use Rattle.graph_core.specs.Graph.Assignments.{listed}
use Rattle.graph_core.specs.Graph.{defined}
use Rattle.graph_core.specs.Aiger.{Listing, graph_of, listed_gate}
use Rattle.graph_core.specs.Aiger.Refusal.{literals, left_sides, first_above, first_repeated, first_undefined}
use Rattle.graph_core.specs.Graph.Searches.{is_above, is_unmarked, gate_operands, AreMarks}
use Rattle.graph_core.proofs.Words.{all_literals}
use Rattle.graph_core.proofs.OfGraphs.Levels.{In, all_from_in}
use Rattle.graph_core.proofs.OfGraphs.Faults.{find_none, in_left, in_right, in_parts, map_in, left_in, left_variables}
use Rattle.graph_core.proofs.OfGraphs.WrittenValues.{listed-set}

-- ---- searches over a list in parts

pub find_front : (p : Lit → Bool) (xs ys : List Lit) (l : Lit) → find p xs ≡ Some l → find p (xs ++ ys) ≡ Some l
find_front p xs ys l e = find-append p xs ys ∙ ap (λ o. option_or o (find p ys)) e

pub find_behind : (p : Lit → Bool) (xs ys : List Lit) → find p xs ≡ None → find p (xs ++ ys) ≡ find p ys
find_behind p xs ys e = find-append p xs ys ∙ ap (λ o. option_or o (find p ys)) e

module _ (p : Lit → Bool) (f : Lit × Lit × Lit → List Lit) (ts : List (Lit × Lit × Lit)) (i : ℕ) (d : Lit × Lit × Lit) (below : i < length ts) where
  split : flat_map f (drop i ts) ≡ f (get_or ts i d) ++ flat_map f (drop (i + 1) ts)
  split = ap (flat_map f) (drop_more ts i d below)

  pub find_in_block : (l : Lit) → find p (f (get_or ts i d)) ≡ Some l → find p (flat_map f (drop i ts)) ≡ Some l
  find_in_block l e = ap (find p) split ∙ find_front p (f (get_or ts i d)) (flat_map f (drop (i + 1) ts)) l e

pub find_no_block : (p : Lit → Bool) (f : Lit × Lit × Lit → List Lit) (ts : List (Lit × Lit × Lit)) (i : ℕ) → length ts ≤ i → find p (flat_map f (drop i ts)) ≡ None
find_no_block p f ts i all = ap (λ xs. find p (flat_map f xs)) (drop_all i ts all)

-- ---- the first variable that stands twice

-- so many variables are looked at: those that are marked, and what is left to search
pub record Looked (vs : List ℕ) (i : ℕ) (marks : List Bool) : Type 0 where
  pub seen : List ℕ
  pub marked : AreMarks seen marks
  pub same : (v : ℕ) → list_any (λ w. w == v) seen ≡ list_any (λ w. w == v) (take i vs)
  pub rest : first_repeated seen (drop i vs) ≡ first_repeated [] vs

module _ (vs : List ℕ) (i : ℕ) (marks : List Bool) (looked : Looked vs i marks) (below : i < length vs) where
  abbrev v : ℕ
  v = get_or vs i 0

  here : first_repeated looked.seen (drop i vs) ≡ cond (list_any (λ w. w == v) looked.seen) (Some v) (first_repeated (v ∷ looked.seen) (drop (i + 1) vs))
  here = ap (first_repeated looked.seen) (drop_more vs i 0 below)

  pub found_twice : listed marks v ≡ true → first_repeated [] vs ≡ Some (get_or vs i 0)
  found_twice e = sym looked.rest ∙ here ∙ ap (λ b. cond b (Some v) (first_repeated (v ∷ looked.seen) (drop (i + 1) vs))) (sym (looked.marked v) ∙ e)

  turned : (u : ℕ) → (u == v) ≡ (v == u)
  turned u = ⊎_elim (λ e. eq-eqb u v e ∙ sym (eq-eqb v u (sym e))) (λ n. ne_eqb u v n ∙ sym (ne_eqb v u (λ e. n (sym e)))) (cases_eq u v)

  or_is : (b c : Bool) → cond b true c ≡ (b || c)
  or_is true c = refl
  or_is false c = refl

  or_turned : (b c : Bool) → (b || c) ≡ (c || (b || false))
  or_turned true true = refl
  or_turned true false = refl
  or_turned false true = refl
  or_turned false false = refl

  pub looked_more : v < length marks → listed marks v ≡ false → Looked vs (i + 1) (slice_set marks (get_or vs i 0) true)
  looked_more low e = record {
    seen = v ∷ looked.seen;
    marked = λ u. listed-set marks v true u low ∙ ap (λ b. cond b true (listed marks u)) (turned u) ∙ ap (cond (v == u) true) (looked.marked u) ∙ or_is (v == u) (list_any (λ w. w == u) looked.seen);
    same = λ u. ap (λ b. (v == u) || b) (looked.same u) ∙ or_turned (v == u) (list_any (λ w. w == u) (take i vs)) ∙
        sym (list_any-append (λ w. w == u) (take i vs) (v ∷ [])) ∙ ap (list_any (λ w. w == u)) (sym (take_more vs i 0 below));
    rest = sym (here ∙ ap (λ b. cond b (Some v) (first_repeated (v ∷ looked.seen) (drop (i + 1) vs))) (sym (looked.marked v) ∙ e)) ∙ looked.rest;
  }

-- ---- from the searches to the faults

pub find_same : (p q : Lit → Bool) → ((l : Lit) → p l ≡ q l) → (ls : List Lit) → find p ls ≡ find q ls
find_same p q h [] = refl
find_same p q h (l ∷ ls) = ap₂ (λ b o. cond b (Some l) o) (h l) (find_same p q h ls)

gates_read_are : (ts : List (Lit × Lit × Lit)) → flat_map (λ x. x.left ∷ x.right ∷ []) (map listed_gate ts) ≡ flat_map gate_operands ts
gates_read_are [] = refl
gates_read_are (t ∷ ts) = ap (λ ls. t.1 ∷ t.2 ∷ ls) (gates_read_are ts)

pub undefined_is : (g : Listing) (marks : List Bool) → AreMarks (map variable_of (left_sides g)) marks → find (is_unmarked marks) (g.outputs ++ flat_map gate_operands g.gates) ≡ first_undefined g
undefined_is g marks m =
    find_same (is_unmarked marks) (λ l. not (variable_of l == 0) && not (list_any (λ v. v == variable_of l) (defined (graph_of g))))
    (λ l. ap (λ b. not (variable_of l == 0) && not b) (m (variable_of l) ∙ ap (list_any (λ v. v == variable_of l)) (left_variables g.inputs g.gates))) (g.outputs ++ flat_map gate_operands g.gates) ∙
    ap (λ ls. find (λ l. not (variable_of l == 0) && not (list_any (λ v. v == variable_of l) (defined (graph_of g)))) (g.outputs ++ ls)) (sym (gates_read_are g.gates))

-- where no literal is above the limit, what is defined fits a table
pub left_sides_fit : (g : Listing) → first_above g ≡ None → All (λ l. variable_of l < g.max + 1) (left_sides g)
left_sides_fit g none = All-from_recursion (λ l. variable_of l < g.max + 1) (left_sides g) (all_from_in (λ l. variable_of l < g.max + 1) (left_sides g) low)
  where
    among : (l : Lit) → In l (left_sides g) → In l (literals g)
    among l i =
        ⊎_elim (λ j. in_left l (g.inputs ++ g.outputs) (flat_map all_literals g.gates) (in_left l g.inputs g.outputs j))
        (λ j. let r = map_in (λ t. t.0) l g.gates j in
        in_right l (g.inputs ++ g.outputs) (flat_map all_literals g.gates) (subst (λ x. In x (flat_map all_literals g.gates)) r.2 (left_in r.0 g.gates r.1)))
        (in_parts l g.inputs (map (λ t. t.0) g.gates) i)

    low : (l : Lit) → In l (left_sides g) → variable_of l < g.max + 1
    low l i = let b = ltb-false (2 * g.max + 1) l.0 (find_none (is_above (2 * g.max + 1)) (literals g) none l (among l i)) in omega arith
