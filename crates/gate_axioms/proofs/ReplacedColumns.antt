-- The replaced columns of an extended graph, by their numbers.
use Rattle.std.specs.Prelude.{cond, ◌==◌, is_some, IsSome, slice_get}
use Rattle.std.proofs.Common.{◌≡◌, ℕ, zero, suc, ◌+◌, ◌<◌, Bool, true, false, List, [], ◌∷◌, length, get_or, slice_index_or, refl, sym, ap, subst, ◌∙◌, arith}
use Rattle.std.specs.declared.option.Option.{Option}
use Rattle.std.specs.declared.option.Option.TheVariants.{None, Some}
use Rattle.std.specs.List.{AllByRecursion, Any, find}
use Rattle.std.proofs.lemmas.Bool.{eqb-true, eq-eqb, true≢false}
use Rattle.std.proofs.lemmas.List.Elements.{recursion_from_All}
use Rattle.std.proofs.lemmas.Option.{slice_get_within, get_or_from_slice_get}
use Rattle.graph_core.specs.declared.Lit.{Lit}
use Rattle.graph_core.specs.Graph.Extended.{Extended, Column}
use Rattle.ripple_graft.specs.Extension.{IsReplaced, IsExtension, new_or_old, outputs_from, new_outputs}
use Rattle.gate_axioms.specs.ReplacedColumns.{replaced_column}

-- ---- what `find` finds

some_same : {X : Type 0} {x y : X} → Some x ≡ Some y → x ≡ y
some_same e = cc

abbrev column : ℕ → Lit → Lit → Column
column k old new = record { number = k; old = old; new = new }

same_columns : (c d : Column) → c.number ≡ d.number → c.old ≡ d.old → c.new ≡ d.new → c ≡ d
same_columns c d e f g = ap (λ n. column n c.old c.new) e ∙ ap (λ o. column d.number o c.new) f ∙ ap (λ w. column d.number d.old w) g

pub found_all : {X : Type 0} (P : X → Type 0) (p : X → Bool) (xs : List X) (x : X) → AllByRecursion P xs → find p xs ≡ Some x → P x
found_all P p [] x h e = absurd (true≢false (sym (ap is_some e)))
found_all P p (y ∷ ys) x h e = go (p y) e (found_all P p ys x h.1)
  where
    go : (b : Bool) → cond b (Some y) (find p ys) ≡ Some x → (find p ys ≡ Some x → P x) → P x
    go true f rest = subst P (some_same f) h.0
    go false f rest = rest f

-- a column that is found is replaced, and one that is replaced is found
found_any : (cs : List Column) (k : ℕ) (c : Column) → find (λ c. c.number == k) cs ≡ Some c → Any (λ c. c.number ≡ k) cs
found_any [] k c e = absurd (true≢false (sym (ap is_some e)))
found_any (x ∷ cs) k c e = go (x.number == k) refl e (found_any cs k c)
  where
    later : Any (λ c. c.number ≡ k) cs → Any (λ c. c.number ≡ k) (x ∷ cs)
    later h = (suc h.0, h.1, omega (arith, h.2), h.3, h.4)

    go : (b : Bool) → (x.number == k) ≡ b → cond b (Some x) (find (λ c. c.number == k) cs) ≡ Some c → (find (λ c. c.number == k) cs ≡ Some c → Any (λ c. c.number ≡ k) cs) → Any (λ c. c.number ≡ k) (x ∷ cs)
    go true f g rest = (0, x, omega arith, refl, eqb-true x.number k f)
    go false f g rest = later (rest g)

any_found : (cs : List Column) (k i : ℕ) (c : Column) → i < length cs → slice_index_or cs i c ≡ c → c.number ≡ k → IsSome (find (λ c. c.number == k) cs)
any_found [] k i c low at e = absurd (omega (arith, low))
any_found (x ∷ cs) k zero c low at e = ap (λ b. is_some (cond b (Some x) (find (λ c. c.number == k) cs))) (eq-eqb x.number k (ap (λ c. c.number) at ∙ e))
any_found (x ∷ cs) k (suc i) c low at e = go (x.number == k) (any_found cs k i c (omega (arith, low)) at e)
  where
    go : (b : Bool) → IsSome (find (λ c. c.number == k) cs) → IsSome (cond b (Some x) (find (λ c. c.number == k) cs))
    go true rest = refl
    go false rest = rest

pub found_number : (cs : List Column) (k : ℕ) (c : Column) → find (λ c. c.number == k) cs ≡ Some c → c.number ≡ k
found_number [] k c e = absurd (true≢false (sym (ap is_some e)))
found_number (x ∷ cs) k c e = go (x.number == k) refl e (found_number cs k c)
  where
    go : (b : Bool) → (x.number == k) ≡ b → cond b (Some x) (find (λ c. c.number == k) cs) ≡ Some c → (find (λ c. c.number == k) cs ≡ Some c → c.number ≡ k) → c.number ≡ k
    go true f g rest = ap (λ c. c.number) (sym (some_same g)) ∙ eqb-true x.number k f
    go false f g rest = rest g

-- ---- the new outputs

new_first : (cs : List Column) (k : ℕ) (old : Lit) (c : Column) → find (λ c. c.number == k) cs ≡ Some c → new_or_old cs k old ≡ c.new
new_first [] k old c e = absurd (true≢false (sym (ap is_some e)))
new_first (x ∷ cs) k old c e = go (x.number == k) e (new_first cs k old c)
  where
    go : (b : Bool) → cond b (Some x) (find (λ c. c.number == k) cs) ≡ Some c → (find (λ c. c.number == k) cs ≡ Some c → new_or_old cs k old ≡ c.new) → cond b x.new (new_or_old cs k old) ≡ c.new
    go true g rest = ap (λ c. c.new) (some_same g)
    go false g rest = rest g

outputs_at : (cs : List Column) (j : ℕ) (ls : List Lit) (i : ℕ) (d : Lit) → i < length ls → get_or (outputs_from cs j ls) i d ≡ new_or_old cs (j + i) (get_or ls i d)
outputs_at cs j [] i d low = absurd (omega (arith, low))
outputs_at cs j (l ∷ ls) zero d low = ap (λ n. new_or_old cs n l) (omega arith)
outputs_at cs j (l ∷ ls) (suc i) d low = outputs_at cs (suc j) ls i d (omega (arith, low)) ∙ ap (λ n. new_or_old cs n (get_or ls i d)) (omega arith)

-- ---- a column by its outputs

pub column_none : (e : Extended) (k : ℕ) → (IsReplaced e k → ⊥) → None ≡ replaced_column e k
column_none e k h = go (replaced_column e k) refl
  where
    go : (x : Option Column) → replaced_column e k ≡ x → None ≡ x
    go None f = refl
    go (Some c) f = absurd (h (found_any e.replaced k c f))

pub column_some : (e : Extended) (k : ℕ) (left right : Lit) → IsExtension e → IsReplaced e k → slice_get e.graph.outputs k ≡ Some left → slice_get (new_outputs e) k ≡ Some right →
    Some (record { number = k; old = left; new = right }) ≡ replaced_column e k
column_some e k left right extension there at_left at_right = go (replaced_column e k) refl (any_found e.replaced k there.0 there.1 there.2 there.3 there.4)
  where
    go : (x : Option Column) → replaced_column e k ≡ x → IsSome x → Some (record { number = k; old = left; new = right }) ≡ x
    go None f s = absurd (true≢false (sym s))
    go (Some c) f s =
        let number : c.number ≡ k = found_number e.replaced k c f in
        let old : left ≡ c.old = some_same (sym at_left ∙ sym (ap (slice_get e.graph.outputs) number) ∙ found_all (λ c. slice_get e.graph.outputs c.number ≡ Some c.old) (λ c. c.number == k) e.replaced c (recursion_from_All _ e.replaced extension.replaced) f) in
        let new : right ≡ c.new = sym (get_or_from_slice_get (new_outputs e) k right left at_right) ∙ outputs_at e.replaced 0 e.graph.outputs k left (slice_get_within e.graph.outputs k left at_left) ∙ new_first e.replaced (0 + k) _ c (subst (λ n. find (λ c. c.number == n) e.replaced ≡ Some c) (omega arith) f) in
        ap Some (same_columns (record { number = k; old = left; new = right }) c (sym number) old new)
