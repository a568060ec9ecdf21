-- The outputs of an extended graph: the new ones of replaced columns, and the graph's.
use Rattle.std.specs.Prelude.{◌≡◌, ◌≢◌, ℕ, zero, suc, ◌+◌, ◌*◌, ◌<◌, Bool, true, false, cond, List, [], ◌∷◌, map, length, slice_get, slice_index_or, ◌==◌}
use Rattle.std.specs.declared.option.Option.{Option}
use Rattle.std.specs.declared.option.Option.TheVariants.{None, Some}
use Rattle.std.specs.Option.{option_map}
use Rattle.std.specs.List.{All, AllByRecursion, Any, Contains}
use Rattle.std.proofs.Common.{refl, sym, ap, ap₂, ◌∙◌, arith, eqb-true, eq-eqb, ne_eqb}
use Rattle.std.proofs.lemmas.List.Elements.{All-from_recursion, recursion_from_All, All-contains}
use Rattle.std.proofs.lemmas.Option.{same_Some}
use Rattle.graph_core.specs.declared.literal.Lit.{Lit}
use Rattle.graph_core.specs.Graph.Extended.{AgreeOnColumns, Column, Extended}
use Rattle.graph_core.specs.Graph.Assignments.{Assignment, bit, literal, word}
use Rattle.graph_core.proofs.OfGraphs.CallerLemmas.{Apart, apart_from_pairs}
use Rattle.ripple_graft.specs.Extension.{IsExtension, IsReplaced, OutputsAreNew, new_or_old, new_outputs, outputs_from}

-- ---- one output

pub get_from : (cs : List Column) (k : ℕ) (ls : List Lit) (i : ℕ) → slice_get (outputs_from cs k ls) i ≡ option_map (new_or_old cs (k + i)) (slice_get ls i)
get_from cs k [] i = refl
get_from cs k (l ∷ ls) zero = ap (λ n. Some (new_or_old cs n l)) (omega arith)
get_from cs k (l ∷ ls) (suc i) = get_from cs (suc k) ls i ∙ ap (λ n. option_map (new_or_old cs n) (slice_get ls i)) (omega arith)

-- a column of the list, and no other has its number
new_is : (cs : List Column) (c : Column) (l : Lit) → Apart (map (λ d. d.number) cs) → Contains cs c → new_or_old cs c.number l ≡ c.new
new_is [] c l apart has = absurd (let below : has.0 < 0 = has.1 in omega arith)
new_is (d ∷ cs) c l apart (zero, below, is) = ap (λ b. cond b d.new (new_or_old cs c.number l)) (eq-eqb d.number c.number (ap (λ x. x.number) is)) ∙ ap (λ x. x.new) is
new_is (d ∷ cs) c l apart (suc i, below, is) =
    let other : d.number ≢ c.number = differs cs (recursion_from_numbers cs apart.0) (i, omega arith, is) in
    ap (λ b. cond b d.new (new_or_old cs c.number l)) (ne_eqb d.number c.number other) ∙ new_is cs c l apart.1 (i, omega arith, is)
  where
    recursion_from_numbers : (ds : List Column) → AllByRecursion (λ y. d.number ≢ y) (map (λ x. x.number) ds) → AllByRecursion (λ x. d.number ≢ x.number) ds
    recursion_from_numbers [] h = tt
    recursion_from_numbers (x ∷ ds) h = (h.0, recursion_from_numbers ds h.1)

    differs : (ds : List Column) → AllByRecursion (λ x. d.number ≢ x.number) ds → Contains ds c → d.number ≢ c.number
    differs ds h has = All-contains (λ x. d.number ≢ x.number) ds c (All-from_recursion (λ x. d.number ≢ x.number) ds h) has

replaced_are : (e : Extended) → IsExtension e → All (λ c. slice_get (new_outputs e) c.number ≡ Some c.new) e.replaced
replaced_are e made k d h =
    let c = slice_index_or e.replaced k d in
    get_from e.replaced 0 e.graph.outputs c.number ∙ ap (option_map (new_or_old e.replaced (0 + c.number))) (made.replaced k d h) ∙
    ap Some (ap (λ n. new_or_old e.replaced n c.old) plus ∙ new_is e.replaced c c.old (apart_from_pairs (map (λ x. x.number) e.replaced) made.numbers_once) (k, h, again e.replaced k d h))
  where
    plus : 0 + (slice_index_or e.replaced k d).number ≡ (slice_index_or e.replaced k d).number
    plus = omega arith

    again : (xs : List Column) (i : ℕ) (y : Column) → i < length xs → slice_index_or xs i (slice_index_or xs i y) ≡ slice_index_or xs i y
    again [] i y below = absurd (omega arith)
    again (x ∷ xs) zero y below = refl
    again (x ∷ xs) (suc i) y below = again xs i y (omega arith)

-- ---- where nothing is replaced

any_first : (P : Column → Type 0) (c : Column) (cs : List Column) → P c → Any P (c ∷ cs)
any_first P c cs h = (0, c, omega arith, refl, h)

any_later : (P : Column → Type 0) (c : Column) (cs : List Column) → Any P cs → Any P (c ∷ cs)
any_later P c cs h = let below : h.0 < length cs = h.2 in (suc h.0, h.1, omega arith, h.3, h.4)

old_is : (cs : List Column) (k : ℕ) (l : Lit) → (Any (λ c. c.number ≡ k) cs → ⊥) → new_or_old cs k l ≡ l
old_is [] k l none = refl
old_is (c ∷ cs) k l none =
    ap (λ b. cond b c.new (new_or_old cs k l)) (ne_eqb c.number k (λ same. none (any_first (λ d. d.number ≡ k) c cs same))) ∙ old_is cs k l (λ some. none (any_later (λ d. d.number ≡ k) c cs some))

map_same : (f : Lit → Lit) (o : Option Lit) → ((l : Lit) → f l ≡ l) → option_map f o ≡ o
map_same f None h = refl
map_same f (Some l) h = ap Some (h l)

kept_are : (e : Extended) (k : ℕ) → ¬ (IsReplaced e k) → slice_get (new_outputs e) k ≡ slice_get e.graph.outputs k
kept_are e k none = get_from e.replaced 0 e.graph.outputs k ∙ map_same (new_or_old e.replaced (0 + k)) (slice_get e.graph.outputs k) (λ l. ap (λ n. new_or_old e.replaced n l) plus ∙ old_is e.replaced k l none)
  where
    plus : 0 + k ≡ k
    plus = omega arith

-- ---- the word

one_agrees : (σ : Assignment) (all : List Lit) (cs : List Column) (k : ℕ) (l : Lit) → slice_get all k ≡ Some l → AllByRecursion (λ c. slice_get all c.number ≡ Some c.old) cs → AllByRecursion (λ c. literal σ c.old ≡ literal σ c.new) cs →
    literal σ (new_or_old cs k l) ≡ literal σ l
one_agrees σ all [] k l is olds agree = refl
one_agrees σ all (c ∷ cs) k l is olds agree = go (c.number == k) refl (one_agrees σ all cs k l is olds.1 agree.1)
  where
    go : (b : Bool) → (c.number == k) ≡ b → literal σ (new_or_old cs k l) ≡ literal σ l → literal σ (cond b c.new (new_or_old cs k l)) ≡ literal σ l
    go true h later =
        let same = same_Some c.old l (sym olds.0 ∙ ap (slice_get all) (eqb-true c.number k h) ∙ is) in
        sym agree.0 ∙ ap (literal σ) same
    go false h later = later

words_agree : (σ : Assignment) (all : List Lit) (cs : List Column) (k : ℕ) (ls : List Lit) → ((i : ℕ) → slice_get ls i ≡ slice_get all (k + i)) → AllByRecursion (λ c. slice_get all c.number ≡ Some c.old) cs →
    AllByRecursion (λ c. literal σ c.old ≡ literal σ c.new) cs → word σ (outputs_from cs k ls) ≡ word σ ls
words_agree σ all cs k [] h olds agree = refl
words_agree σ all cs k (l ∷ ls) h olds agree =
    ap₂ (λ b n. bit b + 2 * n) (one_agrees σ all cs k l (ap (slice_get all) (omega arith) ∙ sym (h 0)) olds agree)
    (words_agree σ all cs (suc k) ls (λ i. h (suc i) ∙ ap (slice_get all) (omega arith)) olds agree)

agreeing_are : (e : Extended) (σ : Assignment) → IsExtension e → AgreeOnColumns e σ → word σ (new_outputs e) ≡ word σ e.graph.outputs
agreeing_are e σ made agree =
    words_agree σ e.graph.outputs e.replaced 0 e.graph.outputs (λ i. ap (slice_get e.graph.outputs) (omega arith)) (recursion_from_All (λ c. slice_get e.graph.outputs c.number ≡ Some c.old) e.replaced made.replaced)
    (recursion_from_All (λ c. literal σ c.old ≡ literal σ c.new) e.replaced agree)

pub outputs_are_new : OutputsAreNew
outputs_are_new = record { replaced = replaced_are; kept = kept_are; agreeing = agreeing_are }

-- ---- blocks
