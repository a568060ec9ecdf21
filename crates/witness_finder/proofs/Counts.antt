-- A monomial over the inputs has as many positions as variables.
use Rattle.std.specs.Prelude.{◌≡◌, ◌≢◌, ℕ, suc, ◌+◌, ◌≤◌, Bool, true, false, ◌||◌, List, [], ◌∷◌, map, length, ◌==◌}
use Rattle.std.specs.List.{AllByRecursion}
use Rattle.std.proofs.Common.{refl, sym, ap, ap₂, subst, ◌∙◌, arith, ⊎_elim, true≢false, eq-eqb, ne_eqb, eqb-true}
use Rattle.std.proofs.lemmas.Bool.{cases_eq, or_cases}
use Rattle.std.proofs.lemmas.List.Elements.{recursion_from_All}
use Rattle.graph_core.specs.declared.Lit.{Lit}
use Rattle.graph_core.specs.Graph.Literals.{variable_of}
use Rattle.graph_core.specs.Graph.Assignments.{bit, literal}
use Rattle.graph_core.specs.Graph.Operands.{Sides, inputs_in}
use Rattle.algebra_core.specs.NormalForm.{AreRising}
use Rattle.graph_core.proofs.OfGraphs.CallerLemmas.{Apart, apart_from_pairs, IsInput, literal-input}
use Rattle.frontier_core.specs.Sets.{has}
use Rattle.frontier_core.specs.LeastDifference.{AreInputs, ones_from}
use Rattle.witness_finder.specs.Positions.{IsMonomialOver, positions}

-- how many are true
abbrev count : List Bool → ℕ
count [] = 0
count (b ∷ bs) = bit b + count bs

length-ones_from : (k : ℕ) (bs : List Bool) → length (ones_from k bs) ≡ count bs
length-ones_from k [] = refl
length-ones_from k (true ∷ bs) = omega (arith, length-ones_from (suc k) bs)
length-ones_from k (false ∷ bs) = omega (arith, length-ones_from (suc k) bs)

-- one of two tests that exclude each other
count_one : (b c : Bool) → (b ≡ true → c ≡ false) → bit (b || c) ≡ bit b + bit c
count_one true c h = let none : bit c ≡ 0 = ap bit (h refl) in omega arith
count_one false c h = omega arith

count-or : (f g : ℕ → Bool) (us : List ℕ) → AllByRecursion (λ u. f u ≡ true → g u ≡ false) us → count (map (λ u. f u || g u) us) ≡ count (map f us) + count (map g us)
count-or f g [] h = refl
count-or f g (u ∷ us) h = omega (arith, count_one (f u) (g u) h.0, count-or f g us h.1)

count_none : (v : ℕ) (us : List ℕ) → AllByRecursion (λ u. v ≢ u) us → count (map (λ u. v == u) us) ≡ 0
count_none v [] h = refl
count_none v (u ∷ us) h = let here : bit (v == u) ≡ 0 = ap bit (ne_eqb v u h.0) in omega (arith, count_none v us h.1)

-- a number stands once in a list of distinct ones
count_once : (v : ℕ) (us : List ℕ) → Apart us → has us v ≡ true → count (map (λ u. v == u) us) ≡ 1
count_once v [] apart h = absurd (true≢false (sym h))
count_once v (u ∷ us) apart h =
    ⊎_elim
    (λ e. let here : bit (v == u) ≡ 1 = ap bit (eq-eqb v u e) in omega (arith, count_none v us (subst (λ w. AllByRecursion (λ x. w ≢ x) us) (sym e) apart.0)))
    (λ ne. let here : bit (v == u) ≡ 0 = ap bit (ne_eqb v u ne) in
    ⊎_elim (λ same. absurd (ne (sym (eqb-true u v same)))) (λ later. omega (arith, count_once v us apart.1 later)) (or_cases (u == v) (has us v) h))
    (cases_eq v u)

-- a number below those that rise isn't among them
rising_absent : (v w : ℕ) (vs : List ℕ) → AreRising v vs → w ≤ v → has vs w ≡ false
rising_absent v w [] h low = refl
rising_absent v w (x ∷ xs) h low =
    let above = h.0 in
    let ne : x ≢ w = omega arith in
    ap₂ ◌||◌ (ne_eqb x w ne) (rising_absent x w xs h.1 (omega arith))

count_nothing : (us : List ℕ) → count (map (has []) us) ≡ 0
count_nothing [] = refl
count_nothing (u ∷ us) = omega (arith, count_nothing us)

each_excluded : (v : ℕ) (vs us : List ℕ) → has vs v ≡ false → AllByRecursion (λ u. (v == u) ≡ true → has vs u ≡ false) us
each_excluded v vs [] h = tt
each_excluded v vs (u ∷ us) h = ((λ e. subst (λ w. has vs w ≡ false) (eqb-true v u e) h), each_excluded v vs us h)

count_all : (low : ℕ) (vs us : List ℕ) → Apart us → AreRising low vs → AllByRecursion (λ v. has us v ≡ true) vs → count (map (has vs) us) ≡ length vs
count_all low [] us apart rising over = count_nothing us
count_all low (v ∷ vs) us apart rising over =
    omega (arith, count-or (λ u. v == u) (has vs) us (each_excluded v vs us (rising_absent v v vs rising.1 (omega arith))), count_once v us apart over.0, count_all v vs us apart rising.1 over.1)

-- the bits, by variable
bits_by_variable : (vs : List ℕ) (ls : List Lit) → AllByRecursion IsInput ls → map (literal (has vs)) ls ≡ map (has vs) (map variable_of ls)
bits_by_variable vs [] h = refl
bits_by_variable vs (l ∷ ls) h = ap₂ ◌∷◌ (literal-input (has vs) l h.0) (bits_by_variable vs ls h.1)

pub length-positions : (s : Sides) (vs : List ℕ) → AreInputs (inputs_in s) → IsMonomialOver s vs → length (positions s vs) ≡ length vs
length-positions s vs inputs h =
    let ls = inputs_in s in
    let us = map variable_of ls in
    length-ones_from 0 (map (literal (has vs)) ls) ∙
    ap count (bits_by_variable vs ls (recursion_from_All IsInput ls inputs.even)) ∙
    count_all 0 vs us (apart_from_pairs us inputs.once) h.rising (recursion_from_All (λ v. has us v ≡ true) vs h.over)
