-- Lists with numbers of 32 bits have the same first fault.
use Rattle.std.specs.Prelude.{◌≡◌, ℕ, ◌+◌, ◌*◌, ◌<◌, ◌≤◌, min, Bool, true, false, cond, List, [], ◌∷◌, ◌++◌, map, nat_lt, Option, Some, None}
use Rattle.std.specs.List.{find, flat_map}
use Rattle.std.proofs.Common.{refl, sym, ap, ap₂, ◌∙◌, arith, inl, inr, ltb-true, lt-ltb}
use Rattle.std.proofs.lemmas.Bool.{ltb-false}
use Rattle.graph_core.specs.declared.bounds.TheConstants.{MOST_VARIABLES}
use Rattle.graph_core.specs.declared.literal.Lit.{Lit}
use Rattle.graph_core.specs.declared.fault.GraphFault.TheVariants.{Range}
use Rattle.graph_core.specs.Aiger.{Listing}
use Rattle.graph_core.specs.Aiger.Refusal.{literals, first_above, shown, shown_gate, shown_lists, fault_of, ShownFaults}
use Rattle.graph_core.proofs.OfTexts.Numerals.{not_below}
use Rattle.graph_core.proofs.OfGraphs.Levels.{In}
use Rattle.graph_core.proofs.OfGraphs.Faults.{fault_is_found, find_none, in_left, in_right}

-- the test for a literal above the limit
abbrev is_above : ℕ → Lit → Bool
is_above limit l = nat_lt limit l.0

same_test : (limit : ℕ) (l : Lit) → limit < 4294967295 → is_above limit (shown l) ≡ is_above limit l
same_test limit l h = go (nat_lt limit l.0) refl
  where
    go : (b : Bool) → nat_lt limit l.0 ≡ b → nat_lt limit (min l.0 4294967295) ≡ nat_lt limit l.0
    go true e = let less = ltb-true limit l.0 e in lt-ltb limit (min l.0 4294967295) (omega arith) ∙ sym e
    go false e = let low = ltb-false limit l.0 e in not_below limit (min l.0 4294967295) (omega arith) ∙ sym e

abbrev shown_option : Option Lit → Option Lit
shown_option None = None
shown_option (Some l) = Some (shown l)

find_shown : (limit : ℕ) → limit < 4294967295 → (ls : List Lit) → find (is_above limit) (map shown ls) ≡ shown_option (find (is_above limit) ls)
find_shown limit h [] = refl
find_shown limit h (l ∷ ls) = ap (λ b. cond b (Some (shown l)) (find (is_above limit) (map shown ls))) (same_test limit l h) ∙ go (is_above limit l) (find_shown limit h ls)
  where
    go : (b : Bool) → find (is_above limit) (map shown ls) ≡ shown_option (find (is_above limit) ls) → cond b (Some (shown l)) (find (is_above limit) (map shown ls)) ≡ shown_option (cond b (Some l) (find (is_above limit) ls))
    go true e = refl
    go false e = e

abbrev three : Lit × Lit × Lit → List Lit
three t = t.0 ∷ t.1 ∷ t.2 ∷ []

map_append : (xs ys : List Lit) → map shown (xs ++ ys) ≡ map shown xs ++ map shown ys
map_append [] ys = refl
map_append (x ∷ xs) ys = ap (λ zs. shown x ∷ zs) (map_append xs ys)

shown_three : (ts : List (Lit × Lit × Lit)) → flat_map three (map shown_gate ts) ≡ map shown (flat_map three ts)
shown_three [] = refl
shown_three (t ∷ ts) = ap (λ zs. shown t.0 ∷ shown t.1 ∷ shown t.2 ∷ zs) (shown_three ts)

shown_literals : (g : Listing) → literals (shown_lists g) ≡ map shown (literals g)
shown_literals g =
    ap (λ zs. (map shown g.inputs ++ map shown g.outputs) ++ zs) (shown_three g.gates) ∙ ap (λ zs. zs ++ map shown (flat_map three g.gates)) (sym (map_append g.inputs g.outputs)) ∙
    sym (map_append (g.inputs ++ g.outputs) (flat_map three g.gates))

shown_above : (g : Listing) → g.max ≤ MOST_VARIABLES → first_above (shown_lists g) ≡ shown_option (first_above g)
shown_above g h = ap (find (is_above (2 * g.max + 1))) (shown_literals g) ∙ find_shown (2 * g.max + 1) (omega arith) (literals g)

-- ---- lists without a literal above the limit

shown_same : (l : Lit) → l.0 ≤ 4294967295 → shown l ≡ l
shown_same l h = let e : min l.0 4294967295 ≡ l.0 = omega arith in ap (λ n. record { 0 = n }) e

all_same : (ls : List Lit) → ((l : Lit) → In l ls → l.0 ≤ 4294967295) → map shown ls ≡ ls
all_same [] h = refl
all_same (l ∷ ls) h = ap₂ ◌∷◌ (shown_same l (h l (inl refl))) (all_same ls (λ x i. h x (inr i)))

gates_same : (ts : List (Lit × Lit × Lit)) → ((l : Lit) → In l (flat_map three ts) → l.0 ≤ 4294967295) → map shown_gate ts ≡ ts
gates_same [] h = refl
gates_same (t ∷ ts) h =
    ap₂ ◌∷◌ (ap₂ (λ a b. (a, b, shown t.2)) (shown_same t.0 (h t.0 (inl refl))) (shown_same t.1 (h t.1 (inr (inl refl)))) ∙ ap (λ c. (t.0, t.1, c)) (shown_same t.2 (h t.2 (inr (inr (inl refl))))))
    (gates_same ts (λ x i. h x (inr (inr (inr i)))))

lists_same : (g : Listing) → g.max ≤ MOST_VARIABLES → first_above g ≡ None → shown_lists g ≡ g
lists_same g h none =
    let low : (l : Lit) → In l (literals g) → l.0 ≤ 4294967295 = λ l i. let b = ltb-false (2 * g.max + 1) l.0 (find_none (is_above (2 * g.max + 1)) (literals g) none l i) in omega arith in
    let ins = all_same g.inputs (λ l i. low l (in_left l (g.inputs ++ g.outputs) (flat_map three g.gates) (in_left l g.inputs g.outputs i))) in
    let outs = all_same g.outputs (λ l i. low l (in_left l (g.inputs ++ g.outputs) (flat_map three g.gates) (in_right l g.inputs g.outputs i))) in
    let gates = gates_same g.gates (λ l i. low l (in_right l (g.inputs ++ g.outputs) (flat_map three g.gates) i)) in
    ap₂ (λ a b. record { max = g.max; inputs = a; outputs = b; gates = map shown_gate g.gates }) ins outs ∙ ap (λ c. record { max = g.max; inputs = g.inputs; outputs = g.outputs; gates = c }) gates

shown_twice : (l : Lit) → shown l ≡ shown (shown l)
shown_twice l = let e : min l.0 4294967295 ≡ min (min l.0 4294967295) 4294967295 = omega arith in ap (λ n. record { 0 = n }) e

same_fault : (g : Listing) → g.max ≤ MOST_VARIABLES → (o : Option Lit) → first_above g ≡ o → (fault_of (shown_lists g) ≡ fault_of g) × (fault_of g ≡ None → shown_lists g ≡ g)
same_fault g h None e = let same = lists_same g h e in (ap fault_of same, λ n. same)
same_fault g h (Some l) e =
    let here = (fault_is_found g (Range (shown l))).1 (l, e, refl) in
    let there = (fault_is_found (shown_lists g) (Range (shown l))).1 (shown l, shown_above g h ∙ ap shown_option e, shown_twice l) in
    (there ∙ sym here, λ n. let both = sym n ∙ here in absurd (cc))

pub shown_faults : ShownFaults
shown_faults g h = same_fault g h (first_above g) refl
