-- Lists that stand one behind the other.
use Rattle.std.proofs.Common.{◌≡◌, ℕ, zero, suc, ◌+◌, ◌-◌, ◌<◌, ◌≤◌, List, [], ◌∷◌, ◌++◌, length, get_or, take, drop, refl, sym, ap, ap₂, subst, ◌∙◌, arith}
use Rattle.std.proofs.lemmas.List.{drop-append-le, length-drop, length-take-le, take-append-drop, take-append-le, take_all}
use Rattle.std.specs.Prelude.{slice_range}
use Rattle.poly_terms.specs.Lists.{AreEnds, lists_from, start_at}

-- as many lists as ends
pub length_lists : (start : ℕ) (vs ends : List ℕ) → length (lists_from start vs ends) ≡ length ends
length_lists start vs [] = refl
length_lists start vs (end ∷ ends) = ap suc (length_lists end vs ends)

-- the first place is none past the last
pub rise : (start last : ℕ) (ends : List ℕ) → AreEnds start last ends → start ≤ last
rise start last [] h = omega (arith, h)
rise start last (end ∷ ends) h = let rest = rise end last ends h.1 in omega (arith, rest, h.0)

-- a list begins where none past its end is, and ends within the variables
pub start_below : (start last : ℕ) (ends : List ℕ) (n : ℕ) → AreEnds start last ends → n < length ends → start_at start ends n ≤ get_or ends n 0
start_below start last [] n h low = absurd (omega (arith, low))
start_below start last (end ∷ ends) zero h low = h.0
start_below start last (end ∷ ends) (suc zero) h low = start_below end last ends zero h.1 (omega (arith, low))
start_below start last (end ∷ ends) (suc (suc n)) h low = start_below end last ends (suc n) h.1 (omega (arith, low))

pub end_below : (start last : ℕ) (ends : List ℕ) (n : ℕ) → AreEnds start last ends → n < length ends → get_or ends n 0 ≤ last
end_below start last [] n h low = absurd (omega (arith, low))
end_below start last (end ∷ ends) zero h low = rise end last ends h.1
end_below start last (end ∷ ends) (suc n) h low = end_below end last ends n h.1 (omega (arith, low))

-- the list of a number
pub list_at : (start : ℕ) (vs ends : List ℕ) (n : ℕ) → n < length ends → get_or (lists_from start vs ends) n [] ≡ slice_range vs (start_at start ends n) (get_or ends n 0)
list_at start vs [] n low = absurd (omega (arith, low))
list_at start vs (end ∷ ends) zero low = refl
list_at start vs (end ∷ ends) (suc zero) low = list_at end vs ends zero (omega (arith, low))
list_at start vs (end ∷ ends) (suc (suc n)) low = list_at end vs ends (suc n) (omega (arith, low))

-- a part of the first variables doesn't see others after them
part_within : (vs more : List ℕ) (a b : ℕ) → a ≤ b → b ≤ length vs → slice_range (vs ++ more) a b ≡ slice_range vs a b
part_within vs more a b up low =
    let len = length-drop a vs in
    ap (take (b - a)) (drop-append-le a vs more (omega (arith, up, low))) ∙ take-append-le (b - a) (drop a vs) more (omega (arith, len, up, low))

pub lists_within : (start : ℕ) (vs more ends : List ℕ) → AreEnds start (length vs) ends → lists_from start (vs ++ more) ends ≡ lists_from start vs ends
lists_within start vs more [] h = refl
lists_within start vs more (end ∷ ends) h = ap₂ ◌∷◌ (part_within vs more start end h.0 (rise end (length vs) ends h.1)) (lists_within end vs more ends h.1)

-- ---- one list more

last_part : (vs list : List ℕ) → slice_range (vs ++ list) (length vs) (length vs + length list) ≡ list
last_part vs list =
    ap₂ take (omega arith) (behind vs) ∙ take_all (length list) list (omega arith)
  where
    behind : (us : List ℕ) → drop (length us) (us ++ list) ≡ list
    behind [] = refl
    behind (u ∷ us) = behind us

pub one_more_end : (start last more : ℕ) (ends : List ℕ) → AreEnds start last ends → AreEnds start (last + more) (ends ++ (last + more) ∷ [])
one_more_end start last more [] h = (omega (arith, h), refl)
one_more_end start last more (end ∷ ends) h = (h.0, one_more_end end last more ends h.1)

pub one_more_list : (start : ℕ) (vs list ends : List ℕ) → AreEnds start (length vs) ends →
    lists_from start (vs ++ list) (ends ++ (length vs + length list) ∷ []) ≡ lists_from start vs ends ++ list ∷ []
one_more_list start vs list [] h = ap (λ x. x ∷ []) (ap (λ a. slice_range (vs ++ list) a (length vs + length list)) h ∙ last_part vs list)
one_more_list start vs list (end ∷ ends) h = ap₂ ◌∷◌ (part_within vs list start end h.0 (rise end (length vs) ends h.1)) (one_more_list end vs list ends h.1)

-- ---- the first so many lists

pub first_ends : (start last : ℕ) (ends : List ℕ) (count : ℕ) → AreEnds start last ends → count ≤ length ends → AreEnds start (start_at start ends count) (take count ends)
first_ends start last ends zero h low = refl
first_ends start last [] (suc count) h low = absurd (omega (arith, low))
first_ends start last (end ∷ ends) (suc zero) h low = (h.0, refl)
first_ends start last (end ∷ ends) (suc (suc count)) h low = (h.0, first_ends end last ends (suc count) h.1 (omega (arith, low)))

take_lists : (start : ℕ) (vs ends : List ℕ) (count : ℕ) → take count (lists_from start vs ends) ≡ lists_from start vs (take count ends)
take_lists start vs ends zero = refl
take_lists start vs [] (suc count) = refl
take_lists start vs (end ∷ ends) (suc count) = ap (λ ls. slice_range vs start end ∷ ls) (take_lists end vs ends count)

-- with the variables behind them gone
pub first_lists : (start : ℕ) (vs ends : List ℕ) (count : ℕ) → AreEnds start (length vs) ends → count < length ends →
    (length (take (start_at start ends count) vs) ≡ start_at start ends count) × (lists_from start (take (start_at start ends count) vs) (take count ends) ≡ take count (lists_from start vs ends))
first_lists start vs ends count h low =
    let m = start_at start ends count in
    let within : m ≤ length vs = let b = start_below start (length vs) ends count h low in let e = end_below start (length vs) ends count h low in omega (arith, b, e) in
    let long : length (take m vs) ≡ m = length-take-le m vs within in
    let first : AreEnds start (length (take m vs)) (take count ends) = subst (λ n. AreEnds start n (take count ends)) (sym long) (first_ends start (length vs) ends count h (omega (arith, low))) in
    (long, sym (lists_within start (take m vs) (drop m vs) (take count ends) first) ∙ ap (λ us. lists_from start us (take count ends)) (take-append-drop m vs) ∙ sym (take_lists start vs ends count))
