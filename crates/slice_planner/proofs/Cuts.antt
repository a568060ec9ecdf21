-- One more group of a list with its last gate first.
use Rattle.std.specs.Prelude.{◌≡◌, ℕ, zero, suc, ◌+◌, ◌<◌, ◌≤◌, List, [], ◌∷◌, ◌++◌, map, length, take, drop}
use Rattle.std.specs.List.{between}
use Rattle.std.proofs.Common.{refl, sym, ap, ap₂, subst, ◌∙◌, arith, append_assoc, length-drop}
use Rattle.std.proofs.lemmas.Slice.{between_to_end}
use Rattle.std.proofs.lemmas.List.Elements.{recursion_from_All, All-from_recursion}
use Rattle.graph_core.specs.declared.gate.Gate.{Gate}
use Rattle.graph_core.proofs.OfGraphs.CallerLemmas.{all_join}
use Rattle.slice_planner.specs.Groups.{group_size}
use Rattle.slice_planner.proofs.ListedGroups.{all_groups, first_group}
use Rattle.slice_planner.specs.declared.arrangement.Part.{Part}
use Rattle.slice_planner.specs.Arranged.{AreWithin, pieces, variables}

map_append : {X Y : Type 0} (f : X → Y) (xs ys : List X) → map f (xs ++ ys) ≡ map f xs ++ map f ys
map_append f [] ys = refl
map_append f (x ∷ xs) ys = ap (λ zs. f x ∷ zs) (map_append f xs ys)

drop_none : {X : Type 0} (n : ℕ) → drop {A = X} n [] ≡ []
drop_none zero = refl
drop_none (suc n) = refl

drop_drop : {X : Type 0} (a b : ℕ) (xs : List X) → drop (a + b) xs ≡ drop b (drop a xs)
drop_drop zero b xs = ap (λ n. drop n xs) (omega arith)
drop_drop (suc a) b [] = drop_none (suc a + b) ∙ sym (drop_none b)
drop_drop (suc a) b (x ∷ xs) = let up : suc a + b ≡ suc (a + b) = omega arith in ap (λ n. drop n (x ∷ xs)) up ∙ drop_drop a b xs

drop_short : {X : Type 0} (s : ℕ) (xs : List X) → length (drop s xs) ≤ length xs
drop_short zero xs = omega arith
drop_short (suc s) [] = omega arith
drop_short (suc s) (x ∷ xs) = omega (arith, drop_short s xs)

-- the first group of what is left, and the others
next_group : (s : ℕ) (gates : List Gate) → 0 < length gates → s ≡ group_size gates → 0 < s → all_groups gates ≡ variables (take s gates) ∷ all_groups (drop s gates)
next_group s [] some size positive = absurd (omega arith)
next_group zero (x ∷ gates) some size positive = absurd (omega arith)
next_group (suc s) (x ∷ gates) some size positive = first_group (suc s) x gates (sym size) (drop_short s gates)

pub cut_more : (gates : List Gate) (parts now : List Part) (start size : ℕ) (p : Part) → start < length gates → size ≡ group_size (between start (length gates) gates) → 0 < size →
    now ≡ parts ++ p ∷ [] → p.start ≡ start → p.end ≡ start + size → map variables (pieces gates parts) ++ all_groups (drop start gates) ≡ all_groups gates →
    map variables (pieces gates now) ++ all_groups (drop (start + size) gates) ≡ all_groups gates
cut_more gates parts now start size p low sized positive is from to so_far =
    let piece : between p.start p.end gates ≡ take size (drop start gates) = ap₂ (λ i j. between i j gates) from to ∙ ap (λ n. take n (drop start gates)) (omega arith) in
    let next = next_group size (drop start gates) (omega (arith, length-drop start gates)) (sized ∙ ap group_size (between_to_end gates start (length gates) (omega arith))) positive in
    ap (λ ps. map variables (pieces gates ps) ++ all_groups (drop (start + size) gates)) is ∙
    ap (λ gs. map variables gs ++ all_groups (drop (start + size) gates)) (map_append (λ q. between q.start q.end gates) parts (p ∷ [])) ∙
    ap (λ ls. ls ++ all_groups (drop (start + size) gates)) (map_append variables (pieces gates parts) (between p.start p.end gates ∷ [])) ∙
    append_assoc (map variables (pieces gates parts)) (variables (between p.start p.end gates) ∷ []) (all_groups (drop (start + size) gates)) ∙
    ap (λ ls. map variables (pieces gates parts) ++ ls) (ap₂ (λ g gs. variables g ∷ all_groups gs) piece (drop_drop start size gates) ∙ sym next) ∙ so_far

pub left_over : (gates : List Gate) (start size : ℕ) → size ≤ length (between start (length gates) gates) → start ≤ length gates → start + size ≤ length gates
left_over gates start size low from = let is = ap length (between_to_end gates start (length gates) (omega arith)) in omega (arith, length-drop start gates)

pub within_more : (gates : List Gate) (parts now : List Part) (p : Part) → now ≡ parts ++ p ∷ [] → AreWithin gates parts → p.start ≤ p.end → p.end ≤ length gates → AreWithin gates now
within_more gates parts now p is all from to =
    subst (AreWithin gates) (sym is) (All-from_recursion (λ (q : Part). (q.start ≤ q.end) × (q.end ≤ length gates)) (parts ++ p ∷ []) (all_join (λ (q : Part). (q.start ≤ q.end) × (q.end ≤ length gates)) parts (p ∷ []) (recursion_from_All (λ (q : Part). (q.start ≤ q.end) × (q.end ≤ length gates)) parts all) ((from, to), tt)))

-- parts of a list are parts of a longer one
pub within_longer : (gates more : List Gate) (parts : List Part) → length gates ≤ length more → AreWithin gates parts → AreWithin more parts
within_longer gates more parts longer all = λ k d low. ((all k d low).0, omega (arith, longer, (all k d low).1))
