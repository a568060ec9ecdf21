-- Marks by stamps.
use Rattle.std.specs.Prelude.{◌≡◌, ℕ, zero, suc, ◌<◌, ◌≤◌, true, false, List, [], ◌∷◌, length, slice_index_or, slice_set, ◌==◌}
use Rattle.std.specs.List.{All}
use Rattle.std.proofs.Common.{refl, replicate, ap, ap₂, ◌∙◌, arith, ⊎_elim}
use Rattle.std.proofs.lemmas.Bool.Decides.{eqb_tells}
use Rattle.std.proofs.lemmas.List.{get_or-map, map-set}
use Rattle.cdcl_solver.specs.Marks.{marked, none_marked}

earlier : (stamp now : ℕ) → stamp < now → (stamp == now) ≡ false
earlier stamp now below = ⊎_elim (λ same. absurd (let e = same.1 in omega arith)) (λ apart. apart.0) (eqb_tells stamp now)

-- none bears a stamp that is later than all
pub none_bears : (stamps : List ℕ) (now : ℕ) → All (λ stamp. stamp < now) stamps → marked now stamps ≡ none_marked (length stamps)
none_bears [] now all = refl
none_bears (stamp ∷ stamps) now all = ap₂ ◌∷◌ (earlier stamp now (all 0 stamp (omega arith))) (none_bears stamps now (λ k d b. all (suc k) d (omega arith)))

pub unmarked : (n v : ℕ) → slice_index_or (none_marked n) v false ≡ false
unmarked zero v = refl
unmarked (suc n) zero = refl
unmarked (suc n) (suc v) = unmarked n v

pub length-none : (n : ℕ) → length (none_marked n) ≡ n
length-none zero = refl
length-none (suc n) = ap suc (length-none n)

-- no stamp yet
pub none_yet : (n : ℕ) → marked 1 (replicate n 0) ≡ none_marked n
none_yet zero = refl
none_yet (suc n) = ap (◌∷◌ false) (none_yet n)

pub zeros_low : (n : ℕ) → All (λ stamp. stamp ≤ 1) (replicate n 0)
zeros_low zero k d b = absurd (omega arith)
zeros_low (suc n) zero d b = omega arith
zeros_low (suc n) (suc k) d b = zeros_low n k d (omega arith)

pub length-marked : (now : ℕ) (stamps : List ℕ) → length (marked now stamps) ≡ length stamps
length-marked now [] = refl
length-marked now (stamp ∷ stamps) = ap suc (length-marked now stamps)

pub mark_at : (stamps : List ℕ) (now i : ℕ) → i < length stamps → slice_index_or (marked now stamps) i false ≡ (slice_index_or stamps i 0 == now)
mark_at stamps now i below = get_or-map (λ stamp. stamp == now) stamps i 0 false below

same_stamp : (now : ℕ) → (now == now) ≡ true
same_stamp now = ⊎_elim (λ same. same.0) (λ apart. absurd (apart.1 refl)) (eqb_tells now now)

pub marked_more : (stamps : List ℕ) (now i : ℕ) → marked now (slice_set stamps i now) ≡ slice_set (marked now stamps) i true
marked_more stamps now i = map-set (λ stamp. stamp == now) stamps i now ∙ ap (slice_set (marked now stamps) i) (same_stamp now)
