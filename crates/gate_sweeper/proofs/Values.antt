-- The values that an evaluation has at the inputs.
use Rattle.std.specs.Prelude.{◌≡◌, ℕ, ◌+◌, ◌<◌, ◌≤◌, List, [], ◌∷◌, ◌++◌, length, map, take, slice_index_or}
use Rattle.std.proofs.Common.{sym, ap, ◌∙◌}
use Rattle.std.proofs.lemmas.List.{map-append, take_all, take_more}

-- one value more after those of the first literals
pub map_more : {X Y : Type 0} (f : X → Y) (xs : List X) (i : ℕ) (d : X) (ys : List Y) (y : Y) → i < length xs → ys ≡ map f (take i xs) → y ≡ f (slice_index_or xs i d) → ys ++ y ∷ [] ≡ map f (take (i + 1) xs)
map_more f xs i d ys y below h e =
    ap (λ z. z ++ y ∷ []) h ∙ ap (λ z. map f (take i xs) ++ z ∷ []) e ∙ sym (map-append f (take i xs) (slice_index_or xs i d ∷ [])) ∙ sym (ap (map f) (take_more xs i d below))

pub map_all : {X Y : Type 0} (f : X → Y) (xs : List X) (i : ℕ) (ys : List Y) → length xs ≤ i → ys ≡ map f (take i xs) → ys ≡ map f xs
map_all f xs i ys end h = h ∙ ap (map f) (take_all i xs end)
