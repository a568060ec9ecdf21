-- Marks by number: those that bear the stamp of now.
use Rattle.std.specs.Prelude.{ℕ, zero, suc, Bool, false, List, [], ◌∷◌, map, ◌==◌}

abbrev pub marked : ℕ → List ℕ → List Bool
marked now stamps = map (λ stamp. stamp == now) stamps

-- so many numbers, none of which is marked
abbrev pub none_marked : ℕ → List Bool
none_marked zero = []
none_marked (suc n) = false ∷ none_marked n
