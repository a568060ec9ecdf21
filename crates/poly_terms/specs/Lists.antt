-- Lists of variables that stand one behind the other, each told by where it ends. These words serve private clauses.
use Rattle.std.specs.Prelude.{◌≡◌, ℕ, suc, zero, ◌≤◌, List, [], ◌∷◌, get_or, slice_range}

-- the lists that end at these places, the first of them from a place on
abbrev pub lists_from : ℕ → List ℕ → List ℕ → List (List ℕ)
lists_from start variables [] = []
lists_from start variables (end ∷ ends) = slice_range variables start end ∷ lists_from end variables ends

-- places from one on, none below the one before it, the last of which is another one
abbrev pub AreEnds : ℕ → ℕ → List ℕ → Type 0
AreEnds start last [] = start ≡ last
AreEnds start last (end ∷ ends) = (start ≤ end) × AreEnds end last ends

-- where the list of a number begins: where the one before it ends
abbrev pub start_at : ℕ → List ℕ → ℕ → ℕ
start_at start ends zero = start
start_at start ends (suc number) = get_or ends number 0
