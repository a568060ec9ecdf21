-- Lists whose elements are one by one those of another.
use Rattle.std.specs.Prelude.{◌≡◌, ℕ, zero, suc, ◌<◌, List, [], ◌∷◌, ◌++◌, length, slice_index_or}
use Rattle.std.proofs.Common.{refl, ap, arith, take}
use Rattle.clause_core.specs.Clause.{Clause, SameSet}
use Rattle.clause_core.specs.Likeness.{AreSameSets}
use Rattle.clause_core.proofs.Copies.{same_self}

pub take_none : {X : Type 0} (xs : List X) → take 0 xs ≡ []
take_none [] = refl
take_none (x ∷ xs) = refl

pub same_long : (cs ds : List Clause) → AreSameSets cs ds → length cs ≡ length ds
same_long [] [] h = refl
same_long [] (d ∷ ds) h = absurd h
same_long (c ∷ cs) [] h = absurd h
same_long (c ∷ cs) (d ∷ ds) h = ap suc (same_long cs ds h.1)

pub same_at : (cs ds : List Clause) (i : ℕ) (c d : Clause) → AreSameSets cs ds → i < length cs → SameSet (slice_index_or cs i c) (slice_index_or ds i d)
same_at [] ds i c d h below = absurd (omega arith)
same_at (x ∷ cs) [] i c d h below = absurd h
same_at (x ∷ cs) (y ∷ ds) zero c d h below = h.0
same_at (x ∷ cs) (y ∷ ds) (suc i) c d h below = same_at cs ds i c d h.1 (omega arith)

pub same_behind : (own cs ds : List Clause) → AreSameSets cs ds → AreSameSets (own ++ cs) (own ++ ds)
same_behind [] cs ds h = h
same_behind (x ∷ own) cs ds h = (same_self x, same_behind own cs ds h)

pub sames_flip : (cs ds : List Clause) → AreSameSets cs ds → AreSameSets ds cs
sames_flip [] [] h = tt
sames_flip [] (d ∷ ds) h = absurd h
sames_flip (c ∷ cs) [] h = absurd h
sames_flip (c ∷ cs) (d ∷ ds) h = ((h.0.1, h.0.0), sames_flip cs ds h.1)
