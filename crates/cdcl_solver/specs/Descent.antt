-- The end of a descent.
use Rattle.std.specs.Prelude.{◌≡◌, ℕ, Bool, true, List}
use Rattle.unit_prop.specs.Standing.{Standing, IsPropagated}
use Rattle.cdcl_solver.specs.Search.{IsConflictAt, AllStand}
use Rattle.cdcl_solver.specs.declared.descent.Descent.{Descent}
use Rattle.cdcl_solver.specs.declared.descent.Descent.TheVariants.{Bottom, Conflict, GivenUp}

-- Each of these variables has a value without a conflict, or there is one. It is given up only where a few decisions are enough.
abbrev pub Descends : List ℕ → Bool → Standing → Descent → Type 0
Descends vars few s Bottom = IsPropagated s × AllStand vars s
Descends vars few s (Conflict conflict) = IsConflictAt s conflict.clause conflict.level
Descends vars few s GivenUp = few ≡ true
