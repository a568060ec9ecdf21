-- What is ensured where a step wants memory and its want is passed on.
use Rattle.std.specs.declared.result.Result.{Result}
use Rattle.std.specs.declared.result.Result.TheVariants.{Ok, Err}
use Rattle.std.specs.Result.{IfOk, IsErrAnd, OnOk}

-- nothing is said of what is done
pub not_done : {T E : Type 0} (P : Type 0) (Q : E → Type 0) (r : Result T E) → IsErrAnd r Q → OnOk r P
not_done P Q (Ok x) h = absurd h
not_done P Q (Err e) h = tt

-- nothing is said of what is given
pub not_given : {T E : Type 0} (P : T → Type 0) (Q : E → Type 0) (r : Result T E) → IsErrAnd r Q → IfOk r P
not_given P Q (Ok x) h = absurd h
not_given P Q (Err e) h = tt
