-- What holds of each fact, as one of them changes.
use Rattle.std.specs.Prelude.{nat_eq, IfSome, cond}
use Rattle.std.proofs.Common.{ℕ, Bool, true, false, Option, sym, subst}
use Rattle.std.specs.List.{All}
use Rattle.std.proofs.lemmas.Cmp.{nat_eq_equiv}
use Rattle.std.proofs.lemmas.Map.Views.{All-values_from_lookup, IfSome-lookup_from_All}
use Rattle.indexmap.specs.IndexMap.{IndexMap, IsUnique, Updates, get, values}

-- one key alone has another value, or none
pub All-updated : {X S : Type 0} (P : X → Type 0) (m n : IndexMap ℕ X S) (k : ℕ) (w : Option X) → IsUnique nat_eq n → Updates nat_eq m n k w → All P (values m) → IfSome w P → All P (values n)
All-updated P m n k w unique updates each new = All-values_from_lookup nat_eq_equiv P n.entries unique (λ q. subst (λ o. IfSome o P) (sym (updates.0 q)) (either q (nat_eq k q)))
  where
    either : (q : ℕ) (b : Bool) → IfSome (cond b w (get nat_eq m q)) P
    either q true = new
    either q false = IfSome-lookup_from_All P (nat_eq q) m.entries each
