-- What is kept of added clauses: chains, where nothing is kept and where what is kept is handed out.
use Rattle.std.specs.Prelude.{◌≡◌, List, ℕ, [], length}
use Rattle.std.proofs.Common.{sym, ap, subst, arith}
use Rattle.clause_core.specs.Clause.{Clause}
use Rattle.clause_core.specs.KeptClauses.{AreEarlier, HaveTightChains}

pub none_tight : (given cs : List Clause) (uses : List (List ℕ)) → cs ≡ [] → uses ≡ [] → HaveTightChains given [] cs uses
none_tight given cs uses none_added none_used =
    subst (λ (ds : List Clause). HaveTightChains given [] ds uses) (sym none_added) (subst (HaveTightChains given [] []) (sym none_used) tt)

pub none_earlier : (uses : List (List ℕ)) → uses ≡ [] → AreEarlier uses
none_earlier uses none i below = let empty : length uses ≡ 0 = ap length none in absurd (omega (arith, below, empty))

-- the same of equal gates, clauses and uses
pub tight_moved : (given others cs ds : List Clause) (uses more : List (List ℕ)) → given ≡ others → cs ≡ ds → uses ≡ more → HaveTightChains given [] cs uses → HaveTightChains others [] ds more
tight_moved given others cs ds uses more same_given same_added same_uses h =
    subst (λ (gs : List Clause). HaveTightChains gs [] ds more) same_given
    (subst (λ (xs : List Clause). HaveTightChains given [] xs more) same_added (subst (HaveTightChains given [] cs) same_uses h))
