-- Clauses with tight chains follow, whatever else is live.
use Rattle.std.specs.Prelude.{◌≡◌, ℕ, zero, suc, List, [], ◌∷◌, ◌++◌, length, map, ℤ, neg_ℤ}
use Rattle.std.specs.declared.option.Option.TheVariants.{Some}
use Rattle.std.specs.List.{Any, Contains}
use Rattle.std.proofs.Common.{refl, sym, ap, subst, inl, inr, ⊎_elim, append_assoc}
use Rattle.std.proofs.lemmas.List.{append-nil}
use Rattle.std.proofs.lemmas.List.Elements.{All-contains, All-contains_itself, Contains-push_cases}
use Rattle.clause_core.specs.Clause.{Clause, SameSet}
use Rattle.clause_core.specs.ClauseLines.{AreLawfulClauses}
use Rattle.clause_core.specs.UnitPropagation.{IsChain, IsRup}
use Rattle.graph_core.proofs.OfGraphs.CallerLemmas.{any_there}
use Rattle.clause_core.proofs.Decided.{contains_here, contains_nil, contains_there}
use Rattle.clause_core.proofs.Sets.{rup_by_sets}
use Rattle.clause_core.specs.TightChains.{IsTight, IsTightChain, TightChainsImply}
use Rattle.clause_core.specs.KeptClauses.{HasTightChain, HaveTightChains, IsGivenOrUsed, IsNumbered, KeptClausesAreLawful, TightChainsGoOn, added_lines, numbered}

chain_of : (assumed : List ℤ) (chain : List Clause) → IsTight assumed chain → IsChain assumed chain
chain_of assumed [] h = h
chain_of assumed (c ∷ []) h = h
chain_of assumed (c ∷ d ∷ ds) h = (h.0, h.1, chain_of (h.0 ∷ assumed) (d ∷ ds) h.3)

rup_itself : (c : Clause) (chain : List Clause) → IsTightChain c chain → IsRup chain c
rup_itself c chain h = ⊎_elim (λ t. inr t.0) (λ t. inl (chain, All-contains_itself chain, chain_of (map neg_ℤ c) chain t.1)) h

pub tight_chains_imply : TightChainsImply
tight_chains_imply c chain live tight among =
    rup_by_sets chain live c (λ d has. All-contains (λ x. Any (λ e. SameSet e x) live) chain d among has) (rup_itself c chain tight)

-- ---- among given clauses and those before

-- an element with a number is in the list
pub numbered_in : {X : Type 0} (xs : List X) (n : ℕ) (x : X) → numbered xs n ≡ Some x → Contains xs x
numbered_in xs zero x e = absurd (cc)
numbered_in [] (suc n) x e = absurd (cc)
numbered_in (y ∷ xs) (suc zero) x e = let same : y ≡ x = cc in subst (Contains (y ∷ xs)) same (contains_here y xs)
numbered_in (y ∷ xs) (suc (suc n)) x e = contains_there y xs x (numbered_in xs (suc n) x e)

-- all of them are live
record AreLive (given before live : List Clause) : Type 0 where
  given_live : (c : Clause) → Any (λ d. SameSet d c) given → Any (λ d. SameSet d c) live
  before_live : (c : Clause) → Contains before c → Contains live c

named_live : (given before live : List Clause) → AreLive given before live → (uses : List ℕ) (c : Clause) → IsGivenOrUsed given before uses c → Any (λ d. SameSet d c) live
named_live given before live h uses c n = ⊎_elim (h.given_live c) (λ u. by_number u.1 u.4) n
  where
    by_number : (k : ℕ) → IsNumbered before c k → Any (λ d. SameSet d c) live
    by_number k t = let l = h.before_live t.0 (numbered_in before k t.0 t.1) in (l.0, t.0, l.1, l.2, t.2)

still_live : (given before live : List Clause) (c : Clause) → AreLive given before live → AreLive given (before ++ c ∷ []) (c ∷ live)
still_live given before live c h = record {
  given_live = λ d a. any_there (λ e. SameSet e d) c live (h.given_live d a);
  before_live = λ d a. ⊎_elim (λ b. contains_there c live d (h.before_live d b)) (λ e. subst (Contains (c ∷ live)) e (contains_here c live)) (Contains-push_cases before c d a);
}

lawful_from : (given before live : List Clause) → AreLive given before live → (cs : List Clause) (us : List (List ℕ)) → HaveTightChains given before cs us → AreLawfulClauses live (added_lines cs)
lawful_from given before live h [] us t = tt
lawful_from given before live h (c ∷ cs) [] t = absurd t
lawful_from given before live h (c ∷ cs) (u ∷ us) t = (
  tight_chains_imply c t.0.chain live t.0.tight (λ k d low. named_live given before live h u _ (t.0.named k d low)),
  lawful_from given (before ++ c ∷ []) (c ∷ live) (still_live given before live c h) cs us t.1,
)

-- one more at the end
go_on_from : (given before cs : List Clause) (us : List (List ℕ)) (c : Clause) (u : List ℕ) → HaveTightChains given before cs us → HasTightChain given (before ++ cs) c u → HaveTightChains given before (cs ++ c ∷ []) (us ++ u ∷ [])
go_on_from given before [] [] c u h t = (subst (λ (xs : List Clause). HasTightChain given xs c u) (append-nil before) t, tt)
go_on_from given before [] (v ∷ us) c u h t = absurd h
go_on_from given before (d ∷ cs) [] c u h t = absurd h
go_on_from given before (d ∷ cs) (v ∷ us) c u h t =
    (h.0, go_on_from given (before ++ d ∷ []) cs us c u h.1 (subst (λ (xs : List Clause). HasTightChain given xs c u) (sym (append_assoc before (d ∷ []) cs)) t))

pub tight_chains_go_on : TightChainsGoOn
tight_chains_go_on given clauses uses c named h t = go_on_from given [] clauses uses c named h t

-- there are as many uses as clauses
pub as_many : (given before cs : List Clause) (us : List (List ℕ)) → HaveTightChains given before cs us → length us ≡ length cs
as_many given before [] [] h = refl
as_many given before [] (u ∷ us) h = absurd h
as_many given before (c ∷ cs) [] h = absurd h
as_many given before (c ∷ cs) (u ∷ us) h = ap suc (as_many given (before ++ c ∷ []) cs us h.1)

pub kept_clauses_are_lawful : KeptClausesAreLawful
kept_clauses_are_lawful given clauses uses t =
    lawful_from given [] given (record { given_live = λ c a. a; before_live = λ c a. absurd (contains_nil c a) }) clauses uses t
