-- Chains of unit propagation without a clause that nothing after it needs.
use Rattle.std.specs.Prelude.{◌≡◌, ◌⊎◌, List, [], ◌∷◌, map, ℤ, neg_ℤ}
use Rattle.std.specs.List.{All, Any, Contains}
use Rattle.clause_core.specs.Clause.{Clause, SameSet}
use Rattle.clause_core.specs.UnitPropagation.{IsFalsified, IsRup, IsTautology, IsUnit}

-- A tight chain over what is assumed: the literal that each clause but the last adds is false in a later one.
abbrev pub IsTight : List ℤ → List Clause → Type 0
IsTight assumed [] = ⊥
IsTight assumed (c ∷ []) = IsFalsified assumed c
IsTight assumed (c ∷ d ∷ ds) = (l : ℤ) × IsUnit assumed c l × Any (λ e. Contains e (neg_ℤ l)) (d ∷ ds) × IsTight (l ∷ assumed) (d ∷ ds)

-- A tight chain for a clause refutes the negations of its literals; that of a tautology is the empty one.
abbrev pub IsTightChain : Clause → List Clause → Type 0
IsTightChain c chain = (IsTautology c × (chain ≡ [])) ⊎ (¬ (IsTautology c) × IsTight (map neg_ℤ c) chain)

-- ---- laws

-- A clause with a tight chain follows from the clauses of the chain, and so from all lists that have their sets.
abbrev pub TightChainsImply : Type 0
TightChainsImply = (c : Clause) (chain live : List Clause) → IsTightChain c chain →
    All (λ d. Any (λ e. SameSet e d) live) chain → IsRup live c
