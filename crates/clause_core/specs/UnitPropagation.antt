-- Unit propagation, as chains of clauses, and reverse unit propagation (RUP).
use Rattle.std.specs.Prelude.{◌≡◌, ℕ, ◌<◌, ◌⊎◌, true, List, [], ◌∷◌, map, ℤ, pos, neg_ℤ}
use Rattle.std.specs.List.{All, Contains}
use Rattle.graph_core.specs.Graph.Assignments.{Assignment}
use Rattle.clause_core.specs.Clause.{Clause, HasSigns, IsSubset, Satisfies, holds}

-- the literals but one are false under what is assumed
abbrev pub IsUnit : List ℤ → Clause → ℤ → Type 0
IsUnit assumed c l = Contains c l × ((k : ℤ) → Contains c k → (k ≡ l) ⊎ Contains assumed (neg_ℤ k))

-- every literal is false under what is assumed
abbrev pub IsFalsified : List ℤ → Clause → Type 0
IsFalsified assumed c = (k : ℤ) → Contains c k → Contains assumed (neg_ℤ k)

-- A chain of unit propagation: each clause but the last has one literal that isn't false under what is assumed so far, and
-- adds it to what is assumed; the last has none.
abbrev pub IsChain : List ℤ → List Clause → Type 0
IsChain assumed [] = ⊥
IsChain assumed (c ∷ []) = IsFalsified assumed c
IsChain assumed (c ∷ d ∷ ds) = (l : ℤ) × IsUnit assumed c l × IsChain (l ∷ assumed) (d ∷ ds)

-- a chain over the live clauses refutes what is assumed
abbrev pub IsRefuted : List Clause → List ℤ → Type 0
IsRefuted live assumed = (chain : List Clause) × All (Contains live) chain × IsChain assumed chain

-- a variable and its negation are both in the clause
abbrev pub IsTautology : Clause → Type 0
IsTautology c = (v : ℕ) × (0 < v) × Contains c (pos v) × Contains c (neg_ℤ (pos v))

-- A clause follows by reverse unit propagation: a chain over the live clauses refutes its negation, or it is a tautology.
abbrev pub IsRup : List Clause → Clause → Type 0
IsRup live c = IsRefuted live (map neg_ℤ c) ⊎ IsTautology c

-- What stands is closed under unit propagation without a conflict: no live clause is falsified, and each literal that one forces stands.
pub record IsFixpoint (live : List Clause) (standing : List ℤ) : Type 0 where
  pub no_conflict : (c : Clause) → Contains live c → IsFalsified standing c → ⊥
  pub closed : (c : Clause) (l : ℤ) → Contains live c → IsUnit standing c l → Contains standing l

-- ---- laws

-- Where the live clauses hold, a clause that follows by reverse unit propagation holds.
abbrev pub RupIsSound : Type 0
RupIsSound = (live : List Clause) (c : Clause) (σ : Assignment) → All HasSigns live → HasSigns c → IsRup live c → Satisfies σ live → holds σ c ≡ true

-- Where propagation from the negated literals ends without a conflict, no chain refutes them.
abbrev pub FixpointLeavesNoChain : Type 0
FixpointLeavesNoChain = (live : List Clause) (standing assumed : List ℤ) (chain : List Clause) → IsFixpoint live standing → IsSubset assumed standing →
    All (Contains live) chain → IsChain assumed chain → ⊥

-- Whatever is assumed, unit propagation ends: a chain refutes it, or it extends to a fixpoint.
abbrev pub PropagationEnds : Type 0
PropagationEnds = (live : List Clause) (assumed : List ℤ) → IsRefuted live assumed ⊎
    ((standing : List ℤ) × IsFixpoint live standing × IsSubset assumed standing)

-- A clause follows by reverse unit propagation, or it doesn't.
abbrev pub RupIsDecided : Type 0
RupIsDecided = (live : List Clause) (c : Clause) → IsRup live c ⊎ ¬ (IsRup live c)
