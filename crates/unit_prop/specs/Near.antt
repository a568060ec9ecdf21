-- What a look at the clauses near some literals finds.
use Rattle.std.specs.Prelude.{◌≡◌, ◌≢◌, ℕ, Bool, true, false, List, ℤ}
use Rattle.clause_core.specs.Clause.{Clause}
use Rattle.clause_core.specs.UnitPropagation.{IsRefuted}
use Rattle.unit_prop.specs.Visits.{partner}
use Rattle.unit_prop.specs.Watches.{IsWatchChain, has_node, watched}
use Rattle.unit_prop.specs.declared.watches.Node.{Node}

-- A chain refutes the literals; or each chain that refutes what they have grown to leads to one that refutes them.
abbrev pub FindsNear : List Clause → List ℤ → List ℤ → Bool → Type 0
FindsNear live old new true = IsRefuted live old
FindsNear live old new false = IsRefuted live new → IsRefuted live old

-- no node that hangs from a place on has a partner that watches the literal
abbrev pub HasNoPair : List Node → ℕ → ℤ → Type 0
HasNoPair nodes place other = (ns : List ℕ) → IsWatchChain nodes place ns → (n : ℕ) → has_node ns n ≡ true → watched nodes (partner n) ≢ other
