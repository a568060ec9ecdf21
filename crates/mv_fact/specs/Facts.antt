-- Facts by id over a table, and how they change.
use Rattle.std.specs.Prelude.{◌≡◌, ◌≢◌, ℕ, List, nat_eq}
use Rattle.std.specs.Map.{lookup}
use Rattle.std.specs.declared.option.Option.{Option}
use Rattle.graph_core.specs.declared.Gate.{Gate}
use Rattle.graph_core.specs.Graph.Assignments.{Assignment}
use Rattle.mv_fact.specs.Always.{Always}

-- What contracts see of live facts: the gates, the table, and the facts by id.
pub record Facts (Fact Table : Type 0) : Type 0 where
  pub gates : List Gate
  pub table : Table
  pub entries : List (ℕ × Fact)

-- the fact with this id
abbrev pub fact_at : {Fact : Type 0} → List (ℕ × Fact) → ℕ → Option Fact
fact_at entries id = lookup (nat_eq id) entries

-- What is known of each live fact: it is one of the table, and holds on every evaluation.
pub record IsKept {Fact Table : Type 0} (belongs : Fact → Table → Type 0) (holds : Fact → Table → Assignment → Type 0)
    (gates : List Gate) (table : Table) (fact : Fact) : Type 0 where
  pub of_table : belongs fact table
  pub always : Always gates (holds fact table)

-- This id alone changes: now it has the given fact, or none.
pub record ChangesAt {Fact Table : Type 0} (id : ℕ) (fact : Option Fact) (old new : Facts Fact Table) : Type 0 where
  pub gates : new.gates ≡ old.gates
  pub table : new.table ≡ old.table
  pub at : fact_at new.entries id ≡ fact
  pub others : (other : ℕ) → other ≢ id → fact_at new.entries other ≡ fact_at old.entries other

-- The table alone has changed, and it has grown.
pub record IsGrown {Fact Table : Type 0} (extends : Table → Table → Type 0) (old new : Facts Fact Table) : Type 0 where
  pub gates : new.gates ≡ old.gates
  pub table : extends new.table old.table
  pub entries : new.entries ≡ old.entries
